-- The laws of specs/Laws.antt.
-- Assumes nothing.
use mathlib.Core.Path.{refl, sym, ap, ◌∙◌}
use mathlib.Core.List.{List}
use Prim.Native.Nat.{ℕ}
use borrow.Author.Tests.{le-ltb}
use lib.ListN.{length, replicate}
use Rattle.octets.specs.Tests.{all}
use Rattle.octets.proofs.Lent.{length_over}
use Rattle.wording.specs.Decimal.{digits_within, decimal}
use Rattle.descriptors.specs.Descriptor.{size_said, size_of}
use Rattle.octets.specs.Split.{split_by}
use Rattle.descriptors.specs.Parse.{split}
use Rattle.descriptors.specs.Tested.{rises_from, split_ok, unreserved}
use Rattle.keypage.specs.Layout.{page_max}
use Rattle.keypage.specs.Page.{page_ok, fields_ok}
use Rattle.keypage.specs.KeyPart.{part_broken, part_refused, part_long}
use Rattle.keypage.specs.Read.{page_read_number}
use Rattle.keypage.proofs.Reserved.{reserved-number}
use Rattle.wording.proofs.Told as Told
use Rattle.page_text.specs.Listing.{field_lines, listing_number, listing, listing_max, listing_answer}
use Rattle.page_text.specs.Laws.{LongRefused, EmptyRefused, ReservedListed, ExampleListed, WrongTypeListed, TextRoom, TextUnique}
use Rattle.page_text.proofs.Listing.{listing-long}

pub long-refused : LongRefused
unfolding decimal digits_within
long-refused p long = listing-long p long

pub empty-refused : EmptyRefused
unfolding listing listing_number page_read_number page_ok part_broken decimal digits_within
empty-refused = refl

pub reserved_listed : ReservedListed
unfolding listing listing_number decimal digits_within
reserved_listed p short h = rw (le-ltb page_max (length p) short, reserved-number p h)

pub example_listed : ExampleListed
unfolding listing listing_number field_lines page_read_number page_ok fields_ok part_broken part_refused part_long split_ok rises_from unreserved split
    split_by size_of size_said all decimal digits_within
example_listed = refl

pub wrong_type_listed : WrongTypeListed
unfolding listing listing_number field_lines page_read_number page_ok fields_ok part_broken part_refused part_long split_ok rises_from unreserved split
    split_by size_of size_said all decimal digits_within
wrong_type_listed = (refl, refl)

pub text_room : TextRoom
text_room p bytes size e =
    sym (ap (λ (a : ℕ × List ℕ). length a.1) e) ∙ length_over (listing p) (replicate listing_max 0)

pub text_unique : TextUnique
text_unique p = Told.text_unique (listing_answer p)
