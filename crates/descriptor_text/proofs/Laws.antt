-- The laws of specs/Laws.antt.
-- Assumes nothing.
use mathlib.Core.Path.{◌≡◌, refl, sym, ap, ◌∙◌}
use mathlib.Core.Bool.{Bool, true, false}
use mathlib.Core.List.{List, []}
use Prim.Native.Nat.{ℕ, ◌≤◌}
use native.Mathlib.Omega.{arith}
use lib.Dec.{eqb}
use lib.ListN.{length, replicate, length-replicate}
use borrow.Author.Tests.{eqb-true}
use Rattle.octets.specs.Lent.{when, kept}
use Rattle.octets.proofs.Lent.{length_over}
use Rattle.std.specs.Prelude.{Result, Ok, Err}
use Rattle.refusals.specs.declared.Refusal.{Refusal}
use Rattle.refusals.proofs.Laws.{refusal_unique, not_zero}
use Rattle.wording.specs.declared.text.Text.{Text}
use Rattle.wording.proofs.Told.{text_told}
use Rattle.wording.specs.Decimal.{digits_within, decimal}
use Rattle.wording.specs.Hex.{digit_of, digits_of, digits_shown}
use Rattle.descriptors.specs.Descriptor.{size_said, size_of}
use Rattle.descriptors.specs.Labels.{list_of, label_number}
use Rattle.octets.specs.Split.{split_by}
use Rattle.descriptors.specs.Parse.{split}
use Rattle.descriptors.specs.Tested.{unreserved}
use Rattle.keypage.specs.Page.{list_in}
use Rattle.keypage.specs.Read.{page_read_number}
use Rattle.keypage.proofs.Reserved.{reserved-number}
use Rattle.descriptor_text.specs.Lines.{descriptor_line, descriptor_lines, list_text}
use Rattle.descriptor_text.specs.Described.{described_room, described_as, described_says, label_described, page_described}
use Rattle.descriptor_text.specs.Laws.{DescribedFits, ExampleText, EmptyText, ReservedDescribed, LabelFits, PageFits, LabelDescribedUnique, PageDescribedUnique}
use Rattle.descriptor_text.proofs.Room.{text-length}
use Rattle.descriptor_text.proofs.Texts.{label_list_ok, page-list-ok, page-refused}

pub example_text : ExampleText
unfolding list_text descriptor_lines descriptor_line digits_shown digits_of digit_of decimal digits_within unreserved split split_by size_of size_said
example_text = refl

pub empty_text : EmptyText
unfolding list_text descriptor_lines decimal digits_within unreserved split split_by
empty_text = refl

-- ---- a page with a reserved descriptor

pub reserved_described : ReservedDescribed
reserved_described p h = page-refused p 2 (sym (reserved-number p h)) (λ z. omega arith)

-- ---- room

described_fits : (n : ℕ) (text : List ℕ) (d : Result (Text described_room) Refusal) → (n ≡ 0 → length text ≤ described_room)
    → described_as n text ≡ described_says d → DescribedFits d
described_fits n text d short e = record {
  room =
      sym (ap (λ (a : ℕ × ℕ × List ℕ). length a.2) e)
      ∙ length_over (kept n text []) (replicate described_room 0)
      ∙ length-replicate {A = ℕ} described_room 0;
  size = rw (sym (ap (λ (a : ℕ × ℕ × List ℕ). a.1) e)) (go (eqb n 0) refl);
}
  where
    go : (b : Bool) → eqb n 0 ≡ b → length (when b text []) ≤ described_room
    go true t = short (eqb-true n 0 t)
    go false t = omega arith

pub label_fits : LabelFits
unfolding label_described
label_fits s d e = described_fits (label_number s) (list_text true (list_of s)) d (λ zero. text-length true (list_of s) (label_list_ok s zero).1) e

pub page_fits : PageFits
unfolding page_described
page_fits p d e = described_fits (page_read_number p) (list_text false (list_in p)) d (λ zero. text-length false (list_in p) (page-list-ok p zero).1) e

-- ---- one text

described_same : (x y : Result (Text described_room) Refusal) → described_says x ≡ described_says y → x ≡ y
described_same (Ok t) (Ok u) e = ap Ok (text_told t u (ap (λ (a : ℕ × ℕ × List ℕ). (a.1, a.2)) e))
described_same (Ok t) (Err f) e = absurd (not_zero f (ap (λ (a : ℕ × ℕ × List ℕ). a.0) e))
described_same (Err d) (Ok u) e = absurd (not_zero d (sym (ap (λ (a : ℕ × ℕ × List ℕ). a.0) e)))
described_same (Err d) (Err f) e = ap Err (refusal_unique d f (ap (λ (a : ℕ × ℕ × List ℕ). a.0) e))

pub label_described_unique : LabelDescribedUnique
label_described_unique s x y p q = described_same x y (p ∙ sym q)

pub page_described_unique : PageDescribedUnique
page_described_unique p x y e f = described_same x y (e ∙ sym f)
