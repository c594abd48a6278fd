-- `page_text::list_page` meets its contract: the text stands over the front of 256 zeros.
-- Assumes nothing.
use mathlib.Core.Path.{◌≡◌, sym, ap, ◌∙◌}
use Prim.Native.Nat.{ℕ}
use mathlib.Core.List.{List}
use native.Mathlib.Omega.{arith}
use Rattle.std.proofs.Common.{rules}
use Rattle.std.specs.Prelude.{Ok}
use lib.ListN.{replicate}
use Rattle.page_text.specs.Listing.{listing}
use Rattle.wording.specs.Writing.{Wrote}
use Rattle.wording.proofs.Puts.{adds_fit}
use Rattle.wording.proofs.Wrote.{wrote_front}
use Rattle.page_text.proofs.list_page.Goals.{After-put_listing}
use Rattle.page_text.proofs.list_page.Goals as goal

abbrev ok : (c : After-put_listing) → (c.put_listing.result ≡ Ok tt) × Wrote 0 (listing c.args.input.now) (replicate 256 0) c.put_listing.new.writer.out.now c.put_listing.new.writer.at
ok c = adds_fit c.put_listing.ensures.text (omega (arith, c.put_listing.ensures.has_room))

pub unwrap-requires : goal.unwrap-requires
unwrap-requires c = rw (ok (goal.at.unwrap-requires c).After-put_listing).0

pub invariant_of-result : goal.invariant_of-result
invariant_of-result c = let w = (ok (goal.at.invariant_of-result c).After-put_listing).1 in record { within = omega (arith, w.fits, w.place) }

pub returns : goal.returns
returns c =
    let w = (ok (goal.at.returns c).After-put_listing).1 in
    let n = c.put_listing.ensures.text.writes.same_room in
    let e : _ ≡ c.put_listing.new.writer.out.now = search rules in
    (wrote_front w ∙ ap (λ (l : List ℕ). (c.put_listing.new.writer.at, l)) (sym e), omega (arith, w.fits, w.place))
