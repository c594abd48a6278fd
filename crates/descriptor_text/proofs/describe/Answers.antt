-- `descriptor_text::describe` meets its contract: the text stands over the front of its room's zeros.
-- Assumes nothing.
use mathlib.Core.Path.{◌≡◌, sym, ap, ◌∙◌}
use mathlib.Core.List.{List}
use Prim.Native.Nat.{ℕ}
use native.Mathlib.Omega.{arith}
use lib.ListN.{replicate}
use Rattle.std.proofs.Common.{rules}
use Rattle.std.specs.Prelude.{Ok}
use Rattle.wording.specs.Writing.{Wrote}
use Rattle.wording.proofs.Puts.{adds_fit}
use Rattle.wording.proofs.Wrote.{wrote_front}
use Rattle.descriptor_text.specs.Lines.{list_text}
use Rattle.descriptor_text.specs.Described.{described_room}
use Rattle.descriptor_text.proofs.Room.{text-length}
use Rattle.descriptor_text.proofs.describe.Goals.{After-put_list}
use Rattle.descriptor_text.proofs.describe.Goals as goal

abbrev ok : (c : After-put_list)
    → (c.put_list.result ≡ Ok tt) × Wrote 0 (list_text c.args.opening.label c.args.list.now) (replicate described_room 0) c.put_list.new.writer.out.now c.put_list.new.writer.at
ok c = adds_fit c.put_list.ensures (omega (arith, text-length c.args.opening.label c.args.list.now c.requires.1))

pub unwrap-requires : goal.unwrap-requires
unwrap-requires c = rw (ok (goal.at.unwrap-requires c).After-put_list).0

pub invariant_of-result : goal.invariant_of-result
invariant_of-result c = let w = (ok (goal.at.invariant_of-result c).After-put_list).1 in record { within = omega (arith, w.fits, w.place) }

pub returns : goal.returns
returns c =
    let w = (ok (goal.at.returns c).After-put_list).1 in
    let n = c.put_list.ensures.writes.same_room in
    let e : _ ≡ c.put_list.new.writer.out.now = search rules in
    ap (λ (p : ℕ × List ℕ). (0, p.0, p.1)) (wrote_front w ∙ ap (λ (l : List ℕ). (c.put_list.new.writer.at, l)) (sym e))
