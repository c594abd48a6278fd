-- `wording::writing::Writer::put_line` meets its contract: what ends the line stands whole in its 22 bytes.
-- Assumes nothing.
use mathlib.Core.Path.{◌≡◌, sym, ap, subst, ◌∙◌}
use mathlib.Core.List.{List, [], ◌∷◌, ◌++◌}
use Prim.Native.Nat.{ℕ, ◌≤◌}
use native.Mathlib.Omega.{arith}
use Rattle.std.proofs.Common.{rules}
use lib.ListN.{length, take, replicate}
use lib.Seq.{length-take-le}
use Rattle.wording.specs.Decimal.{decimal}
use Rattle.wording.specs.Lines.{space, newline}
use Rattle.wording.specs.Writing.{writer_put, Wrote}
use Rattle.wording.proofs.Puts.{line-space, line-number, line-newline, line_end, writes_same}
use Rattle.wording.proofs.Wrote.{wrote-length, wrote_taken}
use Rattle.wording.proofs.writing.Writer.put_line.Goals.{In_ok-put_byte-2}
use Rattle.wording.proofs.writing.Writer.put_line.Goals as goal

pub returns-in_err-put_byte : goal.returns-in_err-put_byte
returns-in_err-put_byte c = absurd (line-space c.args.n c.ranges.n.fits c.in_err-put_byte.ensures.put)

pub returns-in_err-put_decimal : goal.returns-in_err-put_decimal
returns-in_err-put_decimal c = absurd (line-number c.args.n c.ranges.n.fits c.in_ok-put_byte.ensures.put c.in_err-put_decimal.ensures.put)

pub returns-in_err-put_byte-2 : goal.returns-in_err-put_byte-2
returns-in_err-put_byte-2 c =
    absurd (line-newline c.args.n c.ranges.n.fits c.in_ok-put_byte.ensures.put c.in_ok-put_decimal.ensures.put c.in_err-put_byte-2.ensures.put)

ended : (c : In_ok-put_byte-2) → Wrote 0 (space ∷ (decimal c.args.n ++ newline ∷ [])) (replicate 22 0) c.put_byte-2.new.self.out.now c.put_byte-2.new.self.at
ended c = line_end c.args.n c.ranges.n.fits c.in_ok-put_byte.ensures.put c.in_ok-put_decimal.ensures.put c.in_ok-put_byte-2.ensures.put

same_room : (c : In_ok-put_byte-2) → c.put_byte-2.new.self.out.ghost_name ≡ c.put_byte.new.self.out.ghost_name
same_room c = c.in_ok-put_byte-2.ensures.same_room ∙ c.in_ok-put_decimal.ensures.same_room

within : (c : In_ok-put_byte-2) → c.put_byte-2.new.self.at ≤ length c.put_byte-2.new.self.out.now
within c = let w = ended c in omega (arith, w.fits, w.place, wrote-length w)

pub slice_bounds-room-end : goal.slice_bounds-room-end
slice_bounds-room-end c =
    let b = (goal.at.slice_bounds-room-end c).In_ok-put_byte-2 in
    let n = same_room b in
    let m = c.in_ok-put_byte.ensures.same_room in
    let e : _ ≡ c.put_byte-2.new.self.out.now = search rules in
    subst (λ (l : List ℕ). c.put_byte-2.new.self.at ≤ length l) (sym e) (within b)

pub slice_bounds-put_two-end : goal.slice_bounds-put_two-end
slice_bounds-put_two-end c =
    let b = (goal.at.slice_bounds-put_two-end c).In_ok-put_byte-2 in
    let n = same_room b in
    let m = c.in_ok-put_byte.ensures.same_room in
    let e : _ ≡ c.put_byte-2.new.self.out.now = search rules in
    sym (length-take-le _ _ (subst (λ (l : List ℕ). c.put_byte-2.new.self.at ≤ length l) (sym e) (within b)))

pub returns : goal.returns
returns c =
    let b = (goal.at.returns c).In_ok-put_byte-2 in
    let n = same_room b in
    let m = c.in_ok-put_byte.ensures.same_room in
    let e : _ ≡ c.put_byte-2.new.self.out.now = search rules in
    let taken = ap (take c.put_byte-2.new.self.at) e ∙ wrote_taken (ended b) in
    writes_same (ap (λ (t : List ℕ). writer_put (c.args.word.now ++ t) (c.args.self.now.at, c.args.self.now.out.now)) (sym taken)) c.put_two.ensures
