-- `console::taking::read_word` meets its contract: what was read lies within the room that was lent for it.
-- Assumes nothing.
use mathlib.Core.Path.{◌≡◌, refl, sym, ap}
use mathlib.Core.Bool.{not}
use mathlib.Core.List.{List, [], ◌∷◌}
use Prim.Native.Nat.{ℕ, ◌/◌, ◌≤◌}
use native.Mathlib.Omega.{arith}
use lib.Dec.{ltb}
use lib.ListN.{length}
use lib.Seq.{length-take-le}
use borrow.Author.Tests.{ltb-false}
use Rattle.octets.proofs.Lent.{none_applies}
use Rattle.wording.specs.Hex.{is_hex, hex_read}
use Rattle.console.proofs.taking.read_word.Goals as goal

within : (word room after : List ℕ) → hex_read word room ≡ (0, after) → length word / 2 ≤ length room
unfolding hex_read
within word room after reads =
    ltb-false (length room) (length word / 2)
    (none_applies ((2, not (is_hex word)) ∷ (5, ltb (length room) (length word / 2)) ∷ []) 1 refl (ap (λ (a : ℕ × List ℕ). a.0) reads))

pub slice_bounds-result-end : goal.slice_bounds-result-end
slice_bounds-result-end c =
    let read = c.read.new.out in
    let inside : length c.args.word.now / 2 ≤ length read = omega (arith, within c.args.word.now c.args.room.now read c.in-Ok.ensures, c.read.auto.out) in
    sym (length-take-le (length c.args.word.now / 2) read inside)
