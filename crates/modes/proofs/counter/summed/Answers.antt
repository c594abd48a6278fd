-- `modes::counter::summed` meets its contract: the sum of the text with zeros after it, cut to the text's length, is the text's own.
-- Assumes nothing.
use mathlib.Core.Path.{◌≡◌, refl, ap, ◌∙◌}
use mathlib.Core.List.{List, [], ◌∷◌, ◌++◌}
use Prim.Native.Nat.{ℕ, ◌≤◌}
use native.Mathlib.Omega.{arith}
use lib.ListN.{length, take, replicate, length-take}
use Rattle.std.specs.Int.Bits.{bit_xor}
use Rattle.octets.specs.Xor.{xors}
use Rattle.octets.specs.Blocks.{fill}
use Rattle.octets.proofs.Lent.{over_fits}
use Rattle.octets.proofs.Written.{over_filled}
use Rattle.modes.proofs.counter.summed.Goals as goal

front_sum : (s z pad : List ℕ) → length s ≤ length pad → take (length s) (xors (s ++ z) pad) ≡ xors s pad
front_sum [] z pad h = refl
front_sum (x ∷ s) z [] h = absurd (omega arith)
front_sum (x ∷ s) z (y ∷ pad) h = ap (λ (l : List ℕ). bit_xor x y ∷ l) (front_sum s z pad (omega arith))

pub returns : goal.returns
returns c =
    let a = c.args in
    let n = length a.text.bytes.now in
    c.first-2.ensures
    ∙ over_filled (take n c.xor-sum.result) (omega (arith, length-take n c.xor-sum.result, a.text.short))
    ∙ ap fill
    (ap (take n) (c.xor-sum.ensures ∙ ap (λ (l : List ℕ). xors l a.pad) (c.first.ensures ∙ over_fits a.text.bytes.now (replicate 16 0) a.text.short))
    ∙ front_sum a.text.bytes.now _ a.pad (omega (arith, a.text.short)))
