-- `modes::short::put_sum` meets its contract: after i turns the first i bytes are written.
-- Assumes nothing.
use mathlib.Core.Path.{◌≡◌, refl, sym, ap₂, ◌∙◌}
use mathlib.Core.List.{List}
use Prim.Native.Nat.{ℕ}
use native.Mathlib.Omega.{arith}
use lib.ListN.{length, set, length-set}
use Rattle.octets.specs.Xor.{xors}
use Rattle.octets.proofs.Lent.{over_turn, over_end}
use Rattle.octets.proofs.Xor.{length-xors}
use Rattle.octets.proofs.Written.{get_d-xors}
use Rattle.modes.proofs.short.put_sum.Goals as goal

-- the sum is as long as the text

long : (s pads : List ℕ) → length pads ≡ length s → length (xors s pads) ≡ length s
long s pads e = length-xors s pads (omega (arith, e))

pub loop-i-init : goal.loop-i-init
loop-i-init c = (refl, refl)

pub bounds-pads-i : goal.bounds-pads-i
bounds-pads-i c = omega (arith, c.requires.0)

pub bounds-out-i : goal.bounds-out-i
bounds-out-i c = omega (arith, c.requires.1)

pub loop-i-preserved : goal.loop-i-preserved
loop-i-preserved c =
    let a = c.args in
    let l = c.loop-i in
    let size = long a.c.now a.pads.now c.requires.0 in (
      simp length-set l.invariant.0,
      ap₂ (λ (d : List ℕ) (v : ℕ). set d l.i v) l.invariant.1 (sym (get_d-xors a.c.now a.pads.now l.i (omega arith) (omega (arith, c.requires.0))))
          ∙ over_turn (xors a.c.now a.pads.now) a.out.now l.i (omega (arith, size)) (omega (arith, c.requires.1)),
    )

pub shape_of-out : goal.shape_of-out
shape_of-out c = c.loop-i.invariant.0

pub returns : goal.returns
returns c =
    let a = c.args in
    c.loop-i.invariant.1
    ∙ over_end (xors a.c.now a.pads.now) a.out.now c.loop-i.i (omega (arith, long a.c.now a.pads.now c.requires.0, c.requires.1))
