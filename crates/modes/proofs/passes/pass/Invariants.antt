use mathlib.Core.Path.{◌≡◌}
use mathlib.Core.Bool.{false}
use Prim.Native.Nat.{◌-◌}
use lib.ListN.{length}
use Rattle.aes.specs.Cipher.{cipher}
use Rattle.aes_fast.specs.Halves.{halves_block}
use Rattle.modes.specs.Counter.{counter_block, writes_into, front_of}
use Rattle.modes.specs.Pads.{Serves}
use Rattle.modes.proofs.CcmPass.{Passed}
use Rattle.modes.proofs.passes.pass.Given as goal

abbrev pub invariant-loop-at : goal.invariant-loop-at
invariant-loop-at g l =
    Serves l.initial.aes.keyed.tables.now l.initial.aes.keyed.keys.now 3 (front_of false l.pads.base) l.s l.k
    × (halves_block l.pad ≡ cipher l.initial.aes.keyed.keys.now (counter_block 3 (front_of false l.pads.base) l.k))
    × Passed g.D.Direction.opening (writes_into l.initial.out) (cipher l.initial.aes.keyed.keys.now) 3 (front_of false l.pads.base)
    (halves_block l.initial.h) l.text l.initial.out (halves_block l.h) l.at l.k l.out

abbrev pub decreases-loop-at : goal.decreases-loop-at
decreases-loop-at g l = length l.text - l.at
