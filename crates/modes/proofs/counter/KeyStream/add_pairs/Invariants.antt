use mathlib.Core.Path.{◌≡◌}
use Prim.Native.Nat.{◌-◌, ◌%◌}
use lib.ListN.{length, take}
use Rattle.aes.specs.Cipher.{cipher}
use Rattle.modes.specs.Pads.{Serves}
use Rattle.modes.proofs.Stream.{Partly}
use Rattle.modes.proofs.counter.KeyStream.add_pairs.Given as goal

abbrev pub invariant-loop-at : goal.invariant-loop-at
invariant-loop-at g l =
    (l.k % 2 ≡ 0)
    × Serves l.initial.aes.keyed.tables.now l.initial.aes.keyed.keys.now g.row.W (take (16 - g.row.W) l.fn.self.base) l.s l.k
    × Partly (cipher l.initial.aes.keyed.keys.now) g.row.W (take (16 - g.row.W) l.fn.self.base) l.i l.text l.initial.out l.at l.k l.out

abbrev pub decreases-loop-at : goal.decreases-loop-at
decreases-loop-at g l = length l.text - l.at
