use mathlib.Core.Path.{◌≡◌}
use mathlib.Core.List.{◌++◌}
use Prim.Native.Nat.{◌/◌, ◌≤◌}
use lib.ListN.{length, take, drop}
use Rattle.wording.specs.Hex.{hex_bytes}
use Rattle.wording.proofs.hex.fill_bytes.Given as goal

abbrev pub invariant-loop-i : goal.invariant-loop-i
invariant-loop-i l = (l.i ≤ length l.word / 2) × (length l.out ≡ length l.initial.out) × (l.out ≡ take l.i (hex_bytes l.word) ++ drop l.i l.initial.out)
