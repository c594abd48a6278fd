use Rattle.std.proofs.Common.{◌≡◌, ◌++◌, take, drop, replicate}
use Rattle.octets.specs.Xor.{xors}
use Rattle.octets.proofs.strings.xor.Given as goal

abbrev pub invariant-loop-i : goal.invariant-loop-i
invariant-loop-i g l = l.x-items ≡ take l.i (xors l.a l.b) ++ drop l.i (replicate g.row.N 0)
