use Rattle.std.proofs.Common.{◌≡◌, ◌++◌, take, drop, map}
use Rattle.aes_field.specs.Field.{inv_sbox}
use Rattle.aes_field.proofs.inv_sbox.inv_sub.Given as goal

abbrev pub invariant-loop-a : goal.invariant-loop-a
invariant-loop-a l = l.a-items ≡ take l.a-index (map inv_sbox l.fn.b) ++ drop l.a-index l.fn.b
