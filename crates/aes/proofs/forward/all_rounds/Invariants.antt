use Rattle.std.proofs.Common.{◌≡◌}
use Rattle.aes.specs.Cipher.{first_rounds}
use Rattle.aes.proofs.forward.all_rounds.Given as goal

abbrev pub invariant-loop-k : goal.invariant-loop-k
invariant-loop-k l = l.x ≡ first_rounds l.fn.ks l.k-index l.fn.s
