use Rattle.std.proofs.Common.{◌≡◌}
use Rattle.aes.specs.InvCipher.{inv_rounds}
use Rattle.aes.proofs.backward.all_inv_rounds.Given as goal

abbrev pub invariant-loop-i : goal.invariant-loop-i
invariant-loop-i l = inv_rounds l.ks l.i l.x ≡ inv_rounds l.ks 13 l.fn.s
