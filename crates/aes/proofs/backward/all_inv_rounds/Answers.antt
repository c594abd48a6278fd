-- `aes::backward::all_inv_rounds` meets its contract: undoing the i rounds left gives the result.
-- Assumes nothing.
use Rattle.std.proofs.Common.{arith}
use Rattle.aes.proofs.Rounds.{inv_rounds_less, inv_rounds_end}
use Rattle.aes.proofs.backward.all_inv_rounds.Goals as goal

pub loop-i-preserved : goal.loop-i-preserved
loop-i-preserved c = inv_rounds_less _ _ _ _ _ c.loop-i-test.true c.loop-i.invariant c.inv_round-next.ensures

pub returns : goal.returns
returns c = inv_rounds_end _ _ _ _ _ (omega arith) c.loop-i.invariant c.inv_last_round.ensures
