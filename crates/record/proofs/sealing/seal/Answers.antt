-- `record::sealing::seal` meets its contract: refused by its tests, or the record written by the row that they found.
-- Assumes nothing.
use mathlib.Core.Path.{sym, ap, ◌∙◌}
use Prim.Native.Nat.{ℕ}
use Rattle.refusals.proofs.Laws.{passed_on}
use Rattle.record.proofs.SealReady.{seal-refused, seal-written}
use Rattle.record.proofs.sealing.seal.Goals as goal

pub returns-in_err-at : goal.returns-in_err-at
returns-in_err-at c =
    seal-refused _ _ _ _ _ _ _ _ c.in_err-at.ensures ∙ ap (λ (n : ℕ). (n, c.args.out.now)) (sym (passed_on _ _ c.from_residual.ensures.1))

pub returns : goal.returns
returns c = seal-written _ _ _ _ _ _ _ _ _ c.in_ok-at.ensures c.write.ensures
