-- `record::opening::verify` meets its contract: in an accepted table the number is that of the row by which the record opens.
-- Assumes nothing.
use mathlib.Core.Path.{sym, ap, ◌∙◌}
use mathlib.Core.List.{List}
use Prim.Native.Nat.{ℕ}
use Rattle.refusals.proofs.Laws.{passed_on}
use Rattle.keytable.proofs.Calls.{rows_accepted, broken-refused}
use Rattle.record.proofs.OpenNumbers.{number-one}
use Rattle.record.proofs.OpenReady.{opened_as_verified}
use Rattle.record.proofs.opening.verify.Goals as goal

pub returns-in_err-check : goal.returns-in_err-check
returns-in_err-check c =
    let (refused, one) = broken-refused _ _ c.in_err-check.ensures in
    passed_on _ _ c.from_residual.ensures.1 ∙ one ∙ sym (number-one _ _ _ _ _ refused)

pub returns-in_err-opened_by : goal.returns-in_err-opened_by
returns-in_err-opened_by c =
    passed_on _ _ c.from_residual-in_err-opened_by.ensures.1
    ∙ ap (λ (x : ℕ × List ℕ). x.0) c.in_err-opened_by.ensures
    ∙ opened_as_verified _ _ _ (rows_accepted _ _ c.in_ok-check.ensures)

pub returns : goal.returns
returns c = ap (λ (x : ℕ × List ℕ). x.0) c.in_ok-opened_by.ensures ∙ opened_as_verified _ _ _ (rows_accepted _ _ c.in_ok-check.ensures)
