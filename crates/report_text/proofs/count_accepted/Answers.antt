-- `report_text::count_accepted` meets its contract: 1 by the table's check, 4 by the dump's length, and else what was counted.
-- Assumes nothing.
use mathlib.Core.Path.{sym, ◌∙◌}
use native.Mathlib.Omega.{arith}
use Rattle.std.proofs.lemmas.Result.{err_from_is_err_and}
use Rattle.keytable.proofs.Calls.{rows_accepted, broken-refused}
use Rattle.report_text.proofs.Counts.{rows-counted}
use Rattle.report_text.proofs.Texts.{number-one, number_four, number-zero}
use Rattle.report_text.proofs.count_accepted.Goals as goal

pub returns-in_err-rows : goal.returns-in_err-rows
returns-in_err-rows c =
    let p = err_from_is_err_and c.from_residual.result c.from_residual.ensures.1 in
    let refused = broken-refused _ _ c.in_err-rows.ensures in
    rw (p.1, p.2) (number-one _ _ refused.0 ∙ sym refused.1)

pub returns-then-longer : goal.returns-then-longer
returns-then-longer c = number_four _ _ (rows_accepted _ _ c.in_ok-rows.ensures) c.if-longer.true

pub count-requires : goal.count-requires
count-requires c = (rows_accepted _ _ c.in_ok-rows.ensures, omega arith)

pub returns : goal.returns
returns c = (
  number-zero _ _ (rows_accepted _ _ c.in_ok-rows.ensures) (omega arith),
  record {
    accepted = rows_accepted _ _ c.in_ok-rows.ensures;
    rows_are = rw c.count.ensures.0 (rows-counted _ _ c.in_ok-rows.ensures);
    counts = c.count.ensures.1;
    short = omega arith;
  },
)
