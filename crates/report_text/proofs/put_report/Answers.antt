-- `report_text::put_report` meets its contract: four pieces, one after the other.
-- Assumes nothing.
use native.Mathlib.Omega.{arith}
use Rattle.std.proofs.lemmas.Result.{err_from_is_err_and}
use Rattle.wording.proofs.Puts.{adds, adds_then, adds_stop}
use Rattle.keytable.proofs.Accepted.{accepted_head}
use Rattle.report_text.proofs.Counts.{rows_few}
use Rattle.report_text.proofs.Texts.{bytes_inside, report_said}
use Rattle.report_text.proofs.put_report.Goals as goal

pub returns-in_err-put_line : goal.returns-in_err-put_line
returns-in_err-put_line c =
    let p = err_from_is_err_and c.from_residual.result c.from_residual.ensures.1 in
    rw (p.1, p.2, report_said c.requires) (adds_stop _ (adds c.in_err-put_line.ensures))

pub returns-in_err-put_line-2 : goal.returns-in_err-put_line-2
returns-in_err-put_line-2 c =
    let p = err_from_is_err_and c.from_residual-in_err-put_line-2.result c.from_residual-in_err-put_line-2.ensures.1 in
    rw (p.1, p.2, report_said c.requires) (adds_then (adds c.in_ok-put_line.ensures) (adds_stop _ (adds c.in_err-put_line-2.ensures)))

pub put_rows-requires : goal.put_rows-requires
put_rows-requires c =
    let r = c.requires in
    (accepted_head _ r.accepted, r.rows_are, omega (arith, r.rows_are, rows_few _ r.accepted))

pub returns-in_err-put_rows : goal.returns-in_err-put_rows
returns-in_err-put_rows c =
    let p = err_from_is_err_and c.from_residual-in_err-put_rows.result c.from_residual-in_err-put_rows.ensures.1 in
    rw (p.1, p.2, report_said c.requires)
    (adds_then (adds c.in_ok-put_line.ensures) (adds_then (adds c.in_ok-put_line-2.ensures) (adds_stop _ c.in_err-put_rows.ensures)))

pub overflow_sub-dump : goal.overflow_sub-dump
overflow_sub-dump c = bytes_inside c.requires

pub returns : goal.returns
returns c =
    rw (report_said c.requires)
    (adds_then (adds c.in_ok-put_line.ensures)
    (adds_then (adds c.in_ok-put_line-2.ensures) (adds_then c.in_ok-put_rows.ensures (adds c.put_line-3.ensures))))
