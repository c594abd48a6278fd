-- `report_text::lines::put_rows` meets its contract: what puts the lines that are left puts all.
-- Assumes nothing.
use native.Mathlib.Omega.{arith}
use Rattle.std.proofs.lemmas.Result.{err_from_is_err_and}
use Rattle.octets.proofs.Places.{its_bytes}
use Rattle.wording.proofs.Puts.{adds_none, adds_then, adds_stop}
use Rattle.report_text.proofs.Texts.{rows_turn, rows_end}
use Rattle.report_text.proofs.lines.put_rows.Goals as goal

pub returns-in_err-put_open : goal.returns-in_err-put_open
returns-in_err-put_open c =
    let p = err_from_is_err_and c.from_residual.result c.from_residual.ensures.1 in
    let turn =
    rows_turn c.args.table.now c.args.counts c.loop-i.i c.place_of.result c.requires.0 (omega (arith, c.loop-i-test.true, c.requires.1))
    c.place_of.ensures (its_bytes c.name_at.ensures)
    in
    rw (p.1, p.2) (c.loop-i.invariant _ _ (rw turn (adds_stop _ c.in_err-put_open.ensures)))

pub loop-i-preserved : goal.loop-i-preserved
loop-i-preserved c final answer more =
    let turn =
    rows_turn c.args.table.now c.args.counts c.loop-i.i c.place_of.result c.requires.0 (omega (arith, c.loop-i-test.true, c.requires.1))
    c.place_of.ensures (its_bytes c.name_at.ensures)
    in
    c.loop-i.invariant final answer (rw turn (adds_then c.in_ok-put_open.ensures more))

pub returns : goal.returns
returns c =
    let left = rows_end c.args.table.now c.args.counts c.loop-i.i (omega (arith, c.loop-i-test.false, c.requires.1)) in
    c.loop-i.invariant _ _ (rw left adds_none)
