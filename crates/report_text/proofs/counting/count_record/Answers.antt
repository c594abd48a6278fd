-- `report_text::counting::count_record` meets its contract: the row at the place by which the record opens is the one whose count grows.
-- Assumes nothing.
use Prim.Native.Nat.{◌≤◌}
use native.Mathlib.Omega.{arith}
use lib.ListN.{get_or}
use Rattle.keytable.specs.Table.{number_of_place}
use Rattle.report_text.specs.Dump.{dump_max}
use Rattle.report_text.proofs.Counts.{counts-none, opened-number, counts_more, rows_few}
use Rattle.report_text.proofs.counting.count_record.Goals as goal

pub bounds-opens-number_at : goal.bounds-opens-number_at
bounds-opens-number_at c =
    let n = opened-number _ _ c.requires.0 c.in-Ok.at c.in-Ok.ensures in
    omega (arith, c.number_at.ensures, n.below, rows_few _ c.requires.0, c.requires.1.enough)

pub overflow_add-opens : goal.overflow_add-opens
overflow_add-opens c =
    let n = opened-number _ _ c.requires.0 c.in-Ok.at c.in-Ok.ensures in
    let small : get_or c.args.opens.now c.number_at.result 0 ≤ dump_max = rw c.number_at.ensures (c.requires.1.small (number_of_place c.in-Ok.at) n.below) in
    omega (arith, small)

pub bounds-opens-number_at-in-Ok : goal.bounds-opens-number_at-in-Ok
bounds-opens-number_at-in-Ok c =
    let n = opened-number _ _ c.requires.0 c.in-Ok.at c.in-Ok.ensures in
    omega (arith, c.number_at.ensures, n.below, rows_few _ c.requires.0, c.requires.1.enough)

pub returns-in-Ok : goal.returns-in-Ok
returns-in-Ok c =
    counts_more _ _ c.requires.0 c.in-Ok.at c.in-Ok.ensures _ _ c.number_at.ensures (omega (arith, rows_few c.args.table.now c.requires.0, c.requires.1.enough))

pub returns-in_default : goal.returns-in_default
returns-in_default c = counts-none _ _ c.requires.0 _ _ c.in_default.ensures
