-- `report_text::counting::count` meets its contract: what was counted and what is left to count are what the dump holds.
-- Assumes nothing.
use mathlib.Core.Path.{refl}
use native.Mathlib.Omega.{arith}
use Rattle.report_text.proofs.Counts.{left_first, left_countable, left_few, left_bytes, left_turn, left_last}
use Rattle.report_text.proofs.counting.count.Goals as goal

pub loop-record-init : goal.loop-record-init
loop-record-init c = rw c.into_iter-record-iterator.ensures.into_iter_gives (left_first c.args.table.now c.args.dump.now c.requires.0)

pub count_record-requires : goal.count_record-requires
count_record-requires c = (c.requires.0, left_countable c.loop-record.invariant c.requires.1)

pub overflow_add-records : goal.overflow_add-records
overflow_add-records c = omega (arith, left_few c.loop-record.invariant c.requires.1)

pub overflow_add-bytes : goal.overflow_add-bytes
overflow_add-bytes c = omega (arith, left_bytes c.loop-record.invariant c.in-Some.ensures.steps, c.requires.1)

pub loop-record-preserved : goal.loop-record-preserved
loop-record-preserved c = left_turn c.loop-record.invariant c.in-Some.ensures.steps c.count_record.ensures

pub returns : goal.returns
returns c = (refl, left_last c.loop-record.invariant c.in-None.ensures.steps.0)
