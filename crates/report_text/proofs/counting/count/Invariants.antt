-- What was counted, and what is left to count.
use Rattle.report_text.specs.Dump.{records_in}
use Rattle.report_text.proofs.Counts.{LeftIn}
use Rattle.report_text.proofs.counting.count.Given as goal

abbrev pub invariant-loop-record : goal.invariant-loop-record
invariant-loop-record l = LeftIn l.table l.dump l.opens l.records l.bytes (records_in l.record-iterator.rest.now)
