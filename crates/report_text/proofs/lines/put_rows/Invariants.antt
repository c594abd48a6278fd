-- What puts the lines that are left puts all.
use lib.ListN.{drop}
use Rattle.std.specs.Prelude.{Result}
use Rattle.refusals.specs.declared.Refusal.{Refusal}
use Rattle.wording.specs.declared.writing.Writer.{Writer}
use Rattle.wording.specs.Writer.{Adds}
use Rattle.keytable.specs.Table.{rows_of}
use Rattle.report_text.specs.Counted.{count_lines}
use Rattle.report_text.proofs.lines.put_rows.Given as goal

abbrev pub invariant-loop-i : goal.invariant-loop-i
invariant-loop-i l =
    (final : Writer) (answer : Result (Unit {0}) Refusal) → Adds (count_lines l.counts l.i (drop l.i (rows_of l.table))) l.writer final answer
    → Adds (count_lines l.counts 0 (rows_of l.table)) l.initial.writer final answer
