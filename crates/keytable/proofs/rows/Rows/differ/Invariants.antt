use mathlib.Core.Path.{◌≡◌}
use mathlib.Core.Bool.{true}
use Rattle.keytable.specs.Table.{rows_of, distinct}
use Rattle.keytable.proofs.Marks.{Marked}
use lib.ListN.{drop}
use Rattle.keytable.proofs.rows.Rows.differ.Given as goal

abbrev pub invariant-loop-i : goal.invariant-loop-i
invariant-loop-i l = record {
  differ : distinct (drop l.i (rows_of l.self.table.now)) ≡ true;
  marked : Marked l.self.table.now l.seen.words l.i;
}
