use mathlib.Core.Path.{◌≡◌}
use lib.ListN.{drop}
use Rattle.keytable.specs.Table.{row_place, rows_of}
use Rattle.keytable.specs.Find.{place_from}
use Rattle.keytable.proofs.rows.Rows.find_from.Given as goal

abbrev pub invariant-loop-i : goal.invariant-loop-i
invariant-loop-i l =
    place_from (row_place l.from) l.kind l.name (drop l.from (rows_of l.self.table.now)) ≡ place_from (row_place l.i) l.kind l.name (drop l.i (rows_of l.self.table.now))
