-- The place of the row of a type and a name, for the crates above, which have checked the table: no call of document 01's. Of an accepted table it tells
-- that row exactly (`FindsRow`, `FindsExactly` and `ElseNothing` of specs/Laws.antt); of any other it looks at the header, and then as far as the first
-- such row.
-- Assumes nothing.
use Rattle.std.specs.Prelude.{ℕ, ◌+◌, List, [], ◌∷◌, Result, Ok, Err}
use Rattle.std.proofs.Math.Option.{Option, some, none}
use Rattle.octets.specs.Lent.{when}
use Rattle.refusals.specs.Numbers.{outcome_says}
use Rattle.refusals.specs.declared.Refusal.{Refusal}
use Rattle.refusals.specs.declared.Refusal.TheVariants.{TableLayout, NoRow}
use Rattle.keytable.specs.Row.{row_size, Row, matches}
use Rattle.keytable.specs.Table.{table_head_size, head_ok, rows_of, row_at}

-- 1: "the table breaks its layout", where its header does; 6: no row of that type and name; and the place that comes with 0
abbrev pub found_says : Result ℕ Refusal → ℕ × List ℕ
found_says = outcome_says (λ i. i ∷ [])

-- the first of these rows that has the type and the name, where they stand from place i on
unfoldable pub place_from : ℕ → ℕ → List ℕ → List Row → Result ℕ Refusal
place_from i type name [] = Err NoRow
place_from i type name (row ∷ rest) = when (matches type name row) (Ok i) (place_from (i + row_size) type name rest)

unfoldable pub place_of : List ℕ → ℕ → List ℕ → Result ℕ Refusal
place_of t type name = when (head_ok t) (place_from table_head_size type name (rows_of t)) (Err TableLayout)

abbrev pub found_answer : List ℕ → ℕ → List ℕ → ℕ × List ℕ
found_answer t type name = found_says (place_of t type name)

-- the row at the place that was found
abbrev pub row_found : List ℕ → Result ℕ Refusal → Option Row
row_found t (Ok i) = some (row_at t i)
row_found t (Err e) = none
