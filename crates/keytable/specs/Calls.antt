-- The calls of the key table: document 01's numbers ("Numbers given back"), and the values that come with 0.
-- Assumes nothing.
use Rattle.std.specs.Prelude.{ℕ, Bool, true, false, not, List, [], ◌∷◌, length, eqb, ltb, Result}
use Rattle.std.proofs.Math.Option.{Option, some, none}
use Rattle.octets.specs.Lent.{when, Tests, lowest, kept}
use Rattle.refusals.specs.Numbers.{outcome_says}
use Rattle.refusals.specs.declared.Refusal.{Refusal}
use Rattle.keytable.specs.Row.{name_max, type_max, Row}
use Rattle.keytable.specs.Table.{row_count, table_ok, row_for}

-- ---- the check: 1, "the table breaks its layout, or has more than 64 rows"

abbrev pub check_tests : List ℕ → Tests
check_tests t = (1, not (table_ok t)) ∷ []

unfoldable pub table_number : List ℕ → ℕ
table_number t = lowest (check_tests t)

-- the number, and the count of rows that comes with 0
abbrev pub table_says : Result ℕ Refusal → ℕ × List ℕ
table_says = outcome_says (λ r. r ∷ [])

unfoldable pub table_answer : List ℕ → ℕ × List ℕ
table_answer t = (table_number t, when (table_ok t) (row_count t ∷ []) [])

-- ---- the lookup as a call of its own: by whether the table is accepted and the row that matched; the use is lent, and changed by 0 alone

abbrev pub missing : Option Row → Bool
missing none = true
missing (some row) = false

abbrev pub use_in : Option Row → ℕ
use_in none = 0
use_in (some row) = row.row_use

-- 3: a type that no row can have
abbrev pub use_tests : Bool → Option Row → ℕ → List ℕ → Tests
use_tests ok row type name =
    (1, not ok) ∷ (2, eqb (length name) 0) ∷ (3, ltb type_max type) ∷ (4, ltb name_max (length name)) ∷ (6, missing row) ∷ []

unfoldable pub use_number : Bool → Option Row → ℕ → List ℕ → ℕ
use_number ok row type name = lowest (use_tests ok row type name)

unfoldable pub use_answer : Bool → Option Row → ℕ → List ℕ → ℕ → ℕ × ℕ
use_answer ok row type name before = (use_number ok row type name, kept (use_number ok row type name) (use_in row) before)

abbrev pub find_use : List ℕ → ℕ → List ℕ → ℕ → ℕ × ℕ
find_use t type name before = use_answer (table_ok t) (row_for t type name) type name before
