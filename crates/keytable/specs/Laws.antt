-- What the key table promises to the crates above it, as statements; proofs/Laws.antt proves each.
-- Assumes nothing.
use Rattle.std.specs.Prelude.{◌≡◌, ◌↔◌, Bool, true, false, List, [], ◌∷◌, ◌++◌, ℕ, ◌+◌, ◌≤◌, ◌<◌, length, Result}
use Rattle.std.proofs.Math.Option.{Option, some, none}
use Rattle.octets.specs.Lowest.{rises}
use Rattle.octets.specs.Places.{Placed}
use Rattle.octets.specs.Unique.{UniqueBy, Unique}
use Rattle.refusals.specs.declared.Refusal.{Refusal}
use Rattle.keytable.specs.Row.{row_size, row_key_size, name_max, use_max, kek_use, name_length, is_kek_type, type_fits, placed_name, placed_key, row_ok, Row, row_in, matches}
use Rattle.keytable.specs.Table.{row_place, number_of_place, row_count, head_ok, rows_of, row_number, table_ok, distinct, holders, row_for, data_row, row_at, placed_row}
use Rattle.keytable.specs.Calls.{check_tests, table_says, table_answer, use_tests, find_use}
use Rattle.keytable.specs.Find.{found_says, found_answer, row_found}

-- ---- matches

-- "A match is type and whole name together"
abbrev pub MatchesExactly : Type 0
MatchesExactly = (type : ℕ) (name : List ℕ) (row : Row) → (matches type name row ≡ true) ↔ ((row.row_type ≡ type) × (row.row_name ≡ name))

-- the name that is read of an accepted row is as long as its length byte says
abbrev pub NameRead : Type 0
NameRead = (s : List ℕ) → length s ≡ row_size → row_ok s ≡ true → length (row_in s).row_name ≡ name_length s

-- so a row whose name is longer or shorter is another's, were it by one zero byte; and so is one of another type
abbrev pub OtherLength : Type 0
OtherLength = (type : ℕ) (name : List ℕ) (row : Row) → (length row.row_name ≡ length name → ⊥) → matches type name row ≡ false

abbrev pub OtherType : Type 0
OtherType = (type : ℕ) (name : List ℕ) (row : Row) → (row.row_type ≡ type → ⊥) → matches type name row ≡ false

-- "rows differ by that pair": the test of it is passed exactly where no two rows have both one type and one name
abbrev pub DifferExactly : Type 0
DifferExactly =
    (xs : List Row) → (distinct xs ≡ true)
    ↔ ((i j : ℕ) → i < length xs → j < length xs → (row_number xs i).row_type ≡ (row_number xs j).row_type → (row_number xs i).row_name ≡ (row_number xs j).row_name → i ≡ j)

-- so two rows of an accepted table that match one type and one name are one row
abbrev pub OneRow : Type 0
OneRow =
    (t : List ℕ) (type : ℕ) (name : List ℕ) (i j : ℕ) → table_ok t ≡ true → i < row_count t → j < row_count t
    → matches type name (row_number (rows_of t) i) ≡ true → matches type name (row_number (rows_of t) j) ≡ true → i ≡ j

abbrev pub AtMostOne : Type 0
AtMostOne = (t : List ℕ) (type : ℕ) (name : List ℕ) → table_ok t ≡ true → length (holders type name (rows_of t)) ≤ 1

-- ---- the lookup

-- what a lookup found, in an accepted table, is the row of the type and the name
abbrev pub FindsRow : Type 0
FindsRow =
    (t : List ℕ) (type : ℕ) (name : List ℕ) (f : Result ℕ Refusal) → table_ok t ≡ true → found_says f ≡ found_answer t type name → row_for t type name ≡ row_found t f

-- row stands at a place that the lookup gives, within the table
pub record FoundRow (t : List ℕ) (type : ℕ) (name : List ℕ) (row : Row) : Type 0 where
  pub place : ℕ
  pub answers : found_answer t type name ≡ (0, place ∷ [])
  pub is : row_at t place ≡ row
  pub within : place + row_size ≤ length t

-- a place is given exactly where there is such a row, and the row there is that row
abbrev pub FindsExactly : Type 0
FindsExactly =
    (t : List ℕ) (type : ℕ) (name : List ℕ) (row : Row) → table_ok t ≡ true → FoundRow t type name row ↔ (row_for t type name ≡ some row)

abbrev pub ElseNothing : Type 0
ElseNothing = (t : List ℕ) (type : ℕ) (name : List ℕ) → table_ok t ≡ true → (found_answer t type name ≡ (6, [])) ↔ (row_for t type name ≡ none)

-- the number of the row at a row's place is the row's
abbrev pub NumberBack : Type 0
NumberBack = (i : ℕ) → number_of_place (row_place i) ≡ i

-- the place that is found is that of a row by its number, and a whole key stands in that row: these of any table
pub record Numbered (t : List ℕ) (place : ℕ) : Type 0 where
  pub below : number_of_place place < row_count t
  pub is : place ≡ row_place (number_of_place place)

abbrev pub FoundNumbered : Type 0
FoundNumbered = (t : List ℕ) (type : ℕ) (name : List ℕ) (place : ℕ) → found_answer t type name ≡ (0, place ∷ []) → Numbered t place

abbrev pub FoundKey : Type 0
FoundKey = (t : List ℕ) (type : ℕ) (name : List ℕ) (place : ℕ) → found_answer t type name ≡ (0, place ∷ []) → length (row_at t place).row_key ≡ row_key_size

-- and the row at the place of a number is the row of that number
abbrev pub RowAtNumber : Type 0
RowAtNumber = (t : List ℕ) (i : ℕ) → head_ok t ≡ true → i < row_count t → row_at t (row_place i) ≡ row_number (rows_of t) i

-- and 1 is said exactly of a table whose header breaks the layout
abbrev pub FindsBroken : Type 0
FindsBroken = (t : List ℕ) (type : ℕ) (name : List ℕ) → (found_answer t type name ≡ (1, [])) ↔ (head_ok t ≡ false)

-- the row of a type and a name in an accepted table has them both, the name within its maximum, a use that goes with the type, and a whole key
pub record GoodRow (type : ℕ) (name : List ℕ) (row : Row) : Type 0 where
  pub type_is : row.row_type ≡ type
  pub name_is : row.row_name ≡ name
  pub name_short : length name ≤ name_max
  pub use_low : 1 ≤ row.row_use
  pub use_high : row.row_use ≤ use_max
  pub use_fits : type_fits row.row_use type ≡ true
  pub key_size : length row.row_key ≡ row_key_size

abbrev pub RowForGood : Type 0
RowForGood = (t : List ℕ) (type : ℕ) (name : List ℕ) (row : Row) → table_ok t ≡ true → row_for t type name ≡ some row → GoodRow type name row

-- and is a key-encrypting key's exactly where the type is one of theirs
abbrev pub KekByType : Type 0
KekByType = (type : ℕ) (name : List ℕ) (row : Row) → GoodRow type name row → (row.row_use ≡ kek_use) ↔ (is_kek_type type ≡ true)

-- a row of an accepted table is the row of its own type and name
abbrev pub OwnRow : Type 0
OwnRow =
    (t : List ℕ) (i : ℕ) → table_ok t ≡ true → i < row_count t
    → let row = row_number (rows_of t) i in row_for t row.row_type row.row_name ≡ some row

-- ---- "Between two accepted tables with the same row for a name, or both with none, the other rows change no answer for that name", a row read as
-- document 02's No. 2 reads it

abbrev pub OtherRows : Type 0
OtherRows =
    (t u : List ℕ) (type : ℕ) (name : List ℕ) (before : ℕ) → table_ok t ≡ true → table_ok u ≡ true → row_for t type name ≡ row_for u type name
    → find_use t type name before ≡ find_use u type name before

-- the same row, from the rows of that type and name alone
abbrev pub HoldersRow : Type 0
HoldersRow =
    (t u : List ℕ) (type : ℕ) (name : List ℕ) → table_ok t ≡ true → table_ok u ≡ true → holders type name (rows_of t) ≡ holders type name (rows_of u)
    → row_for t type name ≡ row_for u type name

-- u has the rows of t and one more, at any place
pub record RowMore (t u : List ℕ) (row : Row) : Type 0 where
  pub before : List Row
  pub after : List Row
  pub without : rows_of t ≡ before ++ after
  pub has : rows_of u ≡ before ++ (row ∷ after)

-- a row of another type changes nothing, were it of the same name
abbrev pub OtherTypeRow : Type 0
OtherTypeRow =
    (t u : List ℕ) (row : Row) (type : ℕ) (name : List ℕ) → RowMore t u row → (row.row_type ≡ type → ⊥) → row_for u type name ≡ row_for t type name

-- so a key-encrypting key's row more changes nothing for a record or a reference, nor does another row more for a page that names a key-encrypting key
abbrev pub KekRowMore : Type 0
KekRowMore =
    (t u : List ℕ) (row : Row) (name : List ℕ) → table_ok u ≡ true → RowMore t u row → row.row_use ≡ kek_use → data_row u name ≡ data_row t name

abbrev pub DataRowMore : Type 0
DataRowMore =
    (t u : List ℕ) (row : Row) (type : ℕ) (name : List ℕ) → table_ok u ≡ true → RowMore t u row → (row.row_use ≡ kek_use → ⊥) → is_kek_type type ≡ true
    → row_for u type name ≡ row_for t type name

-- ---- "The lowest that applies is given, and no other."

abbrev pub CheckTestsRise : Type 0
CheckTestsRise = (t : List ℕ) → rises (check_tests t) ≡ true

abbrev pub UseTestsRise : Type 0
UseTestsRise = (ok : Bool) (row : Option Row) (type : ℕ) (name : List ℕ) → rises (use_tests ok row type name) ≡ true

-- ---- "Empty table: 00 01 00 00 00 08 00 48"

abbrev pub empty_table : List ℕ
empty_table = 0x00 ∷ 0x01 ∷ 0x00 ∷ 0x00 ∷ 0x00 ∷ 0x08 ∷ 0x00 ∷ 0x48 ∷ []

abbrev pub EmptyTable : Type 0
EmptyTable = table_answer empty_table ≡ (0, 0 ∷ [])

-- ---- for each input one answer, and one state of what is lent

abbrev pub TableCheckUnique : Type 0
TableCheckUnique = (t : List ℕ) → UniqueBy table_says (table_answer t)

abbrev pub FindUnique : Type 0
FindUnique = (t : List ℕ) (type : ℕ) (name : List ℕ) → UniqueBy found_says (found_answer t type name)

abbrev pub RowAtUnique : Type 0
RowAtUnique = (t : Placed) (at : ℕ) → Unique (placed_row t at)

abbrev pub NameAtUnique : Type 0
NameAtUnique = (t : Placed) (at : ℕ) → Unique (placed_name (placed_row t at))

abbrev pub UseAtUnique : Type 0
UseAtUnique = (t : List ℕ) (at : ℕ) → Unique (row_at t at).row_use

abbrev pub KeyAtUnique : Type 0
KeyAtUnique = (t : Placed) (at : ℕ) → Unique (placed_key (placed_row t at))

abbrev pub FindUseUnique : Type 0
FindUseUnique = (t : List ℕ) (type : ℕ) (name : List ℕ) (before : ℕ) → Unique (find_use t type name before)
