-- Opening (document 01, "Record"): the row of the record's own name, by its whole; "opening fills the first n". The count n is answered too.
-- Assumes nothing.
use Rattle.std.specs.Prelude.{◌≡◌, ℕ, ◌≤◌, Bool, true, false, not, ◌||◌, List, [], ◌∷◌, ◌++◌, length, eqb, ltb, Result, Ok, Err}
use Rattle.std.proofs.Math.Option.{Option, some, none}
use Rattle.octets.specs.Lent.{Tests, lowest, kept, answer}
use Rattle.refusals.specs.Numbers.{number_of, outcome_says}
use Rattle.refusals.specs.declared.Refusal.{Refusal}
use Rattle.keytable.specs.Row.{data_type, Row}
use Rattle.keytable.specs.Table.{table_ok, data_row, row_at}
use Rattle.keytable.specs.Calls.{missing, use_in}
use Rattle.keytable.specs.Find.{place_of, found_answer, row_found}
use Rattle.modes.specs.Modes.{names_mode}
use Rattle.record.specs.Record.{mode_for, mode_in, count_in, name_size_lem, layout_ok, front_in, name_in, iv_in, text_in, tag_in}
use Rattle.record.specs.Read.{passes, header_answer}
use Rattle.record.specs.Seal.{callers_max}
use Rattle.record.specs.declared.opening.Ready.{Ready}

-- whether the tag is right by a key, and the plaintext
unfoldable pub authentic_by : List ℕ → List ℕ → List ℕ → Bool
authentic_by key r a = (mode_for r).authentic key (iv_in r) (front_in r ++ a) (text_in r) (tag_in r)

unfoldable pub plaintext_by : List ℕ → List ℕ → List ℕ
plaintext_by key r = (mode_for r).plaintext key (iv_in r) (text_in r)

abbrev pub authentic_in : Option Row → List ℕ → List ℕ → Bool
authentic_in none r a = false
authentic_in (some row) r a = authentic_by row.row_key r a

abbrev pub plaintext_in : Option Row → List ℕ → List ℕ
plaintext_in none r = []
plaintext_in (some row) r = plaintext_by row.row_key r

-- the tag by itself
abbrev pub record_tag_tests : List ℕ → List ℕ → List ℕ → Tests
record_tag_tests key r a = (9, not (authentic_by key r a)) ∷ []

-- what the tag decides, with room for the plaintext
abbrev pub tag_answer : List ℕ → List ℕ → List ℕ → List ℕ → ℕ × List ℕ
tag_answer key r a out = answer (lowest (record_tag_tests key r a)) (plaintext_by key r) out

abbrev pub open_tests : Bool → Option Row → List ℕ → List ℕ → ℕ → Tests
open_tests ok row r a room =
    (1, not ok)
    ∷ (2, not (layout_ok r))
    ∷ (3, not (names_mode (mode_in r)))
    ∷ (4, passes (name_size_lem r) (count_in r) || ltb callers_max (length a))
    ∷ (5, ltb room (count_in r))
    ∷ (6, missing row)
    ∷ (7, not (eqb (use_in row) (mode_in r)))
    ∷ (9, not (authentic_in row r a))
    ∷ []

unfoldable pub open_number : Bool → Option Row → List ℕ → List ℕ → ℕ → ℕ
open_number ok row r a room = lowest (open_tests ok row r a room)

-- the number and the output; and the count, which is lent and changed by 0 alone
unfoldable pub open_row : Bool → Option Row → List ℕ → List ℕ → List ℕ → ℕ → (ℕ × List ℕ) × ℕ
open_row ok row r a out count =
    (answer (open_number ok row r a (length out)) (plaintext_in row r) out, kept (open_number ok row r a (length out)) (count_in r) count)

abbrev pub open_answer : List ℕ → List ℕ → List ℕ → List ℕ → ℕ → (ℕ × List ℕ) × ℕ
open_answer t r a out count = open_row (table_ok t) (data_row t (name_in r)) r a out count

-- ---- what the tests before the tag's find, in a table that is not tested but for its header: for callers that have checked it

-- the data row of the record's name
abbrev pub row_looked : List ℕ → List ℕ → Option Row
row_looked t r = row_found t (place_of t data_type (name_in r))

-- every one of them is passed, and the row stands at the place
pub record ReadyAt (t r a : List ℕ) (room at u k n : ℕ) : Type 0 where
  pub fields : header_answer r ≡ (0, u ∷ k ∷ n ∷ [])
  pub data_fits : length a ≤ callers_max
  pub room_fits : n ≤ room
  pub found : found_answer t data_type (name_in r) ≡ (0, at ∷ [])
  pub same_use : (row_at t at).row_use ≡ u

-- or one is not, and gives opening's number
abbrev pub TestsFind : List ℕ → List ℕ → List ℕ → ℕ → Result Ready Refusal → Type 0
TestsFind t r a room (Ok x) = ReadyAt t r a room x.at x.record.header.mode x.record.header.k x.record.header.n
TestsFind t r a room (Err e) = (open_number true (row_looked t r) r a room ≡ number_of e) × (number_of e ≡ 0 → ⊥)

-- ---- verification: opening's number where there is room for the plaintext

abbrev pub verify_answer : List ℕ → List ℕ → List ℕ → ℕ
verify_answer t r a = open_number (table_ok t) (data_row t (name_in r)) r a (count_in r)

-- the same for callers that have checked the table, with the place of the row by which the record opens
unfoldable pub opened_number : List ℕ → List ℕ → List ℕ → ℕ
opened_number t r a = open_number true (row_looked t r) r a (count_in r)

unfoldable pub opened_at : List ℕ → List ℕ → List ℕ → ℕ × List ℕ
opened_at t r a = (opened_number t r a, kept (opened_number t r a) (found_answer t data_type (name_in r)).1 [])

abbrev pub opening_says : Result ℕ Refusal → ℕ × List ℕ
opening_says = outcome_says (λ i. i ∷ [])
