-- Sealing (document 01, "Record"): "Sealing is given table, name, IV, associated data and plaintext; the row's use is the mode."
-- Assumes nothing.
use Rattle.std.specs.Prelude.{◌≡◌, ℕ, ◌≤◌, Bool, true, not, ◌||◌, List, [], ◌∷◌, ◌++◌, length, eqb, ltb}
use Rattle.std.proofs.Math.Option.{Option, some, none}
use Rattle.octets.specs.Lent.{Tests, is_not, lowest, kept, answer}
use Rattle.keytable.specs.Row.{name_max, row_key_size, Row}
use Rattle.keytable.specs.Table.{table_ok, data_row}
use Rattle.keytable.specs.Calls.{missing, use_in}
use Rattle.modes.specs.Mode.{sealed}
use Rattle.modes.specs.Calls.{text_max}
use Rattle.modes.specs.Modes.{mode_of}
use Rattle.record.specs.Record.{end_at, record_front}
use Rattle.record.specs.Read.{passes}

-- "Caller's associated data 0 to 4,096"
abbrev pub callers_max : ℕ
callers_max = 4096

-- "The mode's associated data is the first 24+k bytes of the record, then the caller's": the record of a use and a key
unfoldable pub record_of : ℕ → List ℕ → List ℕ → List ℕ → List ℕ → List ℕ → List ℕ
record_of u key name iv a p =
    record_front u name (length p) ++ (iv ++ sealed (mode_of u) key iv (record_front u name (length p) ++ a) p)

abbrev pub record_by : Option Row → List ℕ → List ℕ → List ℕ → List ℕ → List ℕ
record_by none name iv a p = []
record_by (some row) name iv a p = record_of row.row_use row.row_key name iv a p

-- "52+k+n": the bytes that sealing n bytes by a row fills; without a row, CCM's
abbrev pub sealed_size : Option Row → List ℕ → ℕ → ℕ
sealed_size row name n = end_at (mode_of (use_in row)) (length name) n

-- the record of that row, where there is one
abbrev pub record_for : List ℕ → List ℕ → List ℕ → List ℕ → List ℕ → List ℕ
record_for t name iv a p = record_by (data_row t name) name iv a p

-- what the record of a use and a key takes: lengths that the mode and document 01 permit, and room
abbrev pub Fillable : ℕ → List ℕ → List ℕ → List ℕ → List ℕ → List ℕ → List ℕ → Type 0
Fillable u key name iv a p out =
    (length key ≡ row_key_size) × (length name ≤ name_max) × (length iv ≡ (mode_of u).iv_size) × ((mode_of u).permits (length p) ≡ true)
    × (length a ≤ callers_max) × (length p ≤ text_max) × (end_at (mode_of u) (length name) (length p) ≤ length out)

-- sealing n bytes into so much room: of the plaintext its length alone is looked at
abbrev pub seal_tests : Bool → Option Row → List ℕ → List ℕ → List ℕ → ℕ → ℕ → Tests
seal_tests ok row name iv a n room =
    (1, not ok)
    ∷ (2, eqb (length name) 0 || is_not (mode_of (use_in row)).iv_size iv || not ((mode_of (use_in row)).permits n))
    ∷ (4, passes (length name) n || ltb callers_max (length a))
    ∷ (5, ltb room (sealed_size row name n))
    ∷ (6, missing row)
    ∷ []

unfoldable pub seal_number : Bool → Option Row → List ℕ → List ℕ → List ℕ → ℕ → ℕ → ℕ
seal_number ok row name iv a n room = lowest (seal_tests ok row name iv a n room)

-- the tests by themselves: a number, and the row that comes with 0
unfoldable pub ready_by : Bool → Option Row → List ℕ → List ℕ → List ℕ → ℕ → ℕ → ℕ × Option Row
ready_by ok row name iv a n room = (seal_number ok row name iv a n room, kept (seal_number ok row name iv a n room) row none)

abbrev pub ready_answer : List ℕ → List ℕ → List ℕ → List ℕ → ℕ → ℕ → ℕ × Option Row
ready_answer t name iv a n room = ready_by (table_ok t) (data_row t name) name iv a n room

-- by whether the table is accepted and the row that matched
unfoldable pub seal_row : Bool → Option Row → List ℕ → List ℕ → List ℕ → List ℕ → List ℕ → ℕ × List ℕ
seal_row ok row name iv a p out = answer (seal_number ok row name iv a (length p) (length out)) (record_by row name iv a p) out

abbrev pub seal_answer : List ℕ → List ℕ → List ℕ → List ℕ → List ℕ → List ℕ → ℕ × List ℕ
seal_answer t name iv a p out = seal_row (table_ok t) (data_row t name) name iv a p out
