-- Loading a key (document 01, "Key page"): "A load writes the key into the first 32 bytes lent for it and answers the page's fields."
-- Assumes nothing.
use Rattle.std.specs.Prelude.{ℕ, Bool, false, not, ◌&&◌, List, [], ◌∷◌, length, eqb, ltb}
use Rattle.std.proofs.Math.Option.{Option, some, none}
use Rattle.octets.specs.Lent.{is_not, Tests, lowest, kept, answer}
use Rattle.keytable.specs.Row.{row_key_size, Row}
use Rattle.keytable.specs.Table.{table_ok, row_for, data_row}
use Rattle.keytable.specs.Calls.{missing, use_in}
use Rattle.keywrap.specs.Wrap as wrap
use Rattle.keywrap.specs.Calls.{wrapped_size}
use Rattle.keypage.specs.Page.{algorithm_in, format_in, key_part_of, fields_of}
use Rattle.keypage.specs.KeyPart.{by_format, kek_type, identifier_of, wrapped_of, needs_row}
use Rattle.keypage.specs.Read.{broken, refused, long}

-- the row of a wrapped key's KEK, by its type and its whole identifier
abbrev pub kek_row : List ℕ → List ℕ → Option Row
kek_row t s = row_for t (kek_type s) (identifier_of s)

-- the row that a KEY part names: by a reference, as a record's name is looked for, or the KEK's; a 00h page names none
abbrev pub row_named : List ℕ → ℕ → List ℕ → Option Row
row_named t f s = by_format f none (data_row t s) (kek_row t s) none

-- the key of the row that matched
abbrev pub key_in : Option Row → List ℕ
key_in none = []
key_in (some row) = row.row_key

-- 6 to 9, by the row that matched, the page's algorithm index, and the format and bytes of its KEY part; 7 is a reference's: "01h: .. the row's use equals
-- ALGORITHM INDEX"
abbrev pub part_tests : Option Row → ℕ → ℕ → List ℕ → Tests
part_tests row algorithm f s =
    (6, needs_row f && missing row)
    ∷ (7, by_format f false (not (eqb (use_in row) algorithm)) false false)
    ∷ (8, by_format f false false (is_not wrapped_size (wrapped_of s)) false)
    ∷ (9, by_format f false false (not (wrap.start_right (key_in row) (wrapped_of s))) false)
    ∷ []

-- the key: the KEY part itself, the row's, or what the wrapped bytes hold
unfoldable pub key_loaded : Option Row → ℕ → List ℕ → List ℕ
key_loaded row f s = by_format f s (key_in row) (wrap.unwrapped_key (key_in row) (wrapped_of s)) []

-- what the KEY part decides, with room for the key
abbrev pub part_answer : Option Row → ℕ → ℕ → List ℕ → List ℕ → ℕ × List ℕ
part_answer row algorithm f s out = answer (lowest (part_tests row algorithm f s)) (key_loaded row f s) out

abbrev pub load_tests : Bool → Option Row → List ℕ → ℕ → Tests
load_tests ok row p room =
    (1, not ok)
    ∷ (2, broken p)
    ∷ (3, refused p)
    ∷ (4, long p)
    ∷ (5, ltb room row_key_size)
    ∷ part_tests row (algorithm_in p) (format_in p) (key_part_of p)

unfoldable pub load_number : Bool → Option Row → List ℕ → ℕ → ℕ
load_number ok row p room = lowest (load_tests ok row p room)

-- by whether the table is accepted and the row that matched; the fields are lent too, and changed by 0 alone
unfoldable pub load_row : Bool → Option Row → List ℕ → List ℕ → List ℕ → (ℕ × List ℕ) × List ℕ
load_row ok row p out fields = (
  answer (load_number ok row p (length out)) (key_loaded row (format_in p) (key_part_of p)) out,
  kept (load_number ok row p (length out)) (fields_of p) fields,
)

abbrev pub load_answer : List ℕ → List ℕ → List ℕ → List ℕ → (ℕ × List ℕ) × List ℕ
load_answer t p out fields = load_row (table_ok t) (row_named t (format_in p) (key_part_of p)) p out fields
