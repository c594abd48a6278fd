-- The key table (document 01, "Key table"; document 02, No. 2): its header, its rows, and the row of a type and a name.
-- Assumes nothing.
use Rattle.std.specs.Prelude.{ℕ, zero, suc, ◌+◌, ◌-◌, ◌*◌, ◌/◌, Bool, true, ◌&&◌, not, List, [], ◌∷◌, map, length, get_or, take, drop, eqb, leb}
use Rattle.std.proofs.Math.Option.{Option, some, none}
use Rattle.octets.specs.BigEndian.{number_at}
use Rattle.octets.specs.Lent.{when}
use Rattle.octets.specs.Tests.{every, all, part_of}
use Rattle.octets.specs.Places.{Placed, part_in}
use Rattle.keytable.specs.Row.{row_size, data_type, row_ok, Row, row_in, matches}

-- "Header: 0-1 format 0001h; 2-3 row count r; 4-5 offset of the first row, 0008h; 6-7 row length, 0048h. Total exactly 8+72r"
abbrev pub table_format : ℕ
table_format = 1

abbrev pub table_head_size : ℕ
table_head_size = 8

-- "Maxima": "Table 0 to 64 rows"
abbrev pub row_max : ℕ
row_max = 64

abbrev pub row_count : List ℕ → ℕ
row_count t = number_at 2 t 2

-- the place of row number i, from 0
abbrev pub row_place : ℕ → ℕ
row_place i = table_head_size + row_size * i

-- and the number of the row at a place
abbrev pub number_of_place : ℕ → ℕ
number_of_place at = (at - table_head_size) / row_size

abbrev pub head_tests : List ℕ → List Bool
head_tests t =
    eqb (number_at 2 t 0) table_format
    ∷ leb (row_count t) row_max
    ∷ eqb (number_at 2 t 4) table_head_size
    ∷ eqb (number_at 2 t 6) row_size
    ∷ eqb (length t) (row_place (row_count t))
    ∷ []

unfoldable pub head_ok : List ℕ → Bool
head_ok t = every (head_tests t)

-- the bytes of the first n rows of s
unfoldable pub rows : ℕ → List ℕ → List (List ℕ)
rows zero s = []
rows (suc n) s = take row_size s ∷ rows n (drop row_size s)

unfoldable pub row_parts : List ℕ → List (List ℕ)
row_parts t = rows (row_count t) (drop table_head_size t)

-- the rows as they are read
abbrev pub rows_of : List ℕ → List Row
rows_of t = map row_in (row_parts t)

-- row number i, from 0; and what is read of no bytes, where there is none
abbrev pub no_row : Row
no_row = row_in []

abbrev pub row_number : List Row → ℕ → Row
row_number xs i = get_or xs i no_row

-- no row has this type and this name
abbrev pub absent : ℕ → List ℕ → List Row → Bool
absent type name = all (λ (row : Row). not (matches type name row))

-- document 02, No. 2: "rows differ by that pair"
unfoldable pub distinct : List Row → Bool
distinct [] = true
distinct (row ∷ rest) = absent row.row_type row.row_name rest && distinct rest

abbrev pub table_tests : List ℕ → List Bool
table_tests t = head_ok t ∷ all row_ok (row_parts t) ∷ distinct (rows_of t) ∷ []

unfoldable pub table_ok : List ℕ → Bool
table_ok t = every (table_tests t)

-- the rows of this type and this name, and the first of them
unfoldable pub holders : ℕ → List ℕ → List Row → List Row
holders type name [] = []
holders type name (row ∷ rest) = when (matches type name row) (row ∷ holders type name rest) (holders type name rest)

unfoldable pub lookup : ℕ → List ℕ → List Row → Option Row
lookup type name [] = none
lookup type name (row ∷ rest) = when (matches type name row) (some row) (lookup type name rest)

-- the row of a type and a name
abbrev pub row_for : List ℕ → ℕ → List ℕ → Option Row
row_for t type name = lookup type name (rows_of t)

-- "Records and references look for type 0000h"
abbrev pub data_row : List ℕ → List ℕ → Option Row
data_row t name = row_for t data_type name

-- the row from a place, of no bytes where they do not lie in the table
unfoldable pub row_size_at : List ℕ → ℕ → ℕ
row_size_at t i = when (leb (i + row_size) (length t)) row_size 0

abbrev pub row_at : List ℕ → ℕ → Row
row_at t i = row_in (part_of t i (row_size_at t i))

-- its bytes, as the part of the table that they are
abbrev pub placed_row : Placed → ℕ → Placed
placed_row t i = part_in t i (row_size_at t.bytes i)
