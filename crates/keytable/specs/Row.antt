-- A row of the key table (document 01, "Key table"; document 02, No. 2): the layout of its bytes, the row that is read from them, and what it answers to.
-- Assumes nothing.
use Rattle.std.specs.Prelude.{ℕ, ◌+◌, ◌-◌, Bool, ◌&&◌, ◌||◌, List, [], ◌∷◌, get_or, eqb, leb}
use Rattle.octets.specs.BigEndian.{number_at}
use Rattle.octets.specs.Same.{same}
use Rattle.octets.specs.Lent.{when}
use Rattle.octets.specs.Places.{Placed, part_in}
use Rattle.octets.specs.Tests.{every, zeros, part_of}

-- ---- the bytes: "Row: 0 name length 1 to 32; 1 use (01h CCM, 02h GCM, 03h key-encrypting key); 2-7 zero; 8-39 name, zeros after its length;
-- 40-71 key"; of bytes 2-3 document 02: "Row bytes 2-3 now hold the KEK type for use 03h (0001h or 0002h) and zero for other uses." 4-7 stay zero

abbrev pub name_max : ℕ
name_max = 32

abbrev pub use_max : ℕ
use_max = 3

abbrev pub kek_use : ℕ
kek_use = 0x03

abbrev pub row_name_at : ℕ
row_name_at = 8

abbrev pub row_key_at : ℕ
row_key_at = 40

abbrev pub row_key_size : ℕ
row_key_size = 32

abbrev pub row_size : ℕ
row_size = 72

abbrev pub name_length : List ℕ → ℕ
name_length s = get_or s 0 0

abbrev pub use_of : List ℕ → ℕ
use_of s = get_or s 1 0

abbrev pub type_in : List ℕ → ℕ
type_in s = number_at 2 s 2

abbrev pub name_of : List ℕ → List ℕ
name_of s = part_of s row_name_at (name_length s)

abbrev pub key_of : List ℕ → List ℕ
key_of s = part_of s row_key_at row_key_size

-- each as the part of the row that it is
abbrev pub placed_name : Placed → Placed
placed_name s = part_in s row_name_at (name_length s.bytes)

abbrev pub placed_key : Placed → Placed
placed_key s = part_in s row_key_at row_key_size

-- the type of a row that is no key-encrypting key's, and those of one that is
abbrev pub data_type : ℕ
data_type = 0x0000

abbrev pub is_kek_type : ℕ → Bool
is_kek_type type = eqb type 0x0001 || eqb type 0x0002

abbrev pub type_max : ℕ
type_max = 0x0002

abbrev pub type_fits : ℕ → ℕ → Bool
type_fits u type = when (eqb u kek_use) (is_kek_type type) (eqb type data_type)

abbrev pub row_tests : List ℕ → List Bool
row_tests s =
    leb 1 (name_length s)
    ∷ leb (name_length s) name_max
    ∷ leb 1 (use_of s)
    ∷ leb (use_of s) use_max
    ∷ type_fits (use_of s) (type_in s)
    ∷ zeros (part_of s 4 4)
    ∷ zeros (part_of s (row_name_at + name_length s) (name_max - name_length s))
    ∷ []

unfoldable pub row_ok : List ℕ → Bool
row_ok s = every (row_tests s)

-- ---- the row that is read from them: all that other definitions take of it

pub record Row : Type 0 where
  pub row_type : ℕ
  pub row_name : List ℕ
  pub row_use : ℕ
  pub row_key : List ℕ

abbrev pub row_in : List ℕ → Row
row_in s = record { row_type = type_in s; row_name = name_of s; row_use = use_of s; row_key = key_of s }

-- "A match is type and whole name together"
unfoldable pub matches : ℕ → List ℕ → Row → Bool
matches type name row = eqb row.row_type type && same row.row_name name
