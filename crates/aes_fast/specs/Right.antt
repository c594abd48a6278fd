-- The right tables: table n has for each byte what its S-box value, in row n, adds to a mixed column (FIPS 197, section 5.1.3).
-- `round_tables` and `Right` are shut: upper crates know them by their laws (specs/Laws.antt) alone.
-- Assumes nothing.
use Rattle.std.specs.Prelude.{◌≡◌, ℕ, ◌+◌, ◌-◌, ◌*◌, ◌%◌, List, [], ◌∷◌, get_or}
use Rattle.octets.specs.Values.{values}
use Rattle.octets.specs.Bytes.{Bytes}
use Rattle.aes_field.specs.Field.{times, sbox}
use Rattle.aes_field.specs.Words.{Column, column_of}
use Rattle.aes.specs.State.{State, column}
use Rattle.aes_fast.specs.ByTables.{Tables}
pub mod Inside

-- a column as a word of 32 bits, row 0 lowest
abbrev pub word_from : Column → ℕ
word_from a = get_or a 0 0 + get_or a 1 0 * 256 + get_or a 2 0 * 65536 + get_or a 3 0 * 16777216

-- what the byte a in row 0 adds: the matrix's first column
abbrev pub spread : ℕ → Column
spread a = times a 2 ∷ a ∷ a ∷ times a 3 ∷ []

-- row r holds what row r - n held, modulo 4
abbrev pub turned : ℕ → Column → Column
turned n a = column_of (λ r. get_or a ((r + 4 - n) % 4) 0)

-- what the byte a in row n adds
abbrev pub added : ℕ → ℕ → Column
added n a = turned n (spread a)

abbrev pub round_table : ℕ → List ℕ
round_table n = values (λ a. word_from (added n (sbox a))) 0 256

pub round_tables : Tables
round_tables = round_table 0 ∷ round_table 1 ∷ round_table 2 ∷ round_table 3 ∷ []

pub Right : Tables → Type 0
Right t = t ≡ round_tables

-- what a caller keeps for a record and lends down: the right tables, and round keys of bytes
pub record Ready (t : Tables) (ks : List State) : Type 0 where
  pub tables : Right t
  pub keys : (n c : ℕ) → Bytes (column (get_or ks n []) c)
