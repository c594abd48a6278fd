-- Blocks that differ in their last byte alone share most of rounds 1 and 2: ShiftRows brings that byte, in row 3 and column 3, to column 0 of round 1,
-- and the four bytes of that column to one column each of round 2. `start_by` and `cipher_from` are shut, as `cipher_by` is.
-- Assumes nothing.
use Rattle.std.specs.Prelude.{ℕ, List, [], ◌∷◌, ◌++◌, get_or, take}
use Rattle.std.specs.Int.Bits.{bit_xor}
use Rattle.aes_field.specs.Words.{Column}
use Rattle.aes.specs.State.{State, column, state_from, bytes_of}
use Rattle.aes.specs.Cipher.{add_column, add_round_key}
use Rattle.aes_fast.specs.ByTables.{Tables, column_from, table_entry, shifted, rounds_by, later_rounds_by}
use Rattle.aes_fast.specs.Right.{word_from}
use Rattle.aes_fast.specs.Halves.{columns_of, halves_from}
use Rattle.aes_fast.specs.declared.start.Start.{Start}
pub mod Inside

abbrev pub with_last : List ℕ → ℕ → List ℕ
with_last b low = take 15 b ++ (low ∷ [])

-- the state of the block b after n rounds
abbrev pub state_after : Tables → List State → ℕ → List ℕ → State
state_after t ks n b = rounds_by t ks n (add_round_key (state_from b) (get_or ks 0 []))

-- what column 0 of a state adds to each column of the next round
abbrev pub column_adds : Tables → Column → State
column_adds t a = table_entry t 0 (get_or a 0 0) ∷ table_entry t 3 (get_or a 3 0) ∷ table_entry t 2 (get_or a 2 0) ∷ table_entry t 1 (get_or a 1 0) ∷ []

-- what the blocks share: the last byte's key; column 0 of round 1 without what the last byte adds; and round 2 without what that column adds
pub start_by : Tables → List State → List ℕ → Start
start_by t ks b =
    record {
      key = get_or (column (get_or ks 0 []) 3) 3 0;
      first = word_from (add_column (column (state_after t ks 1 b) 0) (table_entry t 3 (shifted (state_after t ks 0 b) 0 3)));
      second = halves_from (add_round_key (state_after t ks 2 b) (column_adds t (column (state_after t ks 1 b) 0)));
    }

-- the state after round 2, with what the last byte adds
unfoldable pub begun_by : Tables → Start → ℕ → State
begun_by t s low = add_round_key (columns_of s.second) (column_adds t (add_column (column_from s.first) (table_entry t 3 (bit_xor low s.key))))

pub cipher_from : Tables → List State → Start → ℕ → List ℕ
cipher_from t ks s low = bytes_of (later_rounds_by t ks 2 (begun_by t s low))
