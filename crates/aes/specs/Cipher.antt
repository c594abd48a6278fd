-- FIPS 197, section 5.1: the cipher, at the key length 256, which has 14 rounds. A schedule is a list of fifteen round keys.
-- `cipher` is shut: upper crates know it by its laws (specs/Laws.antt) alone, and `Cipher.Inside` is for the crates of the block cipher.
-- Assumes nothing.
use Rattle.std.specs.Prelude.{ℕ, zero, suc, List, [], get_or}
use Rattle.aes_field.specs.Field.{sbox}
use Rattle.aes_field.specs.Words.{Column, column_of}
use Rattle.aes.specs.State.{State, column, state_of, state_from, bytes_of}
-- 5.1.2 to 5.1.4
pub use Rattle.aes_state.specs.Steps.{shift_rows, mix_column, mix_columns, add_column, add_round_key}
pub mod Inside

-- 5.1.1
abbrev pub sub_column : Column → Column
sub_column a = column_of (λ r. sbox (get_or a r 0))

abbrev pub sub_bytes : State → State
sub_bytes s = state_of (λ c. sub_column (column s c))

-- 5.1: rounds 1 to 13, and the last, without MixColumns
unfoldable pub round : State → State → State
round s k = add_round_key (mix_columns (shift_rows (sub_bytes s))) k

unfoldable pub last_round : State → State → State
last_round s k = add_round_key (shift_rows (sub_bytes s)) k

-- rounds 1 to n
unfoldable pub first_rounds : List State → ℕ → State → State
first_rounds ks zero s = s
first_rounds ks (suc n) s = round (first_rounds ks n s) (get_or ks (suc n) [])

pub cipher : List State → List ℕ → List ℕ
cipher ks b = bytes_of (last_round (first_rounds ks 13 (add_round_key (state_from b) (get_or ks 0 []))) (get_or ks 14 []))
