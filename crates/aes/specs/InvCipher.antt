-- FIPS 197, section 5.3: the inverse cipher. `inv_cipher` is shut, as `cipher` is.
-- Assumes nothing.
use Rattle.std.specs.Prelude.{ℕ, zero, suc, List, [], get_or}
use Rattle.aes_field.specs.Field.{inv_sbox}
use Rattle.aes_field.specs.Words.{Column, column_of}
use Rattle.aes.specs.State.{State, column, state_of, state_from, bytes_of}
use Rattle.aes.specs.Cipher.{add_round_key}
-- 5.3.1 and 5.3.3
pub use Rattle.aes_state.specs.InvSteps.{inv_shift_rows, inv_mix_column, inv_mix_columns}
pub mod Inside

-- 5.3.2
abbrev pub inv_sub_column : Column → Column
inv_sub_column a = column_of (λ r. inv_sbox (get_or a r 0))

abbrev pub inv_sub_bytes : State → State
inv_sub_bytes s = state_of (λ c. inv_sub_column (column s c))

-- 5.3: rounds 13 to 1, and the last, without InvMixColumns. 5.3.4: AddRoundKey is its own inverse.
unfoldable pub inv_round : State → State → State
inv_round s k = inv_mix_columns (add_round_key (inv_sub_bytes (inv_shift_rows s)) k)

unfoldable pub inv_last_round : State → State → State
inv_last_round s k = add_round_key (inv_sub_bytes (inv_shift_rows s)) k

-- rounds n to 1, and then the last
unfoldable pub inv_rounds : List State → ℕ → State → State
inv_rounds ks zero s = inv_last_round s (get_or ks 0 [])
inv_rounds ks (suc n) s = inv_rounds ks n (inv_round s (get_or ks (suc n) []))

pub inv_cipher : List State → List ℕ → List ℕ
inv_cipher ks b = bytes_of (inv_rounds ks 13 (add_round_key (state_from b) (get_or ks 14 [])))
