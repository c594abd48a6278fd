-- FIPS 197, sections 5.1.2 to 5.1.4: the steps of a round that need no S-box.
-- Assumes nothing.
use Rattle.std.specs.Prelude.{◌+◌, ◌%◌, get_or}
use Rattle.std.specs.Int.Bits.{bit_xor}
use Rattle.aes_field.specs.Words.{Column, column_of, times_matrix, mix_row}
use Rattle.aes_state.specs.State.{State, column, state_of}

-- 5.1.2: row r moves r places to the left
abbrev pub shift_rows : State → State
shift_rows s = state_of (λ c. column_of (λ r. get_or (column s ((c + r) % 4)) r 0))

-- 5.1.3
abbrev pub mix_column : Column → Column
mix_column = times_matrix mix_row

abbrev pub mix_columns : State → State
mix_columns s = state_of (λ c. mix_column (column s c))

-- 5.1.4
abbrev pub add_column : Column → Column → Column
add_column a k = column_of (λ r. bit_xor (get_or a r 0) (get_or k r 0))

abbrev pub add_round_key : State → State → State
add_round_key s k = state_of (λ c. add_column (column s c) (column k c))
