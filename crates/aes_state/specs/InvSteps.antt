-- FIPS 197, sections 5.3.1 and 5.3.3: the inverses of ShiftRows and of MixColumns. AddRoundKey is its own inverse (5.3.4).
-- Assumes nothing.
use Rattle.std.specs.Prelude.{◌+◌, ◌-◌, ◌%◌, get_or}
use Rattle.aes_field.specs.Words.{Column, column_of, times_matrix, inv_mix_row}
use Rattle.aes_state.specs.State.{State, column, state_of}

-- 5.3.1: row r moves r places to the right
abbrev pub inv_shift_rows : State → State
inv_shift_rows s = state_of (λ c. column_of (λ r. get_or (column s ((c + 4 - r) % 4)) r 0))

-- 5.3.3
abbrev pub inv_mix_column : Column → Column
inv_mix_column = times_matrix inv_mix_row

abbrev pub inv_mix_columns : State → State
inv_mix_columns s = state_of (λ c. inv_mix_column (column s c))
