-- FIPS 197, section 3.4: the state. A state is a list of four columns of four bytes, as a round key is; a block is a list of 16 bytes.
-- Assumes nothing.
use Rattle.std.specs.Prelude.{ℕ, ◌+◌, ◌*◌, List, [], ◌∷◌, ◌++◌, get_or}
use Rattle.aes_field.specs.Words.{Column, column_of}

abbrev pub State : Type 0
State = List Column

abbrev pub column : State → ℕ → Column
column s c = get_or s c []

abbrev pub state_of : (ℕ → Column) → State
state_of f = f 0 ∷ f 1 ∷ f 2 ∷ f 3 ∷ []

-- byte r + 4c of a block is in row r and column c
abbrev pub state_from : List ℕ → State
state_from b = state_of (λ c. column_of (λ r. get_or b (r + 4 * c) 0))

abbrev pub column_bytes : Column → List ℕ
column_bytes a = column_of (λ r. get_or a r 0)

abbrev pub bytes_of : State → List ℕ
bytes_of s = column_bytes (column s 0) ++ column_bytes (column s 1) ++ column_bytes (column s 2) ++ column_bytes (column s 3)
