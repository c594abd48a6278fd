-- FIPS 197, section 4.3: words of four bytes, and their product with a fixed matrix. A word is also a column of the state.
-- Assumes nothing.
use Rattle.std.specs.Prelude.{ℕ, ◌+◌, ◌-◌, ◌%◌, List, [], ◌∷◌, get_or}
use Rattle.std.specs.Int.Bits.{bit_xor}
use Rattle.aes_field.specs.Field.{times}

abbrev pub Column : Type 0
Column = List ℕ

abbrev pub column_of : (ℕ → ℕ) → Column
column_of f = f 0 ∷ f 1 ∷ f 2 ∷ f 3 ∷ []

abbrev pub sum4 : (ℕ → ℕ) → ℕ
sum4 f = bit_xor (bit_xor (bit_xor (f 0) (f 1)) (f 2)) (f 3)

-- a column times the matrix whose first row is k, and each further row the one above moved one place to the right
abbrev pub times_matrix : Column → Column → Column
times_matrix k a = column_of (λ r. sum4 (λ j. times (get_or a j 0) (get_or k ((j + 4 - r) % 4) 0)))

-- the first rows of 5.1.3 and 5.3.3
abbrev pub mix_row : Column
mix_row = 0x02 ∷ 0x03 ∷ 0x01 ∷ 0x01 ∷ []

abbrev pub inv_mix_row : Column
inv_mix_row = 0x0e ∷ 0x0b ∷ 0x0d ∷ 0x09 ∷ []
