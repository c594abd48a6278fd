-- The cipher by four tables of words: what any tables give. `column_from` and `cipher_by` are shut, as `cipher` is.
-- Assumes nothing.
use Rattle.std.specs.Prelude.{ℕ, zero, suc, ◌+◌, ◌-◌, ◌/◌, ◌%◌, List, [], ◌∷◌, get_or}
use Rattle.aes_field.specs.Words.{Column}
use Rattle.aes.specs.State.{State, column, state_of, state_from, bytes_of}
use Rattle.aes.specs.Cipher.{add_column, add_round_key}
pub mod Inside

abbrev pub Tables : Type 0
Tables = List (List ℕ)

-- a word of 32 bits as a column, row 0 lowest
pub column_from : ℕ → Column
column_from w = w % 256 ∷ w / 256 % 256 ∷ w / 65536 % 256 ∷ w / 16777216 % 256 ∷ []

-- what table n has for the byte a
abbrev pub table_entry : Tables → ℕ → ℕ → Column
table_entry t n a = column_from (get_or (get_or t n []) a 0)

-- the byte in row r that ShiftRows brings to column c
abbrev pub shifted : State → ℕ → ℕ → ℕ
shifted s c r = get_or (column s ((c + r) % 4)) r 0

-- for the bytes a, b, c and d, in rows 0 to 3: what each one's table has, together
abbrev pub mixed_by : Tables → ℕ → ℕ → ℕ → ℕ → Column
mixed_by t a b c d = add_column (add_column (add_column (table_entry t 0 a) (table_entry t 1 b)) (table_entry t 2 c)) (table_entry t 3 d)

-- and of each, in its own row, what a table has there that adds it once: for row 0 table 2, for row 1 table 3, for row 2 table 0, for row 3 table 1
abbrev pub substituted_by : Tables → ℕ → ℕ → ℕ → ℕ → Column
substituted_by t a b c d = get_or (table_entry t 2 a) 0 0 ∷ get_or (table_entry t 3 b) 1 0 ∷ get_or (table_entry t 0 c) 2 0 ∷ get_or (table_entry t 1 d) 3 0 ∷ []

-- a column of a round, and of the last round, with the key
abbrev pub round_column_by : Tables → ℕ → ℕ → ℕ → ℕ → Column → Column
round_column_by t a b c d k = add_column (mixed_by t a b c d) k

abbrev pub last_column_by : Tables → ℕ → ℕ → ℕ → ℕ → Column → Column
last_column_by t a b c d k = add_column (substituted_by t a b c d) k

unfoldable pub round_by : Tables → State → State → State
round_by t s k = state_of (λ c. round_column_by t (shifted s c 0) (shifted s c 1) (shifted s c 2) (shifted s c 3) (column k c))

unfoldable pub last_round_by : Tables → State → State → State
last_round_by t s k = state_of (λ c. last_column_by t (shifted s c 0) (shifted s c 1) (shifted s c 2) (shifted s c 3) (column k c))

-- the columns of a round as one column of the state after the other is added to them: x has first the one to which row 0 of the column a goes, and the result
-- the next one
abbrev pub column_fed : Tables → State → Column → State
column_fed t x a =
    add_column (column x 1) (table_entry t 3 (get_or a 3 0))
    ∷ add_column (column x 2) (table_entry t 2 (get_or a 2 0))
    ∷ add_column (column x 3) (table_entry t 1 (get_or a 1 0))
    ∷ add_column (column x 0) (table_entry t 0 (get_or a 0 0)) ∷ []

-- rounds 1 to n
unfoldable pub rounds_by : Tables → List State → ℕ → State → State
rounds_by t ks zero s = s
rounds_by t ks (suc n) s = round_by t (rounds_by t ks n s) (get_or ks (suc n) [])

-- n rounds after the first m
unfoldable pub rounds_after : Tables → List State → ℕ → ℕ → State → State
rounds_after t ks m zero s = s
rounds_after t ks m (suc n) s = round_by t (rounds_after t ks m n s) (get_or ks (m + suc n) [])

-- all rounds after the first m, the last too
abbrev pub later_rounds_by : Tables → List State → ℕ → State → State
later_rounds_by t ks m s = last_round_by t (rounds_after t ks m (13 - m) s) (get_or ks 14 [])

pub cipher_by : Tables → List State → List ℕ → List ℕ
cipher_by t ks b = bytes_of (last_round_by t (rounds_by t ks 13 (add_round_key (state_from b) (get_or ks 0 []))) (get_or ks 14 []))
