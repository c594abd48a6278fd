-- Byte strings as hexadecimal digits, in ASCII: two digits a byte, the more significant first.
-- Assumes nothing.
use Rattle.std.specs.Prelude.{ℕ, ◌+◌, ◌-◌, ◌*◌, ◌/◌, ◌%◌, Bool, not, ◌&&◌, ◌||◌, List, [], ◌∷◌, eqb, ltb, length}
use Prim.Native.Char.{code}
use Rattle.octets.specs.Lent.{when, Tests, lowest, answer}
use Rattle.octets.specs.Tests.{all}
use Rattle.wording.specs.Ascii.{ascii}
use Rattle.wording.specs.Decimal.{between, is_decimal_digit, decimal_digit}

-- `a` to `f`
abbrev pub is_small_digit : ℕ → Bool
is_small_digit c = between (code "a") (code "f") c

-- `A` to `F`
abbrev pub is_capital_digit : ℕ → Bool
is_capital_digit c = between (code "A") (code "F") c

unfoldable pub is_hex_digit : ℕ → Bool
is_hex_digit c = is_decimal_digit c || is_small_digit c || is_capital_digit c

-- what a digit counts; 0 for any other character
unfoldable pub digit_value : ℕ → ℕ
digit_value c =
    when (is_decimal_digit c) (c - code "0") (when (is_small_digit c) (c - code "a" + 10) (when (is_capital_digit c) (c - code "A" + 10) 0))

-- the digit that counts d: from ten on a letter, capital or small
unfoldable pub digit_of : Bool → ℕ → ℕ
digit_of capital d = when (ltb d 10) (decimal_digit d) (when capital (code "A") (code "a") + (d - 10))

-- an even number of digits, and nothing else
unfoldable pub is_hex : List ℕ → Bool
is_hex word = eqb (length word % 2) 0 && all is_hex_digit word

abbrev pub hex_byte : ℕ → ℕ → ℕ
hex_byte a b = digit_value a * 16 + digit_value b

unfoldable pub hex_bytes : List ℕ → List ℕ
hex_bytes [] = []
hex_bytes (a ∷ []) = []
hex_bytes (a ∷ b ∷ word) = hex_byte a b ∷ hex_bytes word

unfoldable pub digits_of : Bool → List ℕ → List ℕ
digits_of capital [] = []
digits_of capital (b ∷ s) = digit_of capital (b / 16) ∷ digit_of capital (b % 16) ∷ digits_of capital s

-- the digits, or `-` where there are none
unfoldable pub digits_shown : Bool → List ℕ → List ℕ
digits_shown capital s = when (eqb (length s) 0) (ascii "-") (digits_of capital s)

-- ---- reading: its numbers, and the lent output after it

abbrev pub hex_read_tests : List ℕ → List ℕ → Tests
hex_read_tests word out = (2, not (is_hex word)) ∷ (5, ltb (length out) (length word / 2)) ∷ []

unfoldable pub hex_read : List ℕ → List ℕ → ℕ × List ℕ
hex_read word out = answer (lowest (hex_read_tests word out)) (hex_bytes word) out
