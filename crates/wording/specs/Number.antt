-- A word of decimal digits, read as a number of 64 bits.
-- Assumes nothing.
use Rattle.std.specs.Prelude.{ℕ, min, Bool, not, ◌&&◌, List, eqb, length, Option, Some, None}
use Rattle.octets.specs.Lent.{when}
use Rattle.octets.specs.Tests.{all}
use Rattle.wording.specs.Decimal.{is_decimal_digit, value_of}

-- 2 ^ 64 - 1
abbrev pub greatest : ℕ
greatest = 18446744073709551615

-- one digit or more, and nothing else
unfoldable pub is_decimal : List ℕ → Bool
is_decimal word = not (eqb (length word) 0) && all is_decimal_digit word

-- the number that the digits make, or the greatest of 64 bits where that is larger
unfoldable pub number_read : List ℕ → Option ℕ
number_read word = when (is_decimal word) (Some (min (value_of word) greatest)) None
