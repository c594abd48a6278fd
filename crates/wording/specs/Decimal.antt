-- A number in decimal digits, in ASCII, and the number that a string of digits is read as.
-- Assumes nothing.
use Rattle.std.specs.Prelude.{ℕ, zero, suc, ◌+◌, ◌-◌, ◌*◌, ◌/◌, ◌%◌, Bool, ◌&&◌, List, [], ◌∷◌, ◌++◌, leb, ltb}
use Prim.Native.Char.{code}
use Rattle.octets.specs.Lent.{when}

abbrev pub between : ℕ → ℕ → ℕ → Bool
between low high c = leb low c && leb c high

-- `0` to `9`
abbrev pub is_decimal_digit : ℕ → Bool
is_decimal_digit c = between (code "0") (code "9") c

abbrev pub decimal_digit : ℕ → ℕ
decimal_digit d = code "0" + d

-- what such a digit counts
abbrev pub decimal_counts : ℕ → ℕ
decimal_counts c = c - code "0"

-- the digits of n, divided by ten at most k times
unfoldable pub digits_within : ℕ → ℕ → List ℕ
digits_within zero n = decimal_digit n ∷ []
digits_within (suc k) n = when (ltb n 10) (decimal_digit n ∷ []) (digits_within k (n / 10) ++ decimal_digit (n % 10) ∷ [])

-- the digits of n, the most significant first: n divisions are always enough
unfoldable pub decimal : ℕ → List ℕ
decimal n = digits_within n n

-- the number that digits are read as, after those that made v
abbrev pub value_after : ℕ → List ℕ → ℕ
value_after v [] = v
value_after v (d ∷ s) = value_after (v * 10 + decimal_counts d) s

abbrev pub value_of : List ℕ → ℕ
value_of s = value_after 0 s
