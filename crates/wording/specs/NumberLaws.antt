-- What reading a number promises, as statements; proofs/NumberLaws.antt proves each.
-- Assumes nothing.
use Rattle.std.specs.Prelude.{◌≡◌, ◌↔◌, true, List, ℕ, ◌≤◌, min, Some}
use Rattle.octets.specs.Unique.{Unique}
use Rattle.wording.specs.Decimal.{decimal, value_of}
use Rattle.wording.specs.Number.{greatest, is_decimal, number_read}

-- a number is read exactly where the word is digits, and it is theirs, or the greatest where theirs is larger
abbrev pub NumberExactly : Type 0
NumberExactly = (word : List ℕ) (n : ℕ) → (number_read word ≡ Some n) ↔ ((is_decimal word ≡ true) × (n ≡ min (value_of word) greatest))

-- so the digits of a number are read as that number
abbrev pub DecimalRead : Type 0
DecimalRead = (n : ℕ) → n ≤ greatest → number_read (decimal n) ≡ Some n

-- for each word one answer
abbrev pub NumberUnique : Type 0
NumberUnique = (word : List ℕ) → Unique (number_read word)
