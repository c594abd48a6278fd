-- Numbers in layouts are big-endian (document 01): the most significant byte comes first.
-- Assumes nothing.
use Rattle.std.specs.Prelude.{ℕ, zero, suc, ◌+◌, ◌*◌, ◌/◌, ◌%◌, ◌^◌, List, [], ◌∷◌, length}
use Rattle.octets.specs.Values.{bytes_at}

-- n in w bytes
abbrev pub be : ℕ → ℕ → List ℕ
be zero n = []
be (suc w) n = n / 256 ^ w % 256 ∷ be w n

-- the number that a string's bytes make
abbrev pub number : List ℕ → ℕ
number [] = 0
number (x ∷ s) = x * 256 ^ length s + number s

-- the number in the w bytes of s from place i
abbrev pub number_at : ℕ → List ℕ → ℕ → ℕ
number_at w s i = number (bytes_at w s i)
