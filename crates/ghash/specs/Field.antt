-- The field of 2^128: SP 800-38D, section 6.3, algorithm 1. A block is also read as a number, its first bit the highest.
-- Assumes nothing.
use Rattle.std.specs.Prelude.{ℕ, zero, suc, ◌*◌, ◌/◌, ◌%◌, ◌^◌, List, [], ◌∷◌, ◌++◌}
use Rattle.std.specs.Int.Bits.{bit_xor}
use Rattle.octets.specs.BigEndian.{be}

-- section 6.3, step 1: a string's bits x₀ x₁ .., each byte's highest first
abbrev pub byte_bits : ℕ → List ℕ
byte_bits b = b / 128 % 2 ∷ b / 64 % 2 ∷ b / 32 % 2 ∷ b / 16 % 2 ∷ b / 8 % 2 ∷ b / 4 % 2 ∷ b / 2 % 2 ∷ b % 2 ∷ []

abbrev pub bits : List ℕ → List ℕ
bits [] = []
bits (b ∷ s) = byte_bits b ++ bits s

-- section 6.3: 11100001, then 120 zeros
abbrev pub R : ℕ
R = 0xe1 * 2 ^ 120

-- section 6.3, step 3, V: shifted by one bit, with R added where the bit that falls out is 1
unfoldable pub times_x : ℕ → ℕ
times_x v = bit_xor (v / 2) (v % 2 * R)

abbrev pub times_xs : ℕ → ℕ → ℕ
times_xs zero v = v
times_xs (suc n) v = times_xs n (times_x v)

-- section 6.3, step 3: for each bit of X, V is added to Z where the bit is 1, and then V is shifted
abbrev pub multiply : List ℕ → ℕ → ℕ → ℕ
multiply [] z v = z
multiply (b ∷ bs) z v = multiply bs (bit_xor z (b * v)) (times_x v)

-- section 6.3, steps 2 to 4: X • H as a block, with H read as a number
unfoldable pub times_h : ℕ → List ℕ → List ℕ
times_h h x = be 16 (multiply (bits x) 0 h)
