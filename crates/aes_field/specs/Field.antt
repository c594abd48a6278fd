-- FIPS 197, section 4: bytes as elements of GF(2^8), and sections 5.1.1 and 5.3.2: the S-box and its inverse by their rules.
-- Addition in the field (4.1) is `bit_xor`.
-- Assumes nothing.
use Rattle.std.specs.Prelude.{ℕ, zero, suc, ◌+◌, ◌*◌, ◌/◌, ◌%◌, ◌^◌, eqb}
use Rattle.std.specs.Int.Bits.{bit_xor}
use Rattle.octets.specs.Lent.{when}

-- 4.2: times x. The bit that leaves at the top comes back as {1b}, which is x^8 modulo x^8 + x^4 + x^3 + x + 1.
unfoldable pub xtime : ℕ → ℕ
xtime a = bit_xor (a * 2 % 256) (a / 128 * 0x1b)

-- 4.2: the low n bits of b choose which of a, xa, xxa, .. are added to sum
abbrev pub sum_of_shifts : ℕ → ℕ → ℕ → ℕ → ℕ
sum_of_shifts zero a b sum = sum
sum_of_shifts (suc n) a b sum = sum_of_shifts n (xtime a) (b / 2) (when (eqb (b % 2) 1) (bit_xor sum a) sum)

-- 4.2: the product of two bytes
unfoldable pub times : ℕ → ℕ → ℕ
times a b = sum_of_shifts 8 a b 0

-- a^(2^(n + 1) - 2): the product of a^2, a^4, .., each the last one squared
abbrev pub product_of_squares : ℕ → ℕ → ℕ
product_of_squares zero a = 1
product_of_squares (suc n) a = let s = times a a in times s (product_of_squares n s)

-- 4.4: the multiplicative inverse, a^254, which has {00} for {00}. That a times it is {01} is `InverseIs` of specs/Laws.antt.
unfoldable pub inverse : ℕ → ℕ
inverse a = product_of_squares 7 a

-- bit i of a byte, places counted modulo 8
abbrev pub bit : ℕ → ℕ → ℕ
bit a i = a / 2 ^ (i % 8) % 2

abbrev pub byte_of : (ℕ → ℕ) → ℕ
byte_of f = f 0 + f 1 * 2 + f 2 * 4 + f 3 * 8 + f 4 * 16 + f 5 * 32 + f 6 * 64 + f 7 * 128

-- 5.1.1: the affine map, with the constant {63}
unfoldable pub affine : ℕ → ℕ
affine a = byte_of (λ i. (bit a i + bit a (i + 4) + bit a (i + 5) + bit a (i + 6) + bit a (i + 7) + bit 0x63 i) % 2)

-- 5.3.2: its inverse. That the two undo one another is stated in specs/Laws.antt.
unfoldable pub unaffine : ℕ → ℕ
unaffine a = byte_of (λ i. (bit a (i + 2) + bit a (i + 5) + bit a (i + 7) + bit 0x05 i) % 2)

-- 5.1.1
unfoldable pub sbox : ℕ → ℕ
sbox a = affine (inverse a)

-- 5.3.2
unfoldable pub inv_sbox : ℕ → ℕ
inv_sbox a = inverse (unaffine a)
