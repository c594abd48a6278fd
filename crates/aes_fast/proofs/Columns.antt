-- Columns as words of 32 bits: there and back, and exclusive or of words adds the columns.
-- Assumes nothing.
use mathlib.Core.Path.{◌≡◌, ap, ◌∙◌}
use mathlib.Core.List.{[], ◌∷◌}
use Prim.Native.Nat.{ℕ, ◌+◌, ◌*◌, ◌/◌, ◌%◌, ◌^◌, ◌<◌}
use native.Mathlib.Omega.{arith}
use lib.Bits.{bit_xor, xor_comm, xor_shr, xor_mod}
use Rattle.octets.proofs.Values.{four}
use Rattle.aes_field.specs.Words.{Column, column_of}
use Rattle.aes.specs.Cipher.{add_column}
use Rattle.aes_fast.specs.ByTables.{column_from}
use Rattle.aes_fast.specs.ByTables.Inside.{column_from_is}
use Rattle.aes_fast.specs.Right.{word_from}

-- ---- exclusive or

xor-row : (a b k : ℕ) → bit_xor a b / 2 ^ k % 2 ^ 8 ≡ bit_xor (a / 2 ^ k % 2 ^ 8) (b / 2 ^ k % 2 ^ 8)
xor-row a b k = ap (λ (x : ℕ). x % 2 ^ 8) (xor_shr a b k) ∙ xor_mod (a / 2 ^ k) (b / 2 ^ k) 8

pub column_from_xor : (a b : ℕ) → column_from (bit_xor a b) ≡ add_column (column_from a) (column_from b)
column_from_xor a b = rw (column_from_is (bit_xor a b), column_from_is a, column_from_is b) (four (xor_mod a b 8) (xor-row a b 8) (xor-row a b 16) (xor-row a b 24))

-- of four words, where the second stands before the first
pub column_from_xor_four : (a b c d : ℕ)
    → column_from (bit_xor (bit_xor (bit_xor b a) c) d) ≡ add_column (add_column (add_column (column_from a) (column_from b)) (column_from c)) (column_from d)
column_from_xor_four a b c d =
    column_from_xor (bit_xor (bit_xor b a) c) d
    ∙ ap (λ (x : Column). add_column x (column_from d))
    (column_from_xor (bit_xor b a) c ∙ ap (λ (x : Column). add_column x (column_from c)) (ap column_from (xor_comm b a) ∙ column_from_xor a b))

-- ---- of bytes

pub column_from_four : (a b c d : ℕ) → a < 256 → b < 256 → c < 256 → d < 256 → column_from (a + b * 256 + c * 65536 + d * 16777216) ≡ a ∷ b ∷ c ∷ d ∷ []
column_from_four a b c d ha hb hc hd = column_from_is (a + b * 256 + c * 65536 + d * 16777216) ∙ four (omega arith) (omega arith) (omega arith) (omega arith)

pub column_from-word_from : (f : ℕ → ℕ) → ((r : ℕ) → f r < 256) → column_from (word_from (column_of f)) ≡ column_of f
column_from-word_from f h = column_from_four (f 0) (f 1) (f 2) (f 3) (h 0) (h 1) (h 2) (h 3)
