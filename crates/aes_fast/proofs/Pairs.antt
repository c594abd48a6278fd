-- Two columns in a word of 64 bits: their bytes, and the word put together, taken apart and added.
-- Assumes nothing.
use mathlib.Core.Path.{◌≡◌, sym, ap, ap₂, ◌∙◌}
use mathlib.Core.List.{List, [], ◌∷◌, ◌++◌}
use Prim.Native.Nat.{ℕ, ◌+◌, ◌*◌, ◌/◌, ◌%◌, ◌<◌}
use native.Mathlib.Omega.{arith}
use lib.Bits.{bit_xor, xor_shr}
use lib.ListN.{get_or}
use Rattle.octets.specs.Xor.{xors}
use Rattle.octets.proofs.Values.{four}
use Rattle.aes_field.specs.Words.{Column}
use Rattle.aes.specs.State.{State, column, state_from, bytes_of}
use Rattle.aes.specs.Cipher.{add_column, add_round_key}
use Rattle.aes_fast.specs.ByTables.{Tables, column_from, substituted_by, last_round_by}
use Rattle.aes_fast.specs.ByTables.Inside.{column_from_is}
use Rattle.aes_fast.specs.Halves.{columns_of, halves_block, word_bytes}
use Rattle.aes_fast.specs.Halves.Inside.{columns_of_is, halves_block_is}
use Rattle.aes_fast.specs.declared.halves.Halves.{Halves}
use Rattle.aes_fast.proofs.Columns.{column_from_xor}

-- ---- the rows of the low column, and of the high one

pub row_0 : (w : ℕ) → w % 256 ≡ get_or (column_from w) 0 0
row_0 w = ap (λ (a : Column). get_or a 0 0) (sym (column_from_is w))

pub row_1 : (w : ℕ) → w / 256 % 256 ≡ get_or (column_from w) 1 0
row_1 w = ap (λ (a : Column). get_or a 1 0) (sym (column_from_is w))

pub row_2 : (w : ℕ) → w / 65536 % 256 ≡ get_or (column_from w) 2 0
row_2 w = ap (λ (a : Column). get_or a 2 0) (sym (column_from_is w))

pub row_3 : (w : ℕ) → w / 16777216 % 256 ≡ get_or (column_from w) 3 0
row_3 w = ap (λ (a : Column). get_or a 3 0) (sym (column_from_is w))

place_5 : (w : ℕ) → w / 1099511627776 ≡ w / 4294967296 / 256
place_5 w = omega arith

place_6 : (w : ℕ) → w / 281474976710656 ≡ w / 4294967296 / 65536
place_6 w = omega arith

place_7 : (w : ℕ) → w / 72057594037927936 ≡ w / 4294967296 / 16777216
place_7 w = omega arith

pub high_1 : (w : ℕ) → w / 1099511627776 % 256 ≡ get_or (column_from (w / 4294967296)) 1 0
high_1 w = ap (λ (n : ℕ). n % 256) (place_5 w) ∙ row_1 (w / 4294967296)

pub high_2 : (w : ℕ) → w / 281474976710656 % 256 ≡ get_or (column_from (w / 4294967296)) 2 0
high_2 w = ap (λ (n : ℕ). n % 256) (place_6 w) ∙ row_2 (w / 4294967296)

pub high_3 : (w : ℕ) → w / 72057594037927936 % 256 ≡ get_or (column_from (w / 4294967296)) 3 0
high_3 w = ap (λ (n : ℕ). n % 256) (place_7 w) ∙ row_3 (w / 4294967296)

pub low_part : (w : ℕ) → column_from (w % 4294967296) ≡ column_from w
low_part w = column_from_is (w % 4294967296) ∙ four (omega arith) (omega arith) (omega arith) (omega arith) ∙ sym (column_from_is w)

-- ---- put together

pub low_column : (a b : ℕ) → column_from (a + b * 4294967296) ≡ column_from a
low_column a b = column_from_is (a + b * 4294967296) ∙ four (omega arith) (omega arith) (omega arith) (omega arith) ∙ sym (column_from_is a)

pub high-column : (a b : ℕ) → a < 4294967296 → column_from ((a + b * 4294967296) / 4294967296) ≡ column_from b
high-column a b h = ap column_from (omega arith)

-- ---- as bytes

pub word_bytes_is : (w : ℕ)
    → word_bytes w
    ≡ w % 256 ∷ w / 256 % 256 ∷ w / 65536 % 256 ∷ w / 16777216 % 256
    ∷ w / 4294967296 % 256 ∷ w / 1099511627776 % 256 ∷ w / 281474976710656 % 256 ∷ w / 72057594037927936 % 256 ∷ []
word_bytes_is w = rw (column_from_is w, column_from_is (w / 4294967296), place_5 w, place_6 w, place_7 w)

-- the bytes of a column's word
abbrev rows : ℕ → Column
rows w = w % 256 ∷ w / 256 % 256 ∷ w / 65536 % 256 ∷ w / 16777216 % 256 ∷ []

module _ (h : Halves) where
  columns_of-rows : columns_of h ≡ rows h.first ∷ rows (h.first / 4294967296) ∷ rows h.second ∷ rows (h.second / 4294967296) ∷ []
  columns_of-rows =
      columns_of_is h
      ∙ four (column_from_is h.first) (column_from_is (h.first / 4294967296)) (column_from_is h.second) (column_from_is (h.second / 4294967296))

  pub halves_block-words : halves_block h ≡ word_bytes h.first ++ word_bytes h.second
  halves_block-words = halves_block_is h ∙ ap bytes_of columns_of-rows ∙ sym (ap₂ (λ (a b : List ℕ). a ++ b) (of_word h.first) (of_word h.second))
    where
      of_word : (w : ℕ) → word_bytes w ≡ rows w ++ rows (w / 4294967296)
      of_word w = ap₂ (λ (a b : List ℕ). a ++ b) (column_from_is w) (column_from_is (w / 4294967296))

  pub columns_of_block : columns_of h ≡ state_from (halves_block h)
  columns_of_block = columns_of-rows ∙ sym (ap state_from (halves_block_is h ∙ ap bytes_of columns_of-rows))

-- ---- added

pub high_xor : (a b : ℕ) → column_from (bit_xor a b / 4294967296) ≡ add_column (column_from (a / 4294967296)) (column_from (b / 4294967296))
high_xor a b = ap column_from (xor_shr a b 32) ∙ column_from_xor (a / 4294967296) (b / 4294967296)

module _ (a b r : Halves) where
  words-added : r.first ≡ bit_xor a.first b.first → r.second ≡ bit_xor a.second b.second → columns_of r ≡ add_round_key (columns_of a) (columns_of b)
  words-added first second =
      rw (columns_of_is r, columns_of_is a, columns_of_is b, first, second)
      (four
      (column_from_xor a.first b.first) (high_xor a.first b.first) (column_from_xor a.second b.second) (high_xor a.second b.second))

  pub halves_block_xor : r.first ≡ bit_xor a.first b.first → r.second ≡ bit_xor a.second b.second
      → halves_block r ≡ xors (halves_block a) (halves_block b)
  halves_block_xor first second = halves_block_is r ∙ ap bytes_of (words-added first second) ∙ sym (ap₂ xors (halves_block_is a) (halves_block_is b))

  -- what is said of blocks, of the states
  pub columns_of_xor : halves_block r ≡ xors (halves_block a) (halves_block b) → columns_of r ≡ add_round_key (columns_of a) (columns_of b)
  columns_of_xor e = columns_of_block r ∙ ap state_from (e ∙ ap₂ xors (halves_block_is a) (halves_block_is b))

-- ---- the last round's four columns, by the bytes of the two words

pub with_key : (k : State) (f : ℕ → ℕ → ℕ → ℕ → Column) (n : ℕ) {c : Column} {p q r s p' q' r' s' : ℕ}
    → c ≡ f p q r s → p ≡ p' → q ≡ q' → r ≡ r' → s ≡ s' → add_column c (column k n) ≡ add_column (f p' q' r' s') (column k n)
with_key k f n e ep eq er es = rw (e, ep, eq, er, es)

module _ (h : Halves) where
  abbrev a : ℕ
  a = h.first

  abbrev b : ℕ
  b = h.second

  module _ (t : Tables) (k : State) {c₀ c₁ c₂ c₃ : Column} where
    pub last_round_by-words :
        c₀ ≡ substituted_by t (a % 256) (a / 1099511627776 % 256) (b / 65536 % 256) (b / 72057594037927936 % 256)
        → c₁ ≡ substituted_by t (a / 4294967296 % 256) (b / 256 % 256) (b / 281474976710656 % 256) (a / 16777216 % 256)
        → c₂ ≡ substituted_by t (b % 256) (b / 1099511627776 % 256) (a / 65536 % 256) (a / 72057594037927936 % 256)
        → c₃ ≡ substituted_by t (b / 4294967296 % 256) (a / 256 % 256) (a / 281474976710656 % 256) (b / 16777216 % 256)
        → add_round_key (c₀ ∷ c₁ ∷ c₂ ∷ c₃ ∷ []) k ≡ last_round_by t (columns_of h) k
    unfolding last_round_by
    last_round_by-words e₀ e₁ e₂ e₃ =
        four
        (with_key k (substituted_by t) 0 e₀ (row_0 a) (high_1 a) (row_2 b) (high_3 b))
        (with_key k (substituted_by t) 1 e₁ (row_0 (a / 4294967296)) (row_1 b) (high_2 b) (row_3 a))
        (with_key k (substituted_by t) 2 e₂ (row_0 b) (high_1 b) (row_2 a) (high_3 a))
        (with_key k (substituted_by t) 3 e₃ (row_0 (b / 4294967296)) (row_1 a) (high_2 a) (row_3 b))
        ∙ ap (λ (s : State). last_round_by t s k) (sym (columns_of_is h))
