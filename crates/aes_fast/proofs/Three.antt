-- States in three words: their columns with a key, a round, and the rounds of two of them side by side.
-- Assumes nothing.
use mathlib.Core.Path.{◌≡◌, ap, ◌∙◌}
use mathlib.Core.List.{List, [], ◌∷◌}
use Prim.Native.Nat.{ℕ, suc, ◌+◌, ◌-◌, ◌/◌, ◌%◌}
use lib.Bits.{bit_xor}
use lib.ListN.{get_or}
use Rattle.octets.proofs.Values.{four}
use Rattle.aes_field.specs.Words.{Column}
use Rattle.aes.specs.State.{State}
use Rattle.aes.specs.Cipher.{add_column, add_round_key}
use Rattle.aes_fast.specs.ByTables.{Tables, column_from, mixed_by, round_by, last_round_by, rounds_after, later_rounds_by}
use Rattle.aes_fast.specs.Halves.{columns_of}
use Rattle.aes_fast.specs.ThreeWords.{columns_held}
use Rattle.aes_fast.specs.declared.halves.Halves.{Halves}
use Rattle.aes_fast.specs.declared.three_words.ThreeWords.{ThreeWords}
use Rattle.aes_fast.proofs.Columns.{column_from_xor}
use Rattle.aes_fast.proofs.Pairs.{row_0, row_1, row_2, row_3, high_1, high_2, high_3, high_xor, with_key}
use Rattle.aes_fast.proofs.Steps.{key_bytes, round_by_key, last_round_by_key, rounds_after-none, rounds_after_more, last_rounds}

-- four columns with a key, the first two in the word w
pub words_with : (w c₀ c₁ c₂ c₃ : ℕ) (k : ThreeWords) → column_from w ≡ column_from c₀ → column_from (w / 4294967296) ≡ column_from c₁
    → column_from (bit_xor w k.first) ∷ column_from (bit_xor w k.first / 4294967296) ∷ column_from (bit_xor c₂ k.c) ∷ column_from (bit_xor c₃ k.d) ∷ []
    ≡ add_round_key (column_from c₀ ∷ column_from c₁ ∷ column_from c₂ ∷ column_from c₃ ∷ []) (columns_held k)
words_with w c₀ c₁ c₂ c₃ k low high =
    four
    (column_from_xor w k.first ∙ ap (λ (x : Column). add_column x (column_from k.first)) low)
    (high_xor w k.first ∙ ap (λ (x : Column). add_column x (column_from (k.first / 4294967296))) high)
    (column_from_xor c₂ k.c) (column_from_xor c₃ k.d)

-- ---- a round's four columns, by the bytes of the three words

module _ (x : ThreeWords) where
  abbrev a : ℕ
  a = x.first

  abbrev c : ℕ
  c = x.c

  abbrev d : ℕ
  d = x.d

  module _ (t : Tables) (k : State) {c₀ c₁ c₂ c₃ : Column} where
    pub round_by_three :
        c₀ ≡ mixed_by t (a % 256) (a / 1099511627776 % 256) (c / 65536 % 256) (d / 16777216 % 256)
        → c₁ ≡ mixed_by t (a / 4294967296 % 256) (c / 256 % 256) (d / 65536 % 256) (a / 16777216 % 256)
        → c₂ ≡ mixed_by t (c % 256) (d / 256 % 256) (a / 65536 % 256) (a / 72057594037927936 % 256)
        → c₃ ≡ mixed_by t (d % 256) (a / 256 % 256) (a / 281474976710656 % 256) (c / 16777216 % 256)
        → add_round_key (c₀ ∷ c₁ ∷ c₂ ∷ c₃ ∷ []) k ≡ round_by t (columns_held x) k
    unfolding round_by
    round_by_three e₀ e₁ e₂ e₃ =
        four
        (with_key k (mixed_by t) 0 e₀ (row_0 a) (high_1 a) (row_2 c) (row_3 d))
        (with_key k (mixed_by t) 1 e₁ (row_0 (a / 4294967296)) (row_1 c) (row_2 d) (row_3 a))
        (with_key k (mixed_by t) 2 e₂ (row_0 c) (row_1 d) (row_2 a) (high_3 a))
        (with_key k (mixed_by t) 3 e₃ (row_0 d) (row_1 a) (high_2 a) (row_3 c))

-- ---- two states side by side

module _ (t : Tables) (ks : List State) (m : ℕ) (x₀ y₀ : ThreeWords) where
  -- of each, n rounds after the first m are done
  abbrev pub BothDone : ThreeWords → ThreeWords → ℕ → Type 0
  BothDone x y n = (columns_held x ≡ rounds_after t ks m n (columns_held x₀)) × (columns_held y ≡ rounds_after t ks m n (columns_held y₀))

  pub both-none : BothDone x₀ y₀ 0
  both-none = (rounds_after-none t ks m (columns_held x₀), rounds_after-none t ks m (columns_held y₀))

  module _ (x y : ThreeWords) (n : ℕ) (done : BothDone x y n) where
    pub both_more : (key : State) (k u v : ThreeWords) → key ≡ get_or ks (m + suc n) [] → columns_held k ≡ key_bytes key
        → columns_held u ≡ round_by t (columns_held x) (columns_held k) → columns_held v ≡ round_by t (columns_held y) (columns_held k) → BothDone u v (n + 1)
    both_more key k u v which read e f = (
      rounds_after_more t ks m n (columns_held x₀) done.0 (round_by_key t (columns_held x) (get_or ks (m + suc n) []) e (read ∙ ap key_bytes which)),
      rounds_after_more t ks m n (columns_held y₀) done.1 (round_by_key t (columns_held y) (get_or ks (m + suc n) []) f (read ∙ ap key_bytes which)),
    )

    pub both_last : (k u v : Halves) → n ≡ 13 - m → columns_of k ≡ key_bytes (get_or ks 14 [])
        → columns_of u ≡ last_round_by t (columns_held x) (columns_of k) → columns_of v ≡ last_round_by t (columns_held y) (columns_of k)
        → (columns_of u ≡ later_rounds_by t ks m (columns_held x₀)) × (columns_of v ≡ later_rounds_by t ks m (columns_held y₀))
    both_last k u v all key e f = (
      last_rounds t ks m n (columns_held x₀) (columns_held x) (columns_of u) all (last_round_by_key t (columns_held x) (get_or ks 14 []) e key) done.0,
      last_rounds t ks m n (columns_held y₀) (columns_held y) (columns_of v) all (last_round_by_key t (columns_held y) (get_or ks 14 []) f key) done.1,
    )
