-- The schedule four words at a time: the temp of a round key's first word, and one more round key.
-- Assumes nothing.
use mathlib.Core.Path.{◌≡◌, refl, sym, ap, ap₂, ◌∙◌}
use mathlib.Core.List.{List, [], ◌∷◌, ◌++◌}
use Prim.Native.Nat.{ℕ, suc, ◌+◌, ◌-◌, ◌*◌, ◌/◌, ◌%◌, ◌<◌}
use native.Mathlib.Omega.{arith}
use borrow.Author.Tests.{eq-eqb, ne_eqb}
use lib.ListN.{length, get_or, take}
use lib.Seq.{take-suc, get_or-take}
use Rattle.aes_field.specs.Words.{Column}
use Rattle.aes.specs.State.{State, column}
use Rattle.aes.specs.Cipher.{sub_column, add_column}
use Rattle.aes.specs.KeyExpansion.{rot_word, power, temp, next_key, extended}

-- the temp of word 8 + 4n, which is the first of round key n + 2
module _ (n : ℕ) (w : Column) where
  pub temp_even : n % 2 ≡ 0 → add_column (sub_column (rot_word w)) (power (n / 2) ∷ 0 ∷ 0 ∷ 0 ∷ []) ≡ temp (8 + 4 * n) w
  unfolding temp
  temp_even h =
      let first : (8 + 4 * n) % 8 ≡ 0 = omega arith in
      let constant : (8 + 4 * n) / 8 - 1 ≡ n / 2 = omega arith in
      rw (eq-eqb _ 0 first, constant)

  pub temp_odd : (n % 2 ≡ 0 → ⊥) → sub_column w ≡ temp (8 + 4 * n) w
  unfolding temp
  temp_odd h =
      let middle : (8 + 4 * n) % 8 ≡ 4 = omega arith in
      rw middle

-- of the other three words it is the word before
pub temp_other : (n : ℕ) (w : Column) → (n % 4 ≡ 0 → ⊥) → temp (8 + n) w ≡ w
unfolding temp
temp_other n w h = rw (ne_eqb ((8 + n) % 8) 0 (λ e. h (omega arith)), ne_eqb ((8 + n) % 8) 4 (λ e. h (omega arith)))

-- the first two of the keys that are made, and one more

pub extended_none : (ks : List State) → take 2 ks ≡ extended (take 2 ks) 0
unfolding extended
extended_none ks = refl

pub extended_next : (ks : List State) (n : ℕ) → n + 2 < length ks
    → get_or ks (n + 2) [] ≡ next_key (get_or ks n []) (temp (8 + 4 * n) (column (get_or ks (n + 1) []) 3))
    → take (n + 2) ks ≡ extended (take 2 ks) n → take (suc (n + 2)) ks ≡ extended (take 2 ks) (suc n)
unfolding extended
extended_next ks n fits is-next so_far =
    take-suc ks (n + 2) [] fits
    ∙ ap₂ (λ (l : List State) (k : State). l ++ k ∷ []) so_far
    (is-next ∙ ap₂ (λ (k l : State). next_key k (temp (8 + 4 * n) (column l 3))) (same n (omega arith)) (same (n + 1) (omega arith)))
  where
    same : (i : ℕ) → i < n + 2 → get_or ks i [] ≡ get_or (extended (take 2 ks) n) i []
    same i h = sym (get_or-take (n + 2) ks i [] h) ∙ ap (λ (l : List State). get_or l i []) so_far
