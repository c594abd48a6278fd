-- Of two blocks that differ in their last byte alone, rounds 1 and 2 of one from those of the other: what the last byte, and then column 0,
-- adds is taken away and what the other's adds is put there. Exclusive or is its own inverse, and its order is free.
-- Assumes nothing.
use mathlib.Core.Path.{◌≡◌, refl, sym, ap, ◌∙◌}
use mathlib.Core.List.{[], ◌∷◌}
use Prim.Native.Nat.{ℕ}
use lib.Bits.{bit_xor, xor_comm}
use lib.ListN.{get_or}
use Rattle.octets.proofs.Xor.{xor_assoc, xor_cancel}
use Rattle.octets.proofs.Values.{four}
use Rattle.aes_field.specs.Words.{Column, column_of}
use Rattle.aes.specs.State.{State, column}
use Rattle.aes.specs.Cipher.{add_column, add_round_key}
use Rattle.aes_fast.specs.ByTables.{Tables, table_entry, round_by}
use Rattle.aes_fast.specs.Start.{column_adds}

-- ---- of numbers: in the sum of a, b, c, d and k one term is taken away and another put there

pub swap : (p x y : ℕ) → bit_xor (bit_xor p x) y ≡ bit_xor (bit_xor p y) x
swap p x y = xor_assoc p x y ∙ ap (bit_xor p) (xor_comm x y) ∙ sym (xor_assoc p y x)

renew : (p d d' k : ℕ) → bit_xor (bit_xor (bit_xor (bit_xor p d) k) d) d' ≡ bit_xor (bit_xor p d') k
renew p d d' k =
    ap (λ (z : ℕ). bit_xor z d') (ap (λ (z : ℕ). bit_xor z d) (swap p d k) ∙ xor_cancel (bit_xor p k) d)
    ∙ swap p k d'

renew_c : (p c d k c' : ℕ) → bit_xor (bit_xor (bit_xor (bit_xor (bit_xor p c) d) k) c) c' ≡ bit_xor (bit_xor (bit_xor p c') d) k
renew_c p c d k c' =
    ap (λ (z : ℕ). bit_xor (bit_xor (bit_xor z k) c) c') (swap p c d)
    ∙ renew (bit_xor p d) c c' k
    ∙ ap (λ (z : ℕ). bit_xor z k) (swap p d c')

renew_b : (a b c d k b' : ℕ)
    → bit_xor (bit_xor (bit_xor (bit_xor (bit_xor (bit_xor a b) c) d) k) b) b' ≡ bit_xor (bit_xor (bit_xor (bit_xor a b') c) d) k
renew_b a b c d k b' =
    ap (λ (z : ℕ). bit_xor (bit_xor (bit_xor (bit_xor z d) k) b) b') (swap a b c)
    ∙ renew_c (bit_xor a c) b d k b'
    ∙ ap (λ (z : ℕ). bit_xor (bit_xor z d) k) (swap a c b')

renew_a : (a b c d k a' : ℕ)
    → bit_xor (bit_xor (bit_xor (bit_xor (bit_xor (bit_xor a b) c) d) k) a) a' ≡ bit_xor (bit_xor (bit_xor (bit_xor a' b) c) d) k
renew_a a b c d k a' =
    ap (λ (z : ℕ). bit_xor (bit_xor (bit_xor (bit_xor (bit_xor z c) d) k) a) a') (xor_comm a b)
    ∙ renew_b b a c d k a'
    ∙ ap (λ (z : ℕ). bit_xor (bit_xor (bit_xor z c) d) k) (xor_comm b a')

-- ---- of columns

pub columns : (f g : ℕ → ℕ) → ((r : ℕ) → f r ≡ g r) → column_of f ≡ column_of g
columns f g h = four (h 0) (h 1) (h 2) (h 3)

abbrev pub sum : Column → Column → Column → Column → Column → Column
sum a b c d k = add_column (add_column (add_column (add_column a b) c) d) k

module _ (a b c d k x : Column) where
  sum_a : add_column (add_column (sum a b c d k) a) x ≡ sum x b c d k
  sum_a =
      columns _ _ (λ r. renew_a (get_or a r 0) (get_or b r 0) (get_or c r 0) (get_or d r 0) (get_or k r 0) (get_or x r 0))

  sum_b : add_column (add_column (sum a b c d k) b) x ≡ sum a x c d k
  sum_b = columns _ _ (λ r. renew_b (get_or a r 0) (get_or b r 0) (get_or c r 0) (get_or d r 0) (get_or k r 0) (get_or x r 0))

  sum_c : add_column (add_column (sum a b c d k) c) x ≡ sum a b x d k
  sum_c = columns _ _ (λ r. renew_c (bit_xor (get_or a r 0) (get_or b r 0)) (get_or c r 0) (get_or d r 0) (get_or k r 0) (get_or x r 0))

  sum_d : add_column (add_column (sum a b c d k) d) x ≡ sum a b c x k
  sum_d = columns _ _ (λ r. renew (bit_xor (bit_xor (get_or a r 0) (get_or b r 0)) (get_or c r 0)) (get_or d r 0) (get_or x r 0) (get_or k r 0))

-- ---- of states

module _ (t : Tables) (k : State) where
  -- another last byte changes column 0 of the next round
  pub round_last : (x₀ x₁ x₂ : Column) (p q r last other : ℕ)
      → round_by t (x₀ ∷ x₁ ∷ x₂ ∷ (p ∷ q ∷ r ∷ other ∷ []) ∷ []) k
      ≡ add_column (add_column (column (round_by t (x₀ ∷ x₁ ∷ x₂ ∷ (p ∷ q ∷ r ∷ last ∷ []) ∷ []) k) 0) (table_entry t 3 last)) (table_entry t 3 other)
      ∷ column (round_by t (x₀ ∷ x₁ ∷ x₂ ∷ (p ∷ q ∷ r ∷ last ∷ []) ∷ []) k) 1
      ∷ column (round_by t (x₀ ∷ x₁ ∷ x₂ ∷ (p ∷ q ∷ r ∷ last ∷ []) ∷ []) k) 2
      ∷ column (round_by t (x₀ ∷ x₁ ∷ x₂ ∷ (p ∷ q ∷ r ∷ last ∷ []) ∷ []) k) 3 ∷ []
  unfolding round_by
  round_last x₀ x₁ x₂ p q r last other =
      four
      (sym (sum_d (table_entry t 0 (get_or x₀ 0 0)) (table_entry t 1 (get_or x₁ 1 0)) (table_entry t 2 (get_or x₂ 2 0)) (table_entry t 3 last) (column k 0) (table_entry t 3 other)))
      refl refl refl

  -- another column 0 changes one entry in each column of the next round
  pub round-column : (y₀ y₁ y₂ y₃ y : Column)
      → round_by t (y ∷ y₁ ∷ y₂ ∷ y₃ ∷ []) k ≡ add_round_key (add_round_key (round_by t (y₀ ∷ y₁ ∷ y₂ ∷ y₃ ∷ []) k) (column_adds t y₀)) (column_adds t y)
  unfolding round_by
  round-column y₀ y₁ y₂ y₃ y =
      four
      (sym (sum_a (table_entry t 0 (get_or y₀ 0 0)) (table_entry t 1 (get_or y₁ 1 0)) (table_entry t 2 (get_or y₂ 2 0)) (table_entry t 3 (get_or y₃ 3 0))
      (column k 0) (table_entry t 0 (get_or y 0 0))))
      (sym (sum_d (table_entry t 0 (get_or y₁ 0 0)) (table_entry t 1 (get_or y₂ 1 0)) (table_entry t 2 (get_or y₃ 2 0)) (table_entry t 3 (get_or y₀ 3 0))
      (column k 1) (table_entry t 3 (get_or y 3 0))))
      (sym (sum_c (table_entry t 0 (get_or y₂ 0 0)) (table_entry t 1 (get_or y₃ 1 0)) (table_entry t 2 (get_or y₀ 2 0)) (table_entry t 3 (get_or y₁ 3 0))
      (column k 2) (table_entry t 2 (get_or y 2 0))))
      (sym (sum_b (table_entry t 0 (get_or y₃ 0 0)) (table_entry t 1 (get_or y₀ 1 0)) (table_entry t 2 (get_or y₁ 2 0)) (table_entry t 3 (get_or y₂ 3 0))
      (column k 3) (table_entry t 1 (get_or y 1 0))))
