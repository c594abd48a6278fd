-- A round whose columns are fed by one column of the state after the other, beginning with the key: the order of the five terms of a sum is free.
-- Assumes nothing.
use mathlib.Core.Path.{◌≡◌, ap, ◌∙◌}
use mathlib.Core.List.{[], ◌∷◌}
use Prim.Native.Nat.{ℕ}
use lib.Bits.{bit_xor, xor_comm}
use lib.ListN.{get_or}
use Rattle.octets.proofs.Values.{four}
use Rattle.aes_field.specs.Words.{Column}
use Rattle.aes.specs.State.{State, column}
use Rattle.aes_fast.specs.ByTables.{Tables, table_entry, round_by, column_fed}
use Rattle.aes_fast.proofs.Shared.{swap, columns, sum}

-- ---- of numbers: the first added term goes to the end, and the key

first_last : (k d a b c : ℕ) → bit_xor (bit_xor (bit_xor (bit_xor k d) a) b) c ≡ bit_xor (bit_xor (bit_xor (bit_xor k a) b) c) d
first_last k d a b c =
    ap (λ (z : ℕ). bit_xor (bit_xor z b) c) (swap k d a)
    ∙ ap (λ (z : ℕ). bit_xor z c) (swap (bit_xor k a) d b)
    ∙ swap (bit_xor (bit_xor k a) b) d c

key_last : (k a b c d : ℕ) → bit_xor (bit_xor (bit_xor (bit_xor k a) b) c) d ≡ bit_xor (bit_xor (bit_xor (bit_xor a b) c) d) k
key_last k a b c d = ap (λ (z : ℕ). bit_xor (bit_xor (bit_xor z b) c) d) (xor_comm k a) ∙ first_last a k b c d

-- ---- of columns

module _ (k a b c d : Column) where
  from_a : sum k a b c d ≡ sum a b c d k
  from_a = columns _ _ (λ r. key_last (get_or k r 0) (get_or a r 0) (get_or b r 0) (get_or c r 0) (get_or d r 0))

  one_last : sum k d a b c ≡ sum k a b c d
  one_last = columns _ _ (λ r. first_last (get_or k r 0) (get_or d r 0) (get_or a r 0) (get_or b r 0) (get_or c r 0))

module _ (k a b c d : Column) where
  from_d : sum k d a b c ≡ sum a b c d k
  from_d = one_last k a b c d ∙ from_a k a b c d

  from_c : sum k c d a b ≡ sum a b c d k
  from_c = one_last k d a b c ∙ from_d

  from_b : sum k b c d a ≡ sum a b c d k
  from_b = one_last k c d a b ∙ from_c

-- ---- of states

module _ (t : Tables) (k : State) where
  fed : (a b c d : Column) → column_fed t (column_fed t (column_fed t (column_fed t k a) b) c) d ≡ round_by t (a ∷ b ∷ c ∷ d ∷ []) k
  unfolding round_by
  fed a b c d =
      four
      (from_a (column k 0) (table_entry t 0 (get_or a 0 0)) (table_entry t 1 (get_or b 1 0)) (table_entry t 2 (get_or c 2 0)) (table_entry t 3 (get_or d 3 0)))
      (from_d (column k 1) (table_entry t 0 (get_or b 0 0)) (table_entry t 1 (get_or c 1 0)) (table_entry t 2 (get_or d 2 0)) (table_entry t 3 (get_or a 3 0)))
      (from_c (column k 2) (table_entry t 0 (get_or c 0 0)) (table_entry t 1 (get_or d 1 0)) (table_entry t 2 (get_or a 2 0)) (table_entry t 3 (get_or b 3 0)))
      (from_b (column k 3) (table_entry t 0 (get_or d 0 0)) (table_entry t 1 (get_or a 1 0)) (table_entry t 2 (get_or b 2 0)) (table_entry t 3 (get_or c 3 0)))

  pub fed-round : (a b c d : Column) {x y z r : State}
      → x ≡ column_fed t k a → y ≡ column_fed t x b → z ≡ column_fed t y c → r ≡ column_fed t z d → r ≡ round_by t (a ∷ b ∷ c ∷ d ∷ []) k
  fed-round a b c d ex ey ez er =
      er
      ∙ ap (λ (s : State). column_fed t s d) (ez ∙ ap (λ (s : State). column_fed t s c) (ey ∙ ap (λ (s : State). column_fed t s b) ex))
      ∙ fed a b c d
