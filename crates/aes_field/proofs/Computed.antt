-- What one computed test shows: of each number below a bound, and of each entry of a table.
-- Assumes nothing.
use mathlib.Core.Path.{◌≡◌, refl, ap₂, subst⁻¹}
use mathlib.Core.Logic.{⊎_elim}
use mathlib.Core.Bool.{Bool, true, false, ◌&&◌}
use mathlib.Core.List.{List, [], ◌∷◌}
use Prim.Native.Nat.{ℕ, zero, suc, ◌<◌}
use native.Mathlib.Nat.{le_of_suc-le-suc, not-suc-le-zero, eq-or-lt_of_le}
use borrow.Author.Tests.{eqb-true}
use lib.Dec.{T, eqb}
use lib.ListN.{length}
use Rattle.octets.specs.Values.{values}
use Rattle.octets.proofs.Tests.{and_left, and_right}

-- a test that antt computes to true
pub computed : (t : Bool) → T t → t ≡ true
computed true h = refl
computed false h = absurd h

-- the test passes at each number below n
abbrev pub below : (ℕ → Bool) → ℕ → Bool
below test zero = true
below test (suc n) = test n && below test n

pub below_at : (test : ℕ → Bool) (n : ℕ) → T (below test n) → (k : ℕ) → k < n → test k ≡ true
below_at test n t = go n (computed (below test n) t)
  where
    go : (n : ℕ) → below test n ≡ true → (k : ℕ) → k < n → test k ≡ true
    go zero e k h = absurd (not-suc-le-zero h)
    go (suc n) e k h =
        ⊎_elim (λ (same : k ≡ n). subst⁻¹ (λ (m : ℕ). test m ≡ true) same (and_left (test n) (below test n) e))
        (λ (lt : k < n). go n (and_right (test n) (below test n) e) k lt) (eq-or-lt_of_le (le_of_suc-le-suc h))

-- two functions agree on the numbers below n
abbrev pub agree : (ℕ → ℕ) → (ℕ → ℕ) → ℕ → Bool
agree f g n = below (λ k. eqb (f k) (g k)) n

pub agree_at : (f g : ℕ → ℕ) (n : ℕ) → T (agree f g n) → (k : ℕ) → k < n → f k ≡ g k
agree_at f g n t k h = eqb-true (f k) (g k) (below_at (λ k. eqb (f k) (g k)) n t k h)

-- the entries of a table, from place i on, follow the rule f
abbrev pub follows : (ℕ → ℕ) → ℕ → List ℕ → Bool
follows f i [] = true
follows f i (x ∷ t) = eqb x (f i) && follows f (suc i) t

pub follows_values : (f : ℕ → ℕ) (i : ℕ) (t : List ℕ) → T (follows f i t) → t ≡ values f i (length t)
follows_values f i t tested = go i t (computed (follows f i t) tested)
  where
    go : (i : ℕ) (t : List ℕ) → follows f i t ≡ true → t ≡ values f i (length t)
    go i [] e = refl
    go i (x ∷ s) e =
        ap₂ ◌∷◌ (eqb-true x (f i) (and_left (eqb x (f i)) (follows f (suc i) s) e)) (go (suc i) s (and_right (eqb x (f i)) (follows f (suc i) s) e))
