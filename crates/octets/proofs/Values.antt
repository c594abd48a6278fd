-- Lists given by a function of the place: their length, their elements, and the lists and parts that they are.
-- Assumes nothing.
use mathlib.Core.Path.{◌≡◌, refl, sym, ap, ap₂, ◌∙◌}
use mathlib.Core.List.{List, [], ◌∷◌, ◌++◌}
use Prim.Native.Nat.{ℕ, zero, suc, ◌+◌, ◌≤◌, ◌<◌}
use native.Mathlib.Nat.{add-zero, add-suc, suc-add, le_refl, le_of_suc-le-suc, not-suc-le-zero}
use native.Mathlib.Numerals.{add-one}
use native.Mathlib.Omega.{arith}
use lib.ListN.{length, get_or, take, drop}
use lib.Seq.{drop-cons, take_all}
use Rattle.octets.specs.Values.{values, bytes_at}

-- two lists are equal by their first elements and by the rest
pub cons_equal : {A : Type 0} {a b : A} {s t : List A} → a ≡ b → s ≡ t → a ∷ s ≡ b ∷ t
cons_equal {A} p q = ap₂ (λ (a : A) (l : List A). a ∷ l) p q

-- lists of four by their elements
pub four : {A : Type 0} {a b c d a' b' c' d' : A} → a ≡ a' → b ≡ b' → c ≡ c' → d ≡ d' → a ∷ b ∷ c ∷ d ∷ [] ≡ a' ∷ b' ∷ c' ∷ d' ∷ []
four p q r s = cc

-- ---- the elements of a function

next_place : (i k : ℕ) → suc i + k ≡ i + suc k
next_place i k = suc-add i k ∙ sym (add-suc i k)

module _ {A : Type 0} (f : ℕ → A) where
  pub length-values : (i n : ℕ) → length (values f i n) ≡ n
  length-values i zero = refl
  length-values i (suc n) = ap suc (length-values (suc i) n)

  pub get_d-values : (i n k : ℕ) (d : A) → k < n → get_or (values f i n) k d ≡ f (i + k)
  get_d-values i zero k d h = absurd (not-suc-le-zero h)
  get_d-values i (suc n) zero d h = ap f (sym (add-zero i))
  get_d-values i (suc n) (suc k) d h = get_d-values (suc i) n k d (le_of_suc-le-suc h) ∙ ap f (next_place i k)

  -- one place more
  pub values_more : (i n : ℕ) → values f i (n + 1) ≡ values f i n ++ f (i + n) ∷ []
  values_more i n = rw add-one (go i n)
    where
      go : (i n : ℕ) → values f i (suc n) ≡ values f i n ++ f (i + n) ∷ []
      go i zero = ap (λ (k : ℕ). f k ∷ []) (sym (add-zero i))
      go i (suc n) = ap (λ (l : List A). f i ∷ l) (go (suc i) n ∙ ap (λ (k : ℕ). values f (suc i) n ++ f k ∷ []) (next_place i n))

  -- the places counted from one later
  pub values-later : (i n : ℕ) → values f (suc i) n ≡ values (λ k. f (suc k)) i n
  values-later i zero = refl
  values-later i (suc n) = ap (λ (l : List A). f (suc i) ∷ l) (values-later (suc i) n)

  -- counted from i, in the words of i + k
  pub values-from : (i j n : ℕ) → values f (i + j) n ≡ values (λ k. f (i + k)) j n
  values-from i j zero = refl
  values-from i j (suc n) =
      ap (λ (l : List A). f (i + j) ∷ l) (ap (λ (k : ℕ). values f k n) (sym (add-suc i j)) ∙ values-from i (suc j) n)

  -- two functions that agree at every place in question
  pub values_same : (g : ℕ → A) (i n : ℕ) → ((k : ℕ) → i ≤ k → k < i + n → f k ≡ g k) → values f i n ≡ values g i n
  values_same g i zero h = refl
  values_same g i (suc n) h =
      cons_equal (h i (le_refl i) (omega arith)) (values_same g (suc i) n (λ k lo hi. h k (omega arith) (omega arith)))

-- ---- the elements of a list

module _ {A : Type 0} (l : List A) (d : A) where
  pub values_part : (i n : ℕ) → i + n ≤ length l → values (λ k. get_or l k d) i n ≡ take n (drop i l)
  values_part i zero h = refl
  values_part i (suc n) h =
      ap (λ (t : List A). get_or l i d ∷ t) (values_part (suc i) n (omega arith)) ∙ sym (ap (take (suc n)) (drop-cons l i d (omega arith)))

  pub values_list : (n : ℕ) → length l ≡ n → values (λ k. get_or l k d) 0 n ≡ l
  values_list n e = values_part 0 n (omega arith) ∙ take_all n l (omega arith)

pub bytes_at_part : (n : ℕ) (s : List ℕ) (i : ℕ) → i + n ≤ length s → bytes_at n s i ≡ take n (drop i s)
bytes_at_part n s i h = values_part s 0 i n h
