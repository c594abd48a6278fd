-- Tests joined, tests on the elements of a list, and a part of a list.
-- Assumes nothing.
use Rattle.std.specs.Prelude.{ℕ, Bool, true, ◌&&◌, List, [], ◌∷◌, eqb, take, drop}

-- each test of a list holds, taken from the left as the code's a & b & c is
abbrev pub also : Bool → List Bool → Bool
also t [] = t
also t (u ∷ us) = also (t && u) us

abbrev pub every : List Bool → Bool
every ts = also true ts

-- each element passes the test p
unfoldable pub all : {A : Type 0} → (A → Bool) → List A → Bool
all p [] = true
all p (x ∷ s) = p x && all p s

-- each byte is zero
abbrev pub zeros : List ℕ → Bool
zeros = all (λ (b : ℕ). eqb b 0)

-- the n elements from place i
abbrev pub part_of : List ℕ → ℕ → ℕ → List ℕ
part_of s i n = take n (drop i s)
