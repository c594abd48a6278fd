-- Document 01, "Numbers given back": "The lowest that applies is given, and no other." `lowest` takes the first that applies; where the numbers of a
-- list rise that is the lowest. Each crate states of its own lists of tests that they rise.
-- Assumes nothing.
use Rattle.std.specs.Prelude.{◌≡◌, ◌⊎◌, Bool, true, false, ◌&&◌, [], ◌∷◌, ℕ, ◌≤◌, ltb, get_or}
use Rattle.octets.specs.Lent.{Tests, lowest}

-- each number is above the one before it, and the first above `least`
abbrev pub rises_above : ℕ → Tests → Bool
rises_above least [] = true
rises_above least (t ∷ ts) = ltb least t.0 && rises_above t.0 ts

-- 0 is no test's number
abbrev pub rises : Tests → Bool
rises = rises_above 0

-- test number i of the list has the number n, and applies
abbrev pub AppliesAt : Tests → ℕ → ℕ → Type 0
AppliesAt ts i n = get_or ts i (0, false) ≡ (n, true)

-- n is the lowest number that applies, or 0 where none does
pub record Lowest (ts : Tests) (n : ℕ) : Type 0 where
  pub applies : (n ≡ 0) ⊎ ((i : ℕ) × AppliesAt ts i n)
  pub least : (i m : ℕ) → AppliesAt ts i m → (1 ≤ n) × (n ≤ m)

abbrev pub LowestIs : Type 0
LowestIs = (ts : Tests) → rises ts ≡ true → Lowest ts (lowest ts)
