-- Rounds of the block cipher, one more of those that are left.
-- Assumes nothing.
use mathlib.Core.Path.{◌≡◌}
use mathlib.Core.List.{List}
use Prim.Native.Nat.{ℕ, suc, ◌+◌, ◌-◌, ◌≤◌, ◌<◌}
use native.Mathlib.Omega.{arith}
use borrow.Author.Tests.{ne_eqb}
use Rattle.cases.specs.Calls.{repeated}

module _ (f : List ℕ → List ℕ → ℕ × List ℕ) (key block after : List ℕ) (n : ℕ) (once : f key block ≡ (n, after)) (times i : ℕ) (more : i < times) where
  left : times - i ≡ suc (times - (i + 1))
  left = omega arith

  pub rounds_turn : n ≡ 0 → repeated f (times - i) key block ≡ repeated f (times - (i + 1)) key after
  unfolding repeated
  rounds_turn e = rw (left, once, e)

  pub rounds-stop : (n ≡ 0 → ⊥) → repeated f (times - i) key block ≡ (n, after)
  unfolding repeated
  rounds-stop e = rw (left, once, ne_eqb n 0 e)

pub rounds_end : (f : List ℕ → List ℕ → ℕ × List ℕ) (key block : List ℕ) (times i : ℕ) → times ≤ i → repeated f (times - i) key block ≡ (0, block)
unfolding repeated
rounds_end f key block times i h = let none : times - i ≡ 0 = omega arith in rw none
