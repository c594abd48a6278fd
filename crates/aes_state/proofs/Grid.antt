-- States given by the byte in each row and column: equal where these are.
-- Assumes nothing.
use mathlib.Core.Path.{◌≡◌}
use Prim.Native.Nat.{ℕ}
use Rattle.octets.proofs.Values.{values_same}
use Rattle.aes_field.specs.Words.{Column, column_of}
use Rattle.aes_state.specs.State.{State, state_of}

-- the state whose byte in row r of column c is g c r
abbrev pub grid : (ℕ → ℕ → ℕ) → State
grid g = state_of (λ c. column_of (g c))

pub columns-same : (f g : ℕ → Column) → ((c : ℕ) → f c ≡ g c) → state_of f ≡ state_of g
columns-same f g p = values_same f g 0 4 (λ c _ _. p c)

pub grid-same : (f g : ℕ → ℕ → ℕ) → ((c r : ℕ) → f c r ≡ g c r) → grid f ≡ grid g
grid-same f g p = columns-same (λ c. column_of (f c)) (λ c. column_of (g c)) (λ c. values_same (f c) (g c) 0 4 (λ r _ _. p c r))
