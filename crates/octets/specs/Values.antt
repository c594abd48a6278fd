-- A list given by a function of the place.
-- Assumes nothing.
use Rattle.std.specs.Prelude.{ℕ, zero, suc, List, [], ◌∷◌, get_or}

-- f i, f (i + 1), ..: n of them
abbrev pub values : {A : Type 0} → (ℕ → A) → ℕ → ℕ → List A
values f i zero = []
values f i (suc n) = f i ∷ values f (suc i) n

-- the n bytes of s from place i; past the end they are 0
abbrev pub bytes_at : ℕ → List ℕ → ℕ → List ℕ
bytes_at n s i = values (λ k. get_or s k 0) i n
