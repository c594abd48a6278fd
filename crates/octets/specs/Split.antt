-- A string cut into parts that tell their own size, one after the other from its start: `size` is how long the part is that a string begins with, 0 where it
-- begins with none.
-- Assumes nothing.
use Rattle.std.specs.Prelude.{ℕ, zero, suc, List, [], ◌∷◌, length, take, drop, eqb}
use Rattle.octets.specs.Lent.{when}

-- whole parts one after the other, and the bytes that follow them
abbrev pub Split : Type 0
Split = List (List ℕ) × List ℕ

abbrev pub behind : List ℕ → Split → Split
behind d p = (d ∷ p.0, p.1)

-- the whole parts that s begins with, n at most
abbrev pub split_in : (List ℕ → ℕ) → ℕ → List ℕ → Split
split_in size zero s = ([], s)
split_in size (suc n) s = when (eqb (size s) 0) ([], s) (behind (take (size s) s) (split_in size n (drop (size s) s)))

-- all of them: no string has more parts than bytes
unfoldable pub split_by : (List ℕ → ℕ) → List ℕ → Split
split_by size s = split_in size (length s) s
