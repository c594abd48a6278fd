-- Exclusive or of byte strings. Of two bytes it is the logic's own `bit_xor`.
-- Assumes nothing.
use Rattle.std.specs.Prelude.{ℕ, List, [], ◌∷◌}
use Rattle.std.specs.Int.Bits.{bit_xor}

-- byte by byte, as long as the shorter one
abbrev pub xors : List ℕ → List ℕ → List ℕ
xors [] t = []
xors (a ∷ s) [] = []
xors (a ∷ s) (b ∷ t) = bit_xor a b ∷ xors s t
