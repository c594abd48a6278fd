-- A quoted text as the bytes that it is written in.
-- Assumes nothing.
use Rattle.std.specs.Prelude.{ℕ, List, [], ◌∷◌}
use Prim.Native.Char.{code}
use Prim.Native.String as text

-- the bytes of a quoted text, whose characters are ASCII
abbrev pub ascii : text.String → List ℕ
ascii text.[] = []
ascii (text.◌∷◌ c s) = code c ∷ ascii s
