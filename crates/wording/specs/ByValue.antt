-- A text by value: how long it is, and the text with zeros after it, in a room of a fixed size.
-- Assumes nothing.
use Rattle.std.specs.Prelude.{ℕ, min, List, length, replicate}
use Rattle.octets.specs.Lent.{over}

-- as far as the room reaches
abbrev pub text_of : ℕ → List ℕ → ℕ × List ℕ
text_of room s = (min (length s) room, over s (replicate room 0))
