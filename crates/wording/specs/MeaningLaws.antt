-- What the line of a number promises, as statements; proofs/MeaningLaws.antt proves each.
-- Assumes nothing.
use Rattle.std.specs.Prelude.{◌≡◌, List, ℕ, ◌≤◌, length}
use Rattle.octets.specs.Unique.{UniqueBy}
use Rattle.wording.specs.declared.text.Text.{Text}
use Rattle.wording.specs.Meaning.{meaning_of, line_max, line_of}

-- each line lies whole within its room
abbrev pub LineFits : Type 0
LineFits = (n size : ℕ) (bytes : List ℕ) → line_of (meaning_of n) ≡ (size, bytes) → (size ≤ line_max) × (length bytes ≡ line_max)

-- for each number one line
abbrev pub LineUnique : Type 0
LineUnique = (n : ℕ) → UniqueBy (λ (l : Text line_max). (l.size, l.bytes)) (line_of (meaning_of n))
