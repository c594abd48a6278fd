-- A line's words: the first up to the first space, and one more after each space, up to the next. Two spaces together have an empty word between them.
-- Assumes nothing.
use Rattle.std.specs.Prelude.{ℕ, Bool, not, List, [], ◌∷◌, eqb, length, get_or}
use Rattle.octets.specs.Lent.{when}
use Rattle.wording.specs.Lines.{space}

-- what stands before the first c
unfoldable pub up_to : ℕ → List ℕ → List ℕ
up_to c [] = []
up_to c (x ∷ s) = when (eqb x c) [] (x ∷ up_to c s)

-- what stands after each c, up to the next
unfoldable pub parts_after : ℕ → List ℕ → List (List ℕ)
parts_after c [] = []
parts_after c (x ∷ s) = when (eqb x c) (up_to c s ∷ parts_after c s) (parts_after c s)

-- the parts of a string between one c and the next
abbrev pub parts_by : ℕ → List ℕ → List (List ℕ)
parts_by c s = up_to c s ∷ parts_after c s

abbrev pub words_of : List ℕ → List (List ℕ)
words_of = parts_by space

-- the word of that number, from 0
abbrev pub word_at : List ℕ → ℕ → List ℕ
word_at line i = get_or (words_of line) i []

abbrev pub some_bytes : List ℕ → Bool
some_bytes w = not (eqb (length w) 0)
