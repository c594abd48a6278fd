-- Lines of text: each ends with a newline.
-- Assumes nothing.
use Rattle.std.specs.Prelude.{ℕ, List, [], ◌∷◌, ◌++◌}
use Prim.Native.Char.{code}
use Rattle.wording.specs.Ascii.{ascii}
use Rattle.wording.specs.Decimal.{decimal}

abbrev pub space : ℕ
space = code " "

abbrev pub newline : ℕ
newline = code "\n"

-- a word, a space, and a number in decimal digits
abbrev pub line : List ℕ → ℕ → List ℕ
line word n = word ++ space ∷ (decimal n ++ newline ∷ [])

-- "`refused` and the number" (document 01, "The page lister"); a report's refusals are said so too
abbrev pub refused_line : ℕ → List ℕ
refused_line n = line (ascii "refused") n

-- texts one after the other
abbrev pub together : List (List ℕ) → List ℕ
together [] = []
together (s ∷ ss) = s ++ together ss
