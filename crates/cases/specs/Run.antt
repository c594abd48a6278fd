-- The text of an input: that of its lines in order, numbered from 1, or that it is refused.
-- Assumes nothing.
use Rattle.std.specs.Prelude.{ℕ, suc, List, [], ◌∷◌, ◌++◌, ltb, length, replicate}
use Rattle.octets.specs.Lent.{when, over}
use Rattle.wording.specs.Ascii.{ascii}
use Rattle.wording.specs.Lines.{newline}
use Rattle.cases.specs.Words.{parts_by}
use Rattle.cases.specs.Line.{case_text}

unfoldable pub text_from : ℕ → List (List ℕ) → List ℕ
text_from n [] = []
text_from n (s ∷ ss) = case_text s n ++ text_from (suc n) ss

-- after the last newline stands one line more, which may be empty and then says nothing
unfoldable pub lines_text : List ℕ → List ℕ
lines_text input = text_from 1 (parts_by newline input)

-- ---- the maxima (tests/vectors/README.md), and what is said in place of the lines' text where one is passed

abbrev pub input_max : ℕ
input_max = 1048576

abbrev pub run_max : ℕ
run_max = 524288

abbrev pub input_refused : List ℕ
input_refused = ascii "refused: more than 1048576 bytes\n"

abbrev pub text_refused : List ℕ
text_refused = ascii "refused: the text has more than 524288 bytes\n"

unfoldable pub run_text : List ℕ → List ℕ
run_text input = when (ltb input_max (length input)) input_refused (when (ltb run_max (length (lines_text input))) text_refused (lines_text input))

-- ---- a text by value: how long it is, and the text with zeros after it

unfoldable pub no_text : List ℕ
no_text = replicate run_max 0

abbrev pub in_room : List ℕ → ℕ × List ℕ
in_room s = (length s, over s no_text)
