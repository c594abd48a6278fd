-- What each number means (document 01, "Numbers given back"), in a line of text (ASCII).
-- Assumes nothing.
use Rattle.std.specs.Prelude.{ℕ, List, [], ◌∷◌, length, get_or, replicate}
use Rattle.octets.specs.Lent.{over}
use Rattle.wording.specs.Ascii.{ascii}

-- the table of document 01, its words shortened, from number 0 on
abbrev pub meanings : List (List ℕ)
meanings =
    ascii "0: done\n"
    ∷ ascii "1: the table breaks its layout\n"
    ∷ ascii "2: bytes break the layout, or a length is wrong\n"
    ∷ ascii "3: a field, type, format or mode not permitted\n"
    ∷ ascii "4: a maximum is passed\n"
    ∷ ascii "5: output shorter than the result\n"
    ∷ ascii "6: no row of that type and name\n"
    ∷ ascii "7: the row's use is another\n"
    ∷ ascii "8: wrapped key not 40 bytes\n"
    ∷ ascii "9: tag, or unwrapped start value, wrong\n"
    ∷ ascii "10: IV session spent\n"
    ∷ ascii "11: counter field would run over\n"
    ∷ []

-- any other number has no meaning, and a line that begins with none
abbrev pub no_meaning : List ℕ
no_meaning = ascii "no such number\n"

unfoldable pub meaning_of : ℕ → List ℕ
meaning_of n = get_or meanings n no_meaning

-- a line by value: how long it is, and the line with zeros after it
abbrev pub line_max : ℕ
line_max = 64

abbrev pub line_of : List ℕ → ℕ × List ℕ
line_of s = (length s, over s (replicate line_max 0))
