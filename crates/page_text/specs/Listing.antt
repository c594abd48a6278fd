-- The page lister's text (document 01, "The page lister"): "It reads a page on standard input and prints its fields, or `refused` and the number."
-- Assumes nothing.
use Rattle.std.specs.Prelude.{ℕ, List, [], ◌∷◌, ◌++◌, eqb, ltb, length, get_or, replicate}
use Rattle.std.specs.Borrow.{Bor}
use Rattle.octets.specs.Lent.{when, over}
use Rattle.wording.specs.Ascii.{ascii}
use Rattle.wording.specs.Lines.{line, refused_line, together}
use Rattle.keypage.specs.Layout.{page_max}
use Rattle.keypage.specs.Page.{scope_in, lock_in, encryption_in, decryption_in, algorithm_in, format_in, key_length_of, list_in, page_list_count}
use Rattle.keypage.specs.Read.{page_read_number}

abbrev pub lines_of : (scope lock encrypt decrypt algorithm format length descriptors : ℕ) → List ℕ
lines_of scope lock encrypt decrypt algorithm format length descriptors =
    together
    (line (ascii "scope") scope
    ∷ line (ascii "lock") lock
    ∷ line (ascii "encrypt") encrypt
    ∷ line (ascii "decrypt") decrypt
    ∷ line (ascii "algorithm") algorithm
    ∷ line (ascii "format") format
    ∷ line (ascii "key length") length
    ∷ line (ascii "descriptors") descriptors
    ∷ [])

-- the lines of words and their numbers, one after the other
abbrev pub lines_said : List (Bor (List ℕ) × ℕ) → List ℕ
lines_said [] = []
lines_said (l ∷ ls) = line l.0.now l.1 ++ lines_said ls

unfoldable pub field_lines : List ℕ → List ℕ
field_lines p =
    lines_of (scope_in p) (lock_in p) (encryption_in p) (decryption_in p) (algorithm_in p) (format_in p) (key_length_of p) (page_list_count (list_in p))

-- the same, of a page's fields in the order in which it is read
abbrev pub lines_in : List ℕ → List ℕ
lines_in f = lines_of (get_or f 0 0) (get_or f 1 0) (get_or f 8 0) (get_or f 9 0) (get_or f 10 0) (get_or f 11 0) (get_or f 12 0) (get_or f 13 0)

-- "Its tests are 2, 3 and 4." "One over 4,096 bytes prints `refused 4` with no other test."
unfoldable pub listing_number : List ℕ → ℕ
listing_number p = when (ltb page_max (length p)) 4 (page_read_number p)

unfoldable pub listing : List ℕ → List ℕ
listing p = when (eqb (listing_number p) 0) (field_lines p) (refused_line (listing_number p))

-- the text by value: how long it is, and the text with zeros after it
abbrev pub listing_max : ℕ
listing_max = 256

abbrev pub listing_answer : List ℕ → ℕ × List ℕ
listing_answer p = (length (listing p), over (listing p) (replicate listing_max 0))
