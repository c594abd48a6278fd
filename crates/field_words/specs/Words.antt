-- A word NAME=VALUE: it is cut at its first `=`, and the name is looked for among those of a key page's fields.
-- Assumes nothing.
use Rattle.std.specs.Prelude.{ℕ, suc, ◌+◌, Bool, List, [], ◌∷◌, ◌++◌, eqb, length, get_or}
use Prim.Native.Char.{code}
use Rattle.octets.specs.Lent.{when}
use Rattle.octets.specs.Same.{same}
use Rattle.octets.specs.Tests.{part_of}
use Rattle.wording.specs.Ascii.{ascii}

-- the place of the first element that passes the test, and the length of the list where none does
unfoldable pub first_place : {A : Type 0} → (A → Bool) → List A → ℕ
first_place p [] = 0
first_place p (x ∷ s) = when (p x) 0 (suc (first_place p s))

abbrev pub equals_sign : ℕ
equals_sign = code "="

abbrev pub is_equals : ℕ → Bool
is_equals c = eqb c equals_sign

abbrev pub equals_at : List ℕ → ℕ
equals_at word = first_place is_equals word

-- what stands before the first `=`, and what comes after it
abbrev pub word_name : List ℕ → List ℕ
word_name word = part_of word 0 (equals_at word)

abbrev pub word_value : List ℕ → List ℕ
word_value word = part_of word (equals_at word + 1) (length word)

-- a page's fields that a caller chooses, in the order in which a page is read (docs/FORMATS.md)
unfoldable pub field_names : List (List ℕ)
field_names =
    ascii "scope"
    ∷ ascii "lock"
    ∷ ascii "ceem"
    ∷ ascii "rdmc"
    ∷ ascii "sdk"
    ∷ ascii "ckod"
    ∷ ascii "ckorp"
    ∷ ascii "ckorl"
    ∷ ascii "encrypt"
    ∷ ascii "decrypt"
    ∷ ascii "algorithm"
    ∷ ascii "format"
    ∷ []

abbrev pub field_name_count : ℕ
field_name_count = 12

-- the number of the field that a word names, and 12 where it names none
abbrev pub field_number : List ℕ → ℕ
field_number word = first_place (same (word_name word)) field_names

-- the word of field i with a value
abbrev pub field_word : ℕ → List ℕ → List ℕ
field_word i value = get_or field_names i [] ++ equals_sign ∷ value
