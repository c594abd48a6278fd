-- The key page (document 01, "Key page"): what is read of it by its layout (specs/Layout.antt), and its own tests.
-- Assumes nothing.
use Rattle.std.specs.Prelude.{ℕ, ◌+◌, Bool, false, List, [], ◌∷◌, ◌++◌, map, length, drop, eqb, leb}
use Rattle.octets.specs.BigEndian.{number_at}
use Rattle.octets.specs.Tests.{every, zeros, part_of}
use Rattle.descriptors.specs.Descriptor.{strict_by_default}
use Rattle.descriptors.specs.Tested.{list_ok, count_of}
use Rattle.keypage.specs.Layout.{code_at, page_code, page_length_at, before_length, zeros_at, zeros_count, key_length_at, key_part_at, bits_in, chosen_bits}
use Rattle.keypage.specs.Layout.{scope_bits, zero_bits, lock_bits, encryption_bits, decryption_bits, algorithm_bits, format_bits}

abbrev pub scope_in : List ℕ → ℕ
scope_in p = bits_in p scope_bits

abbrev pub reserved_in : List ℕ → ℕ
reserved_in p = bits_in p zero_bits

abbrev pub lock_in : List ℕ → ℕ
lock_in p = bits_in p lock_bits

abbrev pub encryption_in : List ℕ → ℕ
encryption_in p = bits_in p encryption_bits

abbrev pub decryption_in : List ℕ → ℕ
decryption_in p = bits_in p decryption_bits

abbrev pub algorithm_in : List ℕ → ℕ
algorithm_in p = bits_in p algorithm_bits

abbrev pub format_in : List ℕ → ℕ
format_in p = bits_in p format_bits

-- all that a writer chooses
abbrev pub chosen_in : List ℕ → List ℕ
chosen_in p = map (bits_in p) chosen_bits

abbrev pub key_length_of : List ℕ → ℕ
key_length_of p = number_at 2 p key_length_at

-- the KEY part, and the descriptor list after it
abbrev pub key_part_of : List ℕ → List ℕ
key_part_of p = part_of p key_part_at (key_length_of p)

abbrev pub list_at : List ℕ → ℕ
list_at p = key_part_at + key_length_of p

abbrev pub list_in : List ℕ → List ℕ
list_in p = drop (list_at p) p

-- the list is tested as a page's (not as a label's); "Page loading and the page lister take the new default" (document 02, No. 7)
abbrev pub page_strict : Bool
page_strict = strict_by_default

abbrev pub page_list_ok : List ℕ → Bool
page_list_ok list = list_ok false page_strict list

-- "it is the number of unreserved descriptors in the list"
abbrev pub page_list_count : List ℕ → ℕ
page_list_count list = count_of false list

-- "2-3 PAGE LENGTH, the total less 4"; bits 4-1 of byte 4 and bytes 10-17 zero; KEY within the page; the list
abbrev pub page_tests : List ℕ → List Bool
page_tests p =
    eqb (number_at 2 p code_at) page_code
    ∷ eqb (length p) (number_at 2 p page_length_at + before_length)
    ∷ eqb (reserved_in p) 0
    ∷ zeros (part_of p zeros_at zeros_count)
    ∷ leb (list_at p) (length p)
    ∷ page_list_ok (list_in p)
    ∷ []

unfoldable pub page_ok : List ℕ → Bool
page_ok p = every (page_tests p)

-- "Permitted: SCOPE 0 to 2, ENCRYPTION MODE 0 to 2, DECRYPTION MODE 0 to 3, ALGORITHM INDEX 1 or 2"
abbrev pub permitted : (scope encryption decryption algorithm : ℕ) → List Bool
permitted scope encryption decryption algorithm =
    leb scope 2
    ∷ leb encryption 2
    ∷ leb decryption 3
    ∷ leb 1 algorithm
    ∷ leb algorithm 2
    ∷ []

abbrev pub permitted_tests : List ℕ → List Bool
permitted_tests p = permitted (scope_in p) (encryption_in p) (decryption_in p) (algorithm_in p)

unfoldable pub fields_ok : List ℕ → Bool
fields_ok p = every (permitted_tests p)

-- the fields that a load answers, in the order of the C interface; the last is the count of the page's unreserved descriptors
unfoldable pub fields_of : List ℕ → List ℕ
fields_of p = chosen_in p ++ key_length_of p ∷ page_list_count (list_in p) ∷ []
