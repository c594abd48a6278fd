-- A mode called by itself (document 01, "Ciphers" and "Maxima"): the numbers, and the output after them. The associated data comes in two parts, a and then b.
-- Assumes nothing.
use Rattle.std.specs.Prelude.{◌≡◌, ℕ, ◌+◌, ◌≤◌, Bool, not, ◌||◌, List, [], ◌∷◌, ◌++◌, ltb, length}
use Rattle.octets.specs.Lent.{Tests, is_not, lowest, answer}
use Rattle.modes.specs.Mode.{Mode, sealed}

abbrev pub data_max : ℕ
data_max = 4152

abbrev pub text_max : ℕ
text_max = 1048576

-- a length that is none of the mode's: of the text s, of the key or of the IV
abbrev pub wrong_sizes : Mode → List ℕ → List ℕ → List ℕ → Bool
wrong_sizes m key iv s = not (m.permits (length s)) || is_not m.key_size_lem key || is_not m.iv_size iv

-- the same where the tag t is lent
abbrev pub wrong_opening : Mode → List ℕ → List ℕ → List ℕ → List ℕ → Bool
wrong_opening m key iv c t = wrong_sizes m key iv c || is_not m.tag_size t

-- a maximum is passed
abbrev pub too_long : List ℕ → List ℕ → List ℕ → Bool
too_long a b s = ltb data_max (length a + length b) || ltb text_max (length s)

-- the tests of the arguments, in both directions: `wrong` where one has a length that is none of the mode's, `needed` the bytes that the result takes
abbrev pub argument_tests : Bool → List ℕ → List ℕ → List ℕ → ℕ → ℕ → Tests
argument_tests wrong a b s needed room = (2, wrong) ∷ (4, too_long a b s) ∷ (5, ltb room needed) ∷ []

-- the test of the tag: `right` where it is authentic
abbrev pub authentic_tests : Bool → Tests
authentic_tests right = (9, not right) ∷ []

-- the number that the tag alone decides, and the output after it: s where it is authentic
abbrev pub tag_decides : Bool → ℕ
tag_decides right = lowest (authentic_tests right)

abbrev pub opened_answer : Bool → List ℕ → List ℕ → ℕ × List ℕ
opened_answer right s out = answer (tag_decides right) s out

-- lengths that pass the tests of the arguments, in each direction: a key of 32 bytes, an IV of 12 and a tag of 16, the maxima, and room
abbrev pub Sealable : List ℕ → List ℕ → List ℕ → List ℕ → List ℕ → ℕ → Type 0
Sealable key iv a b p room = (length key ≡ 32) × (length iv ≡ 12) × (length a + length b ≤ data_max) × (length p ≤ text_max) × (length p + 16 ≤ room)

abbrev pub Verifiable : List ℕ → List ℕ → List ℕ → List ℕ → List ℕ → List ℕ → Type 0
Verifiable key iv a b c t = (length key ≡ 32) × (length iv ≡ 12) × (length a + length b ≤ data_max) × (length c ≤ text_max) × (length t ≡ 16)

abbrev pub Openable : List ℕ → List ℕ → List ℕ → List ℕ → List ℕ → List ℕ → ℕ → Type 0
Openable key iv a b c t room = Verifiable key iv a b c t × (length c ≤ room)

-- ---- encryption

abbrev pub encrypt_tests : Mode → List ℕ → List ℕ → List ℕ → List ℕ → List ℕ → ℕ → Tests
encrypt_tests m key iv a b p room = argument_tests (wrong_sizes m key iv p) a b p (length p + m.tag_size) room

unfoldable pub encrypt_number : Mode → List ℕ → List ℕ → List ℕ → List ℕ → List ℕ → ℕ → ℕ
encrypt_number m key iv a b p room = lowest (encrypt_tests m key iv a b p room)

unfoldable pub encrypt_answer : Mode → List ℕ → List ℕ → List ℕ → List ℕ → List ℕ → List ℕ → ℕ × List ℕ
encrypt_answer m key iv a b p out = answer (encrypt_number m key iv a b p (length out)) (sealed m key iv (a ++ b) p) out

-- ---- decryption

-- the number that decryption's arguments alone give
abbrev pub opening_number : Mode → List ℕ → List ℕ → List ℕ → List ℕ → List ℕ → List ℕ → ℕ → ℕ
opening_number m key iv a b c t room = lowest (argument_tests (wrong_opening m key iv c t) a b c (length c) room)

abbrev pub decrypt_tests : Mode → List ℕ → List ℕ → List ℕ → List ℕ → List ℕ → List ℕ → ℕ → Tests
decrypt_tests m key iv a b c t room =
    argument_tests (wrong_opening m key iv c t) a b c (length c) room ++ authentic_tests (m.authentic key iv (a ++ b) c t)

-- what the tag decides, once the tests of the arguments are passed
abbrev pub decrypt_opened : Mode → List ℕ → List ℕ → List ℕ → List ℕ → List ℕ → List ℕ → ℕ × List ℕ
decrypt_opened m key iv a c t out = opened_answer (m.authentic key iv a c t) (m.plaintext key iv c) out

unfoldable pub decrypt_number : Mode → List ℕ → List ℕ → List ℕ → List ℕ → List ℕ → List ℕ → ℕ → ℕ
decrypt_number m key iv a b c t room = lowest (decrypt_tests m key iv a b c t room)

unfoldable pub decrypt_answer : Mode → List ℕ → List ℕ → List ℕ → List ℕ → List ℕ → List ℕ → List ℕ → ℕ × List ℕ
decrypt_answer m key iv a b c t out = answer (decrypt_number m key iv a b c t (length out)) (m.plaintext key iv c) out

-- the number where there is room for the plaintext, and nothing is written
abbrev pub verify_number : Mode → List ℕ → List ℕ → List ℕ → List ℕ → List ℕ → List ℕ → ℕ
verify_number m key iv a b c t = decrypt_number m key iv a b c t (length c)
