-- Labels (document 01, "Descriptors and labels"): "A label is two zero bytes, then a list with 00h, 01h, 03h and 04h present."
-- Assumes nothing.
use Rattle.std.specs.Prelude.{ℕ, Bool, true, false, ◌&&◌, ◌||◌, not, List, [], ◌∷◌, length, take, drop, eqb, leb, ltb, Result}
use Rattle.octets.specs.Lent.{Tests, lowest, kept}
use Rattle.octets.specs.Tests.{every, zeros}
use Rattle.descriptors.specs.Descriptor.{type_of}
use Rattle.descriptors.specs.Parse.{split}
use Rattle.descriptors.specs.Tested.{list_ok, count_of}
use Rattle.refusals.specs.Numbers.{outcome_says}
use Rattle.refusals.specs.declared.Refusal.{Refusal}

-- "Maxima": "Page or label at most 4,096 bytes"
abbrev pub label_max : ℕ
label_max = 4096

abbrev pub zero_size : ℕ
zero_size = 2

-- the label's list: it starts at byte 2, and places count from there
abbrev pub list_of : List ℕ → List ℕ
list_of s = drop zero_size s

-- one of the descriptors has this type
unfoldable pub present : ℕ → List (List ℕ) → Bool
present t [] = false
present t (d ∷ ds) = eqb (type_of d) t || present t ds

abbrev pub holds : ℕ → List ℕ → Bool
holds t s = present t (split s).0

abbrev pub label_shape : List ℕ → List Bool
label_shape s =
    leb zero_size (length s)
    ∷ zeros (take zero_size s)
    ∷ holds 0x00 (list_of s)
    ∷ holds 0x01 (list_of s)
    ∷ holds 0x03 (list_of s)
    ∷ holds 0x04 (list_of s)
    ∷ []

-- "the label reader asks for the old one, since managers in the field put reserved types into labels" (document 02, No. 7)
abbrev pub label_strict : Bool
label_strict = false

-- its list is tested as a label's
unfoldable pub label_ok : List ℕ → Bool
label_ok s = every (label_shape s) && list_ok true label_strict (list_of s)

abbrev pub label_tests : List ℕ → Tests
label_tests s = (2, not (label_ok s)) ∷ (4, ltb label_max (length s)) ∷ []

abbrev pub label_number : List ℕ → ℕ
label_number s = lowest (label_tests s)

abbrev pub label_says : Result ℕ Refusal → ℕ × List ℕ
label_says = outcome_says (λ n. n ∷ [])

abbrev pub label_answer : List ℕ → ℕ × List ℕ
label_answer s = (label_number s, kept (label_number s) (count_of true (list_of s) ∷ []) [])

-- the number, and a lent count after it, which 0 alone changes
abbrev pub label_check : List ℕ → ℕ → ℕ × ℕ
label_check s before = (label_number s, kept (label_number s) (count_of true (list_of s)) before)
