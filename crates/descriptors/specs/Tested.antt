-- The test of a whole list (document 01, "Descriptors and labels"), and its number and count.
-- Assumes nothing.
use Rattle.std.specs.Prelude.{ℕ, ◌+◌, Bool, true, ◌&&◌, not, List, [], ◌∷◌, length, eqb, leb, Result}
use Rattle.octets.specs.Lent.{when, Tests, lowest, kept}
use Rattle.octets.specs.Tests.{every, all}
use Rattle.descriptors.specs.Descriptor.{type_of, is_reserved, is_refused}
use Rattle.octets.specs.Split.{Split}
use Rattle.descriptors.specs.Parse.{split}
use Rattle.refusals.specs.Numbers.{outcome_says}
use Rattle.refusals.specs.declared.Refusal.{Refusal}

-- "Types strictly rise", from `least` on; reserved ones too
unfoldable pub rises_from : ℕ → List (List ℕ) → Bool
rises_from least [] = true
rises_from least (d ∷ ds) = leb least (type_of d) && rises_from (type_of d + 1) ds

abbrev pub admits : Bool → Bool → List ℕ → Bool
admits label strict d = not (is_refused label strict (type_of d))

-- "The list ends exactly at a descriptor's end"; the types; and strict admits no reserved one
abbrev pub split_tests : Bool → Bool → ℕ → Split → List Bool
split_tests label strict least p = eqb (length p.1) 0 ∷ rises_from least p.0 ∷ all (admits label strict) p.0 ∷ []

unfoldable pub split_ok : Bool → Bool → ℕ → Split → Bool
split_ok label strict least p = every (split_tests label strict least p)

abbrev pub list_ok : Bool → Bool → List ℕ → Bool
list_ok label strict s = split_ok label strict 0 (split s)

-- "Reserved types .. are passed over and not counted"
unfoldable pub unreserved : Bool → List (List ℕ) → List (List ℕ)
unreserved label [] = []
unreserved label (d ∷ ds) = when (is_reserved label (type_of d)) (unreserved label ds) (d ∷ unreserved label ds)

-- "it is the number of unreserved descriptors in the list"
abbrev pub count_of : Bool → List ℕ → ℕ
count_of label s = length (unreserved label (split s).0)

-- ---- the numbers

abbrev pub list_tests : Bool → Bool → List ℕ → Tests
list_tests label strict s = (2, not (list_ok label strict s)) ∷ []

abbrev pub list_number : Bool → Bool → List ℕ → ℕ
list_number label strict s = lowest (list_tests label strict s)

abbrev pub tested_says : Result ℕ Refusal → ℕ × List ℕ
tested_says = outcome_says (λ n. n ∷ [])

abbrev pub list_answer : Bool → Bool → List ℕ → ℕ × List ℕ
list_answer label strict s = (list_number label strict s, kept (list_number label strict s) (count_of label s ∷ []) [])

-- the number, and a lent count after it, which 0 alone changes
abbrev pub list_check : Bool → Bool → List ℕ → ℕ → ℕ × ℕ
list_check label strict s before = (list_number label strict s, kept (list_number label strict s) (count_of label s) before)
