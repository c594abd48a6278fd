-- Reading a record by itself (document 01, "Numbers given back"): 2, 3 or 4, or its mode, k and n.
-- Assumes nothing.
use Rattle.std.specs.Prelude.{ℕ, Bool, not, ◌||◌, List, [], ◌∷◌, ltb, Result}
use Rattle.octets.specs.Lent.{Tests, lowest, kept}
use Rattle.refusals.specs.Numbers.{outcome_says}
use Rattle.refusals.specs.declared.Refusal.{Refusal}
use Rattle.keytable.specs.Row.{name_max}
use Rattle.modes.specs.Calls.{text_max}
use Rattle.modes.specs.Modes.{names_mode}
use Rattle.record.specs.Record.{mode_in, count_in, name_size_lem, layout_ok}
use Rattle.record.specs.declared.header.Header.{Header}

-- "Maxima": "Plaintext 0 to 1,048,576 bytes", "Key name 1 to 32"
abbrev pub passes : ℕ → ℕ → Bool
passes k n = ltb name_max k || ltb text_max n

abbrev pub header_tests : List ℕ → Tests
header_tests r = (2, not (layout_ok r)) ∷ (3, not (names_mode (mode_in r))) ∷ (4, passes (name_size_lem r) (count_in r)) ∷ []

unfoldable pub header_number : List ℕ → ℕ
header_number r = lowest (header_tests r)

-- what the reader's answer says: a number, and the fields that come with 0
abbrev pub header_says : Result Header Refusal → ℕ × List ℕ
header_says = outcome_says (λ h. h.mode ∷ h.k ∷ h.n ∷ [])

unfoldable pub header_answer : List ℕ → ℕ × List ℕ
header_answer r = (header_number r, kept (header_number r) (mode_in r ∷ name_size_lem r ∷ count_in r ∷ []) [])
