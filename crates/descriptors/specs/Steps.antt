-- A step along a list (document 01, "Descriptors and labels"): "each step shows one whole descriptor, from its type byte on".
-- Assumes nothing.
use Rattle.std.specs.Prelude.{ℕ, zero, suc, ◌+◌, ◌-◌, Bool, true, false, not, List, [], ◌∷◌, length, get_or, drop, eqb, ltb, Option, Some, None, Result, Ok, Err}
use Rattle.octets.specs.Lent.{when, Tests, lowest, kept}
use Rattle.octets.specs.Tests.{part_of}
use Rattle.descriptors.specs.Descriptor.{type_of, is_reserved, is_refused}
use Rattle.octets.specs.Split.{Split}
use Rattle.descriptors.specs.Parse.{split}
use Rattle.descriptors.specs.Tested.{list_number, count_of}
use Rattle.descriptors.specs.declared.cursor.Cursor.{Cursor}
use Rattle.descriptors.specs.declared.cursor.Span.{Span}
use Rattle.descriptors.specs.declared.cursor.Begun.{Begun}
use Rattle.refusals.specs.Numbers.{number_of}
use Rattle.refusals.specs.declared.Refusal.{Refusal}

-- "A step with none left shows nothing and gives 0; one whose place .. holds no whole descriptor gives 2": the bytes after the last whole one
abbrev pub left_tests : List ℕ → Tests
left_tests left = (2, not (eqb (length left) 0)) ∷ []

abbrev pub left_number : List ℕ → ℕ
left_number left = lowest (left_tests left)

-- the first descriptor that is not reserved, as the places where it begins and ends, from the place `at` of the first of ds on
unfoldable pub first_shown : Bool → Bool → ℕ → List (List ℕ) → List ℕ → ℕ × List ℕ
first_shown label strict at [] left = (left_number left, [])
first_shown label strict at (d ∷ ds) left =
    when (is_refused label strict (type_of d))
    (2, [])
    (when (is_reserved label (type_of d)) (first_shown label strict (at + length d) ds left) (0, at ∷ (at + length d) ∷ []))

unfoldable pub split_step : Bool → Bool → ℕ → Split → ℕ × List ℕ
split_step label strict at p = first_shown label strict at p.0 p.1

-- "one whose place lies past the end .. gives 2"; else the bytes from the place on decide
abbrev pub step_answer : Bool → Bool → List ℕ → ℕ → ℕ × List ℕ
step_answer label strict s at = when (ltb (length s) at) (2, []) (split_step label strict at (split (drop at s)))

abbrev pub step_says : Result (Option Span) Refusal → ℕ × List ℕ
step_says (Ok (Some p)) = (0, p.from ∷ p.end ∷ [])
step_says (Ok None) = (0, [])
step_says (Err e) = (number_of e, [])

-- ---- the cursor

-- "Opening says page or label, strict or not, and tests the whole list"; "opened without a choice" it is strict (document 02, No. 7). That stays in the cursor
abbrev pub cursor_on : Bool → Bool → ℕ → Cursor
cursor_on label strict at = record { at = at; opening = record { label = label; strict = strict } }

abbrev pub cursor_at_start : Bool → Bool → Cursor
cursor_at_start label strict = cursor_on label strict 0

-- what opening gives: the number, the count of the descriptors to come, and the cursor at the list's start
pub record BegunAnswer : Type 0 where
  pub number : ℕ
  pub count : ℕ
  pub place : Cursor

abbrev pub begun_of : List ℕ → Bool → Bool → BegunAnswer
begun_of s label strict =
    record { number = list_number label strict s; count = kept (list_number label strict s) (count_of label s) 0; place = cursor_at_start label strict }

-- a refusal leaves the count 0, and the cursor at the start
abbrev pub begun_says : Bool → Bool → Result Begun Refusal → BegunAnswer
begun_says label strict (Ok b) = record { number = 0; count = b.count; place = b.place }
begun_says label strict (Err e) = record { number = number_of e; count = 0; place = cursor_at_start label strict }

-- what a step gives: the number, whether a descriptor is shown, where it begins and ends, and the cursor after it
pub record AdvanceAnswer : Type 0 where
  pub number : ℕ
  pub shows : Bool
  pub from : ℕ
  pub end : ℕ
  pub next : Cursor

-- where the descriptor shown begins and ends: both at the place where none is shown, and then the cursor does not move
abbrev pub advanced_by : Cursor → (ℕ × List ℕ) → AdvanceAnswer
advanced_by c a =
    record
    { number = a.0; shows = not (eqb (length a.1) 0); from = get_or a.1 0 c.at; end = get_or a.1 1 c.at; next = record { at = get_or a.1 1 c.at; opening = c.opening } }

abbrev pub advance_of : List ℕ → Cursor → AdvanceAnswer
advance_of s c = advanced_by c (step_answer c.opening.label c.opening.strict s c.at)

-- that nothing is left, as a refusal, shows nothing and leaves the cursor
abbrev pub advance_says : Cursor → Result (Option (Span × Cursor)) Refusal → AdvanceAnswer
advance_says c (Ok (Some p)) = record { number = 0; shows = true; from = p.0.from; end = p.0.end; next = p.1 }
advance_says c (Ok None) = record { number = 0; shows = false; from = c.at; end = c.at; next = c }
advance_says c (Err e) = record { number = number_of e; shows = false; from = c.at; end = c.at; next = c }

-- the bytes of the descriptor shown; none where both places are the cursor's
abbrev pub part_shown : List ℕ → AdvanceAnswer → List ℕ
part_shown s a = part_of s a.from (a.end - a.from)

-- the cursor after n steps
abbrev pub cursor_after : ℕ → List ℕ → Cursor → Cursor
cursor_after zero s c = c
cursor_after (suc n) s c = cursor_after n s (advance_of s c).next

-- the descriptors that n steps from a cursor show
abbrev pub shown_by : ℕ → List ℕ → Cursor → List (List ℕ)
shown_by zero s c = []
shown_by (suc n) s c = part_shown s (advance_of s c) ∷ shown_by n s (advance_of s c).next

-- the number, and the two lent places after it, which 0 alone changes
abbrev pub places_after : AdvanceAnswer → List ℕ → ℕ × List ℕ
places_after a before = (a.number, kept a.number (a.from ∷ a.end ∷ []) before)

abbrev pub list_step : Bool → Bool → List ℕ → ℕ → List ℕ → ℕ × List ℕ
list_step label strict s at before = places_after (advance_of s (cursor_on label strict at)) before
