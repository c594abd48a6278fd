-- What descriptor lists, steps and labels promise, as statements; proofs/Laws.antt, Rising.antt, Shown.antt, Whole.antt and Unique.antt prove them.
-- Assumes nothing.
use Rattle.std.specs.Prelude.{◌≡◌, ◌↔◌, Bool, true, false, ℕ, ◌-◌, ◌≤◌, ◌<◌, length, get_or, take}
use mathlib.Core.List.{List, [], ◌∷◌, ◌++◌, flatten}
use Rattle.std.proofs.Math.Option.{some}
use Rattle.octets.specs.Lowest.{rises}
use Rattle.octets.specs.Tests.{all, part_of}
use Rattle.octets.specs.Unique.{Unique, UniqueBy}
use Rattle.descriptors.specs.Descriptor.{type_of, is_reserved, is_descriptor, size_of}
use Rattle.descriptors.specs.Parse.{split, parse}
use Rattle.descriptors.specs.Tested.{admits, list_ok, unreserved, count_of, list_tests, tested_says, list_answer, list_check}
use Rattle.descriptors.specs.Steps.{left_tests, step_says, step_answer, cursor_at_start, begun_of, begun_says, advance_of, advance_says, part_shown, cursor_after, shown_by, list_step}
use Rattle.descriptors.specs.Labels.{label_max, list_of, holds, label_strict, label_tests, label_says, label_answer, label_check}
use Rattle.descriptors.specs.declared.cursor.Cursor.{Cursor}

-- ---- the parse

-- the descriptors of a list are those, each of them whole, whose bytes joined are the list
abbrev pub ParsesExactly : Type 0
ParsesExactly = (s : List ℕ) (ds : List (List ℕ)) → (parse s ≡ some ds) ↔ ((all is_descriptor ds ≡ true) × (flatten ds ≡ s))

-- and of any list, those that it begins with, before bytes that begin none
abbrev pub SplitsWhole : Type 0
SplitsWhole = (s : List ℕ) → (flatten (split s).0 ++ (split s).1 ≡ s) × (all is_descriptor (split s).0 ≡ true) × (size_of (split s).1 ≡ 0)

-- ---- the test, and the count

-- "Types strictly rise"
abbrev pub Rises : List (List ℕ) → Type 0
Rises ds = (i j : ℕ) → i < j → j < length ds → type_of (get_or ds i []) < type_of (get_or ds j [])

pub record Accepted (label strict : Bool) (s : List ℕ) (n : ℕ) : Type 0 where
  pub descriptors : List (List ℕ)
  pub parsed : parse s ≡ some descriptors
  pub rise : Rises descriptors
  pub admitted : all (admits label strict) descriptors ≡ true
  pub counted : n ≡ length (unreserved label descriptors)

-- 0 and a count are given exactly for the lists of the layout, and the count is the number of their unreserved descriptors
abbrev pub AcceptsExactly : Type 0
AcceptsExactly = (label strict : Bool) (s : List ℕ) (n : ℕ) → (list_answer label strict s ≡ (0, n ∷ [])) ↔ Accepted label strict s n

-- ---- steps

-- from the start of an accepted list, step number i shows unreserved descriptor number i
abbrev pub ShowsInOrder : Type 0
ShowsInOrder =
    (label strict : Bool) (s : List ℕ) (ds : List (List ℕ)) (i : ℕ) → list_ok label strict s ≡ true → parse s ≡ some ds → i < length (unreserved label ds)
    → let a = advance_of s (cursor_after i s (cursor_at_start label strict)) in (a.number ≡ 0) × (a.shows ≡ true) × (part_shown s a ≡ get_or (unreserved label ds) i [])

-- and every later one shows nothing, gives 0 and does not move
abbrev pub ThenNothing : Type 0
ThenNothing =
    (label strict : Bool) (s : List ℕ) (ds : List (List ℕ)) (i : ℕ) → list_ok label strict s ≡ true → parse s ≡ some ds → length (unreserved label ds) ≤ i
    → let c = cursor_after i s (cursor_at_start label strict) in advance_of s c ≡ record { number = 0; shows = false; from = c.at; end = c.at; next = c }

-- as many steps as an accepted list has unreserved descriptors show them all
abbrev pub ShowsAll : Type 0
ShowsAll = (label strict : Bool) (s : List ℕ) → list_ok label strict s ≡ true → shown_by (count_of label s) s (cursor_at_start label strict) ≡ unreserved label (split s).0

-- of any list and place: "each step shows one whole descriptor, from its type byte on", that is not reserved and lies in the list at or after the place
pub record ShownWhole (label : Bool) (s : List ℕ) (at from end : ℕ) : Type 0 where
  pub later : at ≤ from
  pub within : end ≤ length s
  pub whole : is_descriptor (part_of s from (end - from)) ≡ true
  pub allowed : is_reserved label (type_of (part_of s from (end - from))) ≡ false

abbrev pub ShowsWhole : Type 0
ShowsWhole = (label strict : Bool) (s : List ℕ) (at from end : ℕ) → step_answer label strict s at ≡ (0, from ∷ end ∷ []) → ShownWhole label s at from end

-- a step that is refused shows nothing and does not move
abbrev pub RefusedShowsNothing : Type 0
RefusedShowsNothing = (s : List ℕ) (c : Cursor) → ((advance_of s c).number ≡ 0 → ⊥) → ((advance_of s c).shows ≡ false) × (part_shown s (advance_of s c) ≡ [])

abbrev pub RefusedStays : Type 0
RefusedStays = (s : List ℕ) (c : Cursor) → ((advance_of s c).number ≡ 0 → ⊥) → (advance_of s c).next ≡ c

-- ---- labels

pub record AcceptedLabel (s : List ℕ) (n : ℕ) : Type 0 where
  pub zeroes : take 2 s ≡ 0 ∷ 0 ∷ []
  pub list : Accepted true label_strict (list_of s) n
  pub has_00 : holds 0x00 (list_of s) ≡ true
  pub has_01 : holds 0x01 (list_of s) ≡ true
  pub has_03 : holds 0x03 (list_of s) ≡ true
  pub has_04 : holds 0x04 (list_of s) ≡ true
  pub short : length s ≤ label_max

abbrev pub AcceptsLabel : Type 0
AcceptsLabel = (s : List ℕ) (n : ℕ) → (label_answer s ≡ (0, n ∷ [])) ↔ AcceptedLabel s n

-- "Label of 2 zero bytes alone: 2. With four empty descriptors 00h, 01h, 03h, 04h (18 bytes): 0."
abbrev pub four_empty : List ℕ
four_empty =
    0 ∷ 0 ∷ 0x00 ∷ 0 ∷ 0 ∷ 0 ∷ 0x01 ∷ 0 ∷ 0 ∷ 0 ∷ 0x03 ∷ 0 ∷ 0 ∷ 0 ∷ 0x04 ∷ 0 ∷ 0 ∷ 0 ∷ []

abbrev pub LabelClaim : Type 0
LabelClaim = (label_answer (0 ∷ 0 ∷ []) ≡ (2, [])) × (length four_empty ≡ 18) × (label_answer four_empty ≡ (0, 4 ∷ []))

-- ---- for each input one answer, and one state of what is lent

module _ (label strict : Bool) (s : List ℕ) where
  abbrev pub TestUnique : Type 0
  TestUnique = UniqueBy tested_says (list_answer label strict s)

  abbrev pub StepUnique : ℕ → Type 0
  StepUnique at = UniqueBy step_says (step_answer label strict s at)

  abbrev pub BeginUnique : Type 0
  BeginUnique = UniqueBy (begun_says label strict) (begun_of s label strict)

  abbrev pub ListCheckUnique : ℕ → Type 0
  ListCheckUnique before = Unique (list_check label strict s before)

  abbrev pub ListStepUnique : ℕ → List ℕ → Type 0
  ListStepUnique at before = Unique (list_step label strict s at before)

abbrev pub AdvanceAtUnique : Type 0
AdvanceAtUnique = (s : List ℕ) (c : Cursor) → UniqueBy (advance_says c) (advance_of s c)

abbrev pub LabelUnique : Type 0
LabelUnique = (s : List ℕ) → UniqueBy label_says (label_answer s)

abbrev pub LabelCheckUnique : Type 0
LabelCheckUnique = (s : List ℕ) (before : ℕ) → Unique (label_check s before)

-- ---- "The lowest that applies is given, and no other."

abbrev pub ListTestsRise : Type 0
ListTestsRise = (label strict : Bool) (s : List ℕ) → rises (list_tests label strict s) ≡ true

abbrev pub LeftTestsRise : Type 0
LeftTestsRise = (left : List ℕ) → rises (left_tests left) ≡ true

abbrev pub LabelTestsRise : Type 0
LabelTestsRise = (s : List ℕ) → rises (label_tests s) ≡ true
