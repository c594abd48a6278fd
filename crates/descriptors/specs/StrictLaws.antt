-- What opening strict promises beside the old way (document 02, No. 7), as statements; proofs/StrictLaws.antt proves each.
-- Assumes nothing.
use Rattle.std.specs.Prelude.{◌≡◌, ◌↔◌, Bool, true, false, ℕ, ◌<◌, length, get_or}
use mathlib.Core.List.{List, [], ◌∷◌, flatten}
use Rattle.std.proofs.Math.Option.{some}
use Rattle.octets.specs.Tests.{all}
use Rattle.descriptors.specs.Descriptor.{type_of, is_reserved, strict_by_default}
use Rattle.descriptors.specs.Parse.{split, parse}
use Rattle.descriptors.specs.Tested.{admits, list_ok, unreserved, count_of, list_answer}
use Rattle.descriptors.specs.Steps.{cursor_at_start, advance_of, cursor_after, shown_by}
use Rattle.descriptors.specs.Labels.{label_strict}
use Rattle.descriptors.specs.declared.cursor.Cursor.{Cursor}

-- whether descriptor number i has a reserved type; that none has one, and that one has
abbrev pub reserved_at : Bool → List (List ℕ) → ℕ → Bool
reserved_at label ds i = is_reserved label (type_of (get_or ds i []))

abbrev pub NoneReserved : Bool → List (List ℕ) → Type 0
NoneReserved label ds = (i : ℕ) → i < length ds → reserved_at label ds i ≡ false

pub record HasReserved (label : Bool) (ds : List (List ℕ)) : Type 0 where
  pub place : ℕ
  pub within : place < length ds
  pub reserved : reserved_at label ds place ≡ true

-- strict, 0 and a count are given exactly where the old way gives them and no type is reserved
abbrev pub StrictExactly : Type 0
StrictExactly =
    (label : Bool) (s : List ℕ) (n : ℕ)
    → (list_answer label true s ≡ (0, n ∷ [])) ↔ ((list_answer label false s ≡ (0, n ∷ [])) × NoneReserved label (split s).0)

-- what step number i from a cursor gives: its number, whether a descriptor is shown, and where it begins and ends
abbrev pub step_from : Cursor → List ℕ → ℕ → ℕ × Bool × ℕ × ℕ
step_from c s i = let a = advance_of s (cursor_after i s c) in (a.number, a.shows, a.from, a.end)

-- where strict gives 0, each step gives the same as the old way's
abbrev pub StrictShowsSame : Type 0
StrictShowsSame = (label : Bool) (s : List ℕ) (i : ℕ) → list_ok label true s ≡ true → step_from (cursor_at_start label true) s i ≡ step_from (cursor_at_start label false) s i

-- no descriptor is left out of the count, or of what is shown
abbrev pub StrictLeavesNone : Type 0
StrictLeavesNone = (label : Bool) (s : List ℕ) (ds : List (List ℕ)) → list_ok label true s ≡ true → parse s ≡ some ds → unreserved label ds ≡ ds

-- so that what is shown, end to end, is the list
abbrev pub StrictShowsWhole : Type 0
StrictShowsWhole = (label : Bool) (s : List ℕ) → list_ok label true s ≡ true → flatten (shown_by (count_of label s) s (cursor_at_start label true)) ≡ s

-- "a reserved type gives 2": of any list, one among the whole descriptors that it begins with is enough
abbrev pub ReservedRefused : Type 0
ReservedRefused = (label : Bool) (s : List ℕ) → HasReserved label (split s).0 → list_answer label strict_by_default s ≡ (2, [])

-- no type is refused on a label
abbrev pub LabelAdmits : Type 0
LabelAdmits = (ds : List (List ℕ)) → all (admits true label_strict) ds ≡ true
