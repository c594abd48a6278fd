-- What the reader's own calls promise, as statements; proofs/ReaderLaws.antt proves each.
-- Assumes nothing.
use Rattle.std.specs.Prelude.{◌≡◌, ◌↔◌, Bool, true, false, List, [], ℕ, suc, ◌-◌, ◌≤◌, ◌<◌, length, get_or, Option, None, Result, Ok}
use Rattle.std.proofs.Math.Option.{some}
use Rattle.std.specs.Borrow.{Bor}
use Rattle.octets.specs.Places.{Placed, placed, part_in}
use Rattle.octets.specs.Unique.{UniqueBy, Unique}
use Rattle.refusals.specs.declared.Refusal.{Refusal}
use Rattle.descriptors.specs.Parse.{split, parse}
use Rattle.descriptors.specs.Tested.{unreserved}
use Rattle.descriptors.specs.Steps.{cursor_at_start, advance_of, cursor_after}
use Rattle.descriptors.specs.Readers.{OpenedAnswer, opened_of, opened_says, ShownAnswer, shown_says, seen, shown_of, next_of}
use Rattle.descriptors.specs.StrictLaws.{NoneReserved}
use Rattle.descriptors.specs.declared.reader.Reader.{Reader}
use Rattle.descriptors.specs.declared.reader.Opened.{Opened}

-- a list opened, and one step after the other on the reader where it is held: all that is known of them is what the calls ensure
pub record ReaderRun (l : Bor (List ℕ)) (label strict : Bool) : Type 0 where
  pub opened : Result Opened Refusal
  pub held : ℕ → Reader
  pub shown : ℕ → Result (Option (Bor (List ℕ))) Refusal
  pub opens : opened_says l label strict opened ≡ opened_of l label strict
  pub first : held 0 ≡ (opened_says l label strict opened).reader
  pub steps : (i : ℕ) → next_of (held i) ≡ (shown_says (held i) (shown i), held (suc i))

-- its opening's answer, and that of its step number i
abbrev pub opening_of : (l : Bor (List ℕ)) (label strict : Bool) → ReaderRun l label strict → OpenedAnswer
opening_of l label strict run = opened_says l label strict run.opened

abbrev pub step_of : (l : Bor (List ℕ)) (label strict : Bool) → ReaderRun l label strict → ℕ → ShownAnswer
step_of l label strict run i = shown_says (run.held i) (run.shown i)

module _ (l : Bor (List ℕ)) (label strict : Bool) (run : ReaderRun l label strict) (ds : List (List ℕ)) where
  -- opened with 0, the count is the number of the list's unreserved descriptors
  abbrev pub ReaderCounts : Type 0
  ReaderCounts = (opening_of l label strict run).number ≡ 0 → parse l.now ≡ some ds → (opening_of l label strict run).count ≡ length (unreserved label ds)

  -- step number i shows unreserved descriptor number i, as the part of the list that the cursor's step gives the places of
  abbrev pub ReaderShows : Type 0
  ReaderShows =
      (i : ℕ) → (opening_of l label strict run).number ≡ 0 → parse l.now ≡ some ds → i < length (unreserved label ds)
      → let a = advance_of l.now (cursor_after i l.now (cursor_at_start label strict)) in
      (step_of l label strict run i ≡ record { number = 0; shows = true; part = part_in (placed l) a.from (a.end - a.from) })
      × ((step_of l label strict run i).part.bytes ≡ get_or (unreserved label ds) i [])

  -- and every later one shows nothing (`Ok None`, which has number 0) and does not move
  abbrev pub ReaderThenNothing : Type 0
  ReaderThenNothing =
      (i : ℕ) → (opening_of l label strict run).number ≡ 0 → parse l.now ≡ some ds → length (unreserved label ds) ≤ i
      → (run.shown i ≡ Ok None) × ((step_of l label strict run i).part.bytes ≡ []) × (run.held (suc i) ≡ run.held i)

-- one list opened strict, and opened the old way
module _ (l : Bor (List ℕ)) (label : Bool) (strictly : ReaderRun l label true) (old-way : ReaderRun l label false) where
  -- the first gives 0 exactly when the second does and no type is reserved
  abbrev pub ReaderStrictExactly : Type 0
  ReaderStrictExactly =
      ((opening_of l label true strictly).number ≡ 0) ↔ (((opening_of l label false old-way).number ≡ 0) × NoneReserved label (split l.now).0)

  -- and then both count the same, and each step shows the same part
  abbrev pub ReaderStrictSame : Type 0
  ReaderStrictSame =
      (opening_of l label true strictly).number ≡ 0
      → ((opening_of l label true strictly).count ≡ (opening_of l label false old-way).count)
      × ((i : ℕ) → step_of l label true strictly i ≡ step_of l label false old-way i)

-- a step that is refused shows nothing and does not move
abbrev pub ReaderRefusedStays : Type 0
ReaderRefusedStays = (d : Reader) → ((shown_of d).number ≡ 0 → ⊥) → ((shown_of d).shows ≡ false) × ((shown_of d).part.bytes ≡ []) × ((next_of d).1 ≡ d)

-- ---- for each input one answer, and one reader after it; of a part handed back, its bytes and where they lie

abbrev pub ReaderOpenUnique : Type 0
ReaderOpenUnique = (l : Bor (List ℕ)) (label strict : Bool) → UniqueBy (opened_says l label strict) (opened_of l label strict)

abbrev pub ReaderNextUnique : Type 0
ReaderNextUnique =
    (d : Reader) (x y : Result (Option (Bor (List ℕ))) Refusal) (r s : Reader) → next_of d ≡ (shown_says d x, r) → next_of d ≡ (shown_says d y, s)
    → (seen x ≡ seen y) × (r ≡ s)

abbrev pub PartAtUnique : Type 0
PartAtUnique = (s : Placed) (from end : ℕ) → Unique (part_in s from (end - from))
