-- The reader (document 01, "Descriptors and labels"): "A small reader stands on the caller's list and steps along it".
-- Assumes nothing.
use Rattle.std.specs.Prelude.{ℕ, ◌-◌, Bool, true, false, List, Option, Some, None, Result, Ok, Err}
use Rattle.std.specs.Borrow.{Bor}
use Rattle.octets.specs.Places.{Placed, placed, part_in}
use Rattle.refusals.specs.Numbers.{number_of}
use Rattle.refusals.specs.declared.Refusal.{Refusal}
use Rattle.descriptors.specs.Steps.{cursor_at_start, begun_of, advance_of}
use Rattle.descriptors.specs.declared.cursor.Cursor.{Cursor}
use Rattle.descriptors.specs.declared.reader.Reader.{Reader}
use Rattle.descriptors.specs.declared.reader.Opened.{Opened}

-- the reader on a list, at a place
abbrev pub standing : Bor (List ℕ) → Cursor → Reader
standing l c = record { list = l; place = c }

-- what opening gives: the number, the count of the descriptors to come, and the reader
pub record OpenedAnswer : Type 0 where
  pub number : ℕ
  pub count : ℕ
  pub reader : Reader

-- what opening gives, and the reader at the start of the very list that was lent
abbrev pub opened_of : Bor (List ℕ) → Bool → Bool → OpenedAnswer
opened_of l label strict =
    let b = begun_of l.now label strict in record { number = b.number; count = b.count; reader = standing l b.place }

-- a refusal leaves the count 0, and the reader at the start
abbrev pub opened_says : Bor (List ℕ) → Bool → Bool → Result Opened Refusal → OpenedAnswer
opened_says l label strict (Ok o) = record { number = 0; count = o.count; reader = o.reader }
opened_says l label strict (Err e) = record { number = number_of e; count = 0; reader = standing l (cursor_at_start label strict) }

-- the reader on the same list at another place
abbrev pub moved : Reader → Cursor → Reader
moved d c = standing d.list c

-- a step's number, whether a descriptor is shown, and the part that is shown: its bytes, and where they lie
pub record ShownAnswer : Type 0 where
  pub number : ℕ
  pub shows : Bool
  pub part : Placed

-- that nothing is left, as a refusal, shows no bytes, and they lie at the reader's place
abbrev pub shown_says : Reader → Result (Option (Bor (List ℕ))) Refusal → ShownAnswer
shown_says d (Ok (Some p)) = record { number = 0; shows = true; part = placed p }
shown_says d (Ok None) = record { number = 0; shows = false; part = part_in (placed d.list) d.place.at 0 }
shown_says d (Err e) = record { number = number_of e; shows = false; part = part_in (placed d.list) d.place.at 0 }

-- what a step's answer shows of itself: of the part handed back, its bytes and where they lie; a refusal and that nothing is left, as they are
abbrev pub seen : Result (Option (Bor (List ℕ))) Refusal → Result (Option Placed) Refusal
seen (Ok (Some p)) = Ok (Some (placed p))
seen (Ok None) = Ok None
seen (Err e) = Err e

-- "as the part of the list that it is": of the very list that was lent, from one place to the other
abbrev pub shown_of : Reader → ShownAnswer
shown_of d = let a = advance_of d.list.now d.place in record { number = a.number; shows = a.shows; part = part_in (placed d.list) a.from (a.end - a.from) }

-- what a step answers, and the reader after it
abbrev pub next_of : Reader → ShownAnswer × Reader
next_of d = (shown_of d, moved d (advance_of d.list.now d.place).next)
