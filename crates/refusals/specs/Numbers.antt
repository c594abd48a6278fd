-- Document 01, "Numbers given back": each refusal's number, and 0 for done.
-- Assumes nothing.
use Rattle.std.specs.Prelude.{ℕ, List, [], ◌∷◌, Result, Ok, Err}
use Rattle.refusals.specs.declared.Refusal.{Refusal}
use Rattle.refusals.specs.declared.Refusal.TheVariants.{TableLayout, Layout, NotPermitted, PastMaximum, NoRoom, NoRow, OtherUse, WrappedLength, WrongTag, SessionSpent, CounterRunsOver}

abbrev pub number_of : Refusal → ℕ
number_of TableLayout = 1
number_of Layout = 2
number_of NotPermitted = 3
number_of PastMaximum = 4
number_of NoRoom = 5
number_of NoRow = 6
number_of OtherUse = 7
number_of WrappedLength = 8
number_of WrongTag = 9
number_of SessionSpent = 10
number_of CounterRunsOver = 11

-- the number of an answer, whatever comes with 0
abbrev pub outcome_number : {A : Type 0} → Result A Refusal → ℕ
outcome_number (Ok a) = 0
outcome_number (Err e) = number_of e

-- a number, and the values that come with 0; `values` reads them from what is given
abbrev pub outcome_says : {A : Type 0} → (A → List ℕ) → Result A Refusal → ℕ × List ℕ
outcome_says values (Ok a) = (0, values a)
outcome_says values (Err e) = (number_of e, [])
