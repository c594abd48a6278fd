-- `record::opening::ready_to_open` meets its contract: at each return the tests passed and the one met say which number is the lowest.
-- Assumes nothing.
use mathlib.Core.Path.{◌≡◌, refl, sym, ap, ap₂, ◌∙◌}
use mathlib.Core.Bool.{Bool, true, false}
use mathlib.Core.List.{List}
use Prim.Native.Nat.{ℕ}
use native.Mathlib.Omega.{arith}
use borrow.Author.Tests.{lt-ltb, le-ltb, ne_eqb}
use lib.Dec.{eqb, ltb}
use lib.ListN.{length}
use Rattle.std.specs.Prelude.{Result, Ok, Err}
use Rattle.std.specs.Result.{IsErrAnd}
use Rattle.refusals.specs.Numbers.{number_of}
use Rattle.refusals.specs.declared.Refusal.{Refusal}
use Rattle.refusals.proofs.Laws.{not_zero}
use Rattle.keytable.specs.Row.{data_type}
use Rattle.keytable.specs.Find.{found_says, place_of, found_answer, row_found}
use Rattle.keytable.proofs.Places.{says_same}
use Rattle.keytable.proofs.RowFound.{not_found}
use Rattle.record.specs.Record.{count_in, name_size_lem, name_in}
use Rattle.record.specs.Seal.{callers_max}
use Rattle.record.specs.Open.{open_number, row_looked, TestsFind}
use Rattle.record.specs.declared.opening.Ready.{Ready}
use Rattle.record.proofs.Lengths.{too_long}
use Rattle.record.proofs.OpenNumbers.{OpenMeasured, number_four, number_five, number_six, number_seven}
use Rattle.record.proofs.Reading.{HeaderAccepted, header_accepted, number_unread}
use Rattle.record.proofs.opening.ready_to_open.Goals.{After-find, Else-room-header, In_ok-header}
use Rattle.record.proofs.opening.ready_to_open.Goals as goal

-- past the header: its fields are the record's own
is_read : (c : In_ok-header) → let h = c.in_ok-header.header in HeaderAccepted c.args.r.now h.mode h.k h.n
is_read c = header_accepted _ _ _ _ c.in_ok-header.ensures

module _ {r : List ℕ} {u k n : ℕ} (is : HeaderAccepted r u k n) where
  maxima : (a : List ℕ) (b : Bool) → ltb callers_max (length a) ≡ b → too_long (name_size_lem r) (count_in r) a ≡ b
  maxima a b e = rw is.short e

  fits : (room : ℕ) (b : Bool) → ltb room n ≡ b → ltb room (count_in r) ≡ b
  fits room b e = ap (ltb room) (sym is.count_is) ∙ e

-- past the room's test: those before the row's own are passed
measured : (c : Else-room-header) → let h = c.in_ok-header.header in HeaderAccepted c.args.r.now h.mode h.k h.n → OpenMeasured true c.args.r.now c.args.aad.now c.args.room
measured c is =
    record {
      accepted = refl;
      layout = is.layout;
      mode_ok = is.mode_ok;
      maxima = maxima is c.args.aad.now false (le-ltb _ _ c.if-aad-gt-CALLERS_MAX.false);
      fits = fits is c.args.room false (le-ltb _ _ c.if-room-header.false);
    }

-- what was looked up is what the table has for the data row of the record's name
found_is : (c : After-find) → found_says c.find.result ≡ found_answer c.args.table.now data_type (name_in c.args.r.now)
found_is c = c.find.ensures ∙ ap (found_answer c.args.table.now data_type) c.name.ensures

looked : (c : After-find) → row_looked c.args.table.now c.args.r.now ≡ row_found c.args.table.now c.find.result
looked c = ap (row_found c.args.table.now) (sym (says_same c.find.result (place_of c.args.table.now data_type (name_in c.args.r.now)) (found_is c)))

-- a refusal that is handed on
refused : (t r a : List ℕ) (room : ℕ) (x : Result Ready Refusal) (e : Refusal) → IsErrAnd x (λ y. y ≡ e) → open_number true (row_looked t r) r a room ≡ number_of e
    → TestsFind t r a room x
refused t r a room (Ok x) e h number = absurd h
refused t r a room (Err y) e h number = (number ∙ ap number_of (sym h), λ z. not_zero y (sym z))

pub returns-in_err-header-clause-find : goal.returns-in_err-header-clause-find
returns-in_err-header-clause-find c = refused _ _ _ _ _ _ c.from_residual.ensures.1 (number_unread _ _ _ _ _ c.in_err-header.ensures)

pub returns-then-aad-gt-CALLERS_MAX-clause-find : goal.returns-then-aad-gt-CALLERS_MAX-clause-find
returns-then-aad-gt-CALLERS_MAX-clause-find c =
    let is = is_read (goal.at.returns-then-aad-gt-CALLERS_MAX-clause-find c).In_ok-header in
    (number_four _ _ _ _ _ refl is.layout is.mode_ok (maxima is c.args.aad.now true (lt-ltb _ _ c.if-aad-gt-CALLERS_MAX.true)), λ z. omega arith)

pub returns-then-room-header-clause-find : goal.returns-then-room-header-clause-find
returns-then-room-header-clause-find c =
    let is = is_read (goal.at.returns-then-room-header-clause-find c).In_ok-header in (
      number_five _ _ _ _ _ refl is.layout is.mode_ok (maxima is c.args.aad.now false (le-ltb _ _ c.if-aad-gt-CALLERS_MAX.false))
          (fits is c.args.room true (lt-ltb _ _ c.if-room-header.true)),
      λ z. omega arith,
    )

pub returns-in_default-clause-find : goal.returns-in_default-clause-find
returns-in_default-clause-find c =
    let at = goal.at.returns-in_default-clause-find c in
    let is = is_read at.In_ok-header in
    (number_six _ _ _ _ _ (measured at.Else-room-header is) (looked at.After-find ∙ not_found _ c.find.result c.in_default.not-Ok), λ z. omega arith)

pub returns-then-differs-clause-find : goal.returns-then-differs-clause-find
returns-then-differs-clause-find c =
    let at = goal.at.returns-then-differs-clause-find c in
    let is = is_read at.In_ok-header in (
      number_seven _ _ _ _ _ (measured at.Else-room-header is) _ (looked at.After-find ∙ ap (row_found _) c.in-Ok.is)
          (ap₂ eqb (sym c.use_at-u.ensures) (sym is.mode_is) ∙ ne_eqb _ _ c.if-differs.true),
      λ z. omega arith,
    )
