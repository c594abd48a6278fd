-- `record::sealing::Contents::ready` meets its contract: at each return the tests passed and the one met say which number is the lowest.
-- Assumes nothing.
use mathlib.Core.Path.{◌≡◌, sym, ap, ap₂, ◌∙◌}
use mathlib.Core.Bool.{Bool, true, false, ◌||◌}
use mathlib.Core.List.{List}
use mathlib.Core.Option.{Option, none}
use Prim.Native.Nat.{ℕ}
use borrow.Author.Tests.{lt-ltb, le-ltb}
use lib.Dec.{eqb, ltb}
use lib.ListN.{length}
use Rattle.std.proofs.Common.{rules}
use Rattle.std.proofs.lemmas.Result.{MatchResult-weaker}
use Rattle.std.specs.Prelude.{Result, Ok, Err, MatchResult}
use Rattle.std.specs.Result.{IsErrAnd}
use Rattle.octets.specs.Lent.{is_not}
use Rattle.refusals.specs.Numbers.{number_of, outcome_number}
use Rattle.refusals.specs.declared.Refusal.{Refusal}
use Rattle.keytable.specs.Row.{Row}
use Rattle.keytable.specs.Table.{table_ok, data_row, row_at}
use Rattle.keytable.specs.Calls.{use_in}
use Rattle.keytable.specs.Find.{row_found}
use Rattle.keytable.proofs.Calls.{rows_accepted, broken-refused}
use Rattle.keytable.proofs.Laws.{finds-row}
use Rattle.keytable.proofs.RowFound.{not_found}
use Rattle.modes.specs.Modes.{mode_of}
use Rattle.record.specs.Record.{end_at}
use Rattle.record.specs.Seal.{callers_max, sealed_size}
use Rattle.record.proofs.Lengths.{too_long}
use Rattle.record.proofs.SealNumbers.{wrong_length, SealMeasured, ready-one, ready_two, ready_four, ready_five, ready_six, ready-zero}
use Rattle.record.proofs.sealing.Contents.ready.Goals.{After-iv_size, After-passes_maximum, Else-is_empty-self, Else-room-places}
use Rattle.record.proofs.sealing.Contents.ready.Goals as goal

-- the use of the row that was found, and 0 where there is none
use_found : (t : List ℕ) (f : Result ℕ Refusal) (u : ℕ) → MatchResult f (λ i. u ≡ (row_at t i).row_use) (λ e. u ≡ 0) → u ≡ use_in (row_found t f)
use_found t (Ok i) u h = h
use_found t (Err e) u h = h

-- past the lookup: the table is accepted, the row is what was found, and the IV's length is that of its use
record Looked (t name : List ℕ) (f : Result ℕ Refusal) (u v : ℕ) : Type 0 where
  good : table_ok t ≡ true
  row_is : data_row t name ≡ row_found t f
  use_is : u ≡ use_in (data_row t name)
  ivs : v ≡ (mode_of (use_in (data_row t name))).iv_size

looked : (c : After-iv_size) → Looked c.args.table.now c.args.self.name.now c.find-found.result c.map_or-u.result c.iv_size.result
looked c =
    let t = c.args.table.now in
    let good = rows_accepted _ _ c.in_ok-check.ensures in
    let row_is = finds-row _ _ _ c.find-found.result good c.find-found.ensures in
    let found : MatchResult c.find-found.result (λ i. c.map_or-u.result ≡ (row_at t i).row_use) (λ e. c.map_or-u.result ≡ 0) =
    MatchResult-weaker _ {P' = λ i. c.map_or-u.result ≡ (row_at t i).row_use} {Q' = λ e. c.map_or-u.result ≡ 0} c.map_or-u.ensures (λ i k. search rules) (λ e k. search rules) in
    let use_is = use_found t c.find-found.result c.map_or-u.result found ∙ ap use_in (sym row_is) in
    record { good = good; row_is = row_is; use_is = use_is; ivs = c.iv_size.ensures ∙ ap (λ (u : ℕ). (mode_of u).iv_size) use_is }

module _ {t name : List ℕ} {f : Result ℕ Refusal} {u v : ℕ} (l : Looked t name f u v) where
  lengths : (iv : List ℕ) (empty b : Bool) → empty ≡ eqb (length name) 0 → (empty || is_not v iv) ≡ b → wrong_length (data_row t name) name iv ≡ b
  lengths iv empty b is e = ap₂ (λ (x : Bool) (v : ℕ). x || is_not v iv) (sym is) (sym l.ivs) ∙ e

  -- the end of the record is that of its row
  ends : (end n room : ℕ) (b : Bool) → end ≡ end_at (mode_of u) (length name) n → ltb room end ≡ b → ltb room (sealed_size (data_row t name) name n) ≡ b
  ends end n room b is e = ap (ltb room) (ap (λ (u : ℕ). end_at (mode_of u) (length name) n) (sym l.use_is) ∙ sym is) ∙ e

-- past the maxima
maxima : (c : After-passes_maximum) (b : Bool) → (c.passes_maximum.result || ltb callers_max (length c.args.self.aad.now)) ≡ b
    → too_long (length c.args.self.name.now) (length c.args.self.plain.now) c.args.self.aad.now ≡ b
maxima c b e = ap (λ (x : Bool). x || ltb callers_max (length c.args.self.aad.now)) (sym c.passes_maximum.ensures) ∙ e

-- past the room's test: those before the row's own are passed
measured : (c : Else-room-places) → Looked c.args.table.now c.args.self.name.now c.find-found.result c.map_or-u.result c.iv_size.result
    → too_long (length c.args.self.name.now) (length c.args.self.plain.now) c.args.self.aad.now ≡ false
    → SealMeasured (table_ok c.args.table.now) (data_row c.args.table.now c.args.self.name.now) c.args.self.name.now c.args.self.iv.now c.args.self.aad.now
    (length c.args.self.plain.now) c.args.room
measured c l short =
    record {
      accepted = l.good;
      lengths = lengths l c.args.self.iv.now _ false c.is_empty.ensures c.if-is_empty-self.false;
      maxima = short;
      fits = ends l c.places.result.end (length c.args.self.plain.now) c.args.room false c.places.ensures.end (le-ltb _ _ c.if-room-places.false);
    }

-- a refusal that is handed on brings no row
refused : (t : List ℕ) (x : Result ℕ Refusal) (e : Refusal) (n : ℕ) → number_of e ≡ n → IsErrAnd x (λ y. y ≡ e) → ◌≡◌ {A = ℕ × Option Row} (n, none) (outcome_number x, row_found t x)
refused t (Ok i) e n is h = absurd h
refused t (Err y) e n is h = ap (λ (n : ℕ). (n, none)) (sym is ∙ sym (ap number_of h))

pub returns-in_err-check : goal.returns-in_err-check
returns-in_err-check c =
    let (broken, one) = broken-refused _ _ c.in_err-check.ensures in
    ready-one _ _ _ _ _ _ _ broken ∙ refused _ _ _ 1 one c.from_residual.ensures.1

pub returns-then-is_empty-self : goal.returns-then-is_empty-self
returns-then-is_empty-self c =
    let l = looked (goal.at.returns-then-is_empty-self c).After-iv_size in
    ready_two _ _ _ _ _ _ _ l.good (lengths l c.args.self.iv.now _ true c.is_empty.ensures c.if-is_empty-self.true)

pub returns-then-passes_maximum-self : goal.returns-then-passes_maximum-self
returns-then-passes_maximum-self c =
    let at = goal.at.returns-then-passes_maximum-self c in
    let l = looked at.After-iv_size in
    ready_four _ _ _ _ _ _ _ l.good (lengths l c.args.self.iv.now _ false c.is_empty.ensures c.if-is_empty-self.false)
    (maxima at.After-passes_maximum true c.if-passes_maximum-self.true)

pub returns-then-room-places : goal.returns-then-room-places
returns-then-room-places c =
    let at = goal.at.returns-then-room-places c in
    let l = looked at.After-iv_size in
    ready_five _ _ _ _ _ _ _ l.good (lengths l c.args.self.iv.now _ false c.is_empty.ensures c.if-is_empty-self.false)
    (maxima at.After-passes_maximum false c.if-passes_maximum-self.false)
    (ends l c.places.result.end (length c.args.self.plain.now) c.args.room true c.places.ensures.end (lt-ltb _ _ c.if-room-places.true))

pub returns-in_default : goal.returns-in_default
returns-in_default c =
    let at = goal.at.returns-in_default c in
    let l = looked at.After-iv_size in
    let short = maxima at.After-passes_maximum false c.if-passes_maximum-self.false in
    ready_six _ _ _ _ _ _ _ (measured at.Else-room-places l short) (l.row_is ∙ not_found _ c.find-found.result c.in_default.not-Ok)

pub returns : goal.returns
returns c =
    let at = goal.at.returns c in
    let l = looked at.After-iv_size in
    let short = maxima at.After-passes_maximum false c.if-passes_maximum-self.false in
    ready-zero _ _ _ _ _ _ _ (measured at.Else-room-places l short) _ (l.row_is ∙ ap (row_found _) c.in-Ok.is)
