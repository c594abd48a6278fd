-- `keytable::find_use` meets its contract: at each return the tests passed and the one met say which number is the lowest.
-- Assumes nothing.
use mathlib.Core.Path.{◌≡◌, sym, ap, ◌∙◌}
use mathlib.Core.Bool.{true, false}
use Prim.Native.Nat.{ℕ}
use borrow.Author.Tests.{lt-ltb, le-ltb}
use lib.Dec.{eqb, ltb}
use lib.ListN.{length}
use Rattle.refusals.proofs.Laws.{passed_on}
use Rattle.keytable.specs.Row.{name_max, type_max}
use Rattle.keytable.specs.Table.{table_ok}
use Rattle.keytable.proofs.Calls.{rows_accepted, broken-refused, use-one, use_two, use_three, use_four, use_six, use-done}
use Rattle.keytable.proofs.RowFound.{no_row, the_row}
use Rattle.keytable.proofs.find_use.Goals.{Else-is_empty, Else-kind-gt-TYPE_MAX, Else-name-gt-NAME_MAX, In_ok-check}
use Rattle.keytable.proofs.find_use.Goals as goal

-- what is known past each test

accepted : (c : In_ok-check) → table_ok c.args.t.now ≡ true
accepted c = rows_accepted _ _ c.in_ok-check.ensures

given : (c : Else-is_empty) → eqb (length c.args.name.now) 0 ≡ false
given c = sym c.if-is_empty.ensures

known : (c : Else-kind-gt-TYPE_MAX) → ltb type_max c.args.kind ≡ false
known c = le-ltb _ _ c.if-kind-gt-TYPE_MAX.false

short : (c : Else-name-gt-NAME_MAX) → ltb name_max (length c.args.name.now) ≡ false
short c = le-ltb _ _ c.if-name-gt-NAME_MAX.false

pub returns-in_err-check : goal.returns-in_err-check
returns-in_err-check c =
    let (refused, one) = broken-refused _ _ c.in_err-check.ensures in
    use-one _ _ _ _ _ refused ∙ ap (λ (n : ℕ). (n, c.args.use_out.now)) (sym (passed_on _ _ c.from_residual.ensures.1 ∙ one))

pub returns-then-is_empty : goal.returns-then-is_empty
returns-then-is_empty c = use_two _ _ _ _ _ (accepted (goal.at.returns-then-is_empty c).In_ok-check) (sym c.if-is_empty.ensures)

pub returns-then-kind-gt-TYPE_MAX : goal.returns-then-kind-gt-TYPE_MAX
returns-then-kind-gt-TYPE_MAX c =
    let at = goal.at.returns-then-kind-gt-TYPE_MAX c in
    use_three _ _ _ _ _ (accepted at.In_ok-check) (given at.Else-is_empty) (lt-ltb _ _ c.if-kind-gt-TYPE_MAX.true)

pub returns-then-name-gt-NAME_MAX : goal.returns-then-name-gt-NAME_MAX
returns-then-name-gt-NAME_MAX c =
    let at = goal.at.returns-then-name-gt-NAME_MAX c in
    use_four _ _ _ _ _ (accepted at.In_ok-check) (given at.Else-is_empty) (known at.Else-kind-gt-TYPE_MAX) (lt-ltb _ _ c.if-name-gt-NAME_MAX.true)

pub returns-in_default : goal.returns-in_default
returns-in_default c =
    let at = goal.at.returns-in_default c in
    let ok = accepted at.In_ok-check in
    let nowhere = no_row _ _ _ c.find.result ok c.find.ensures c.in_default.not-Ok in
    use_six _ _ _ _ _ ok (given at.Else-is_empty) (known at.Else-kind-gt-TYPE_MAX) (short at.Else-name-gt-NAME_MAX) nowhere

pub returns : goal.returns
returns c =
    let at = goal.at.returns c in
    let ok = accepted at.In_ok-check in
    let row = the_row _ _ _ _ ok c.find.ensures _ c.in-Ok.is in
    use-done _ _ _ _ _ ok (given at.Else-is_empty) (known at.Else-kind-gt-TYPE_MAX) (short at.Else-name-gt-NAME_MAX) _ row
    ∙ ap (λ (u : ℕ). (0, u)) (sym c.use_at.ensures)
