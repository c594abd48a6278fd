-- `record::opening::open` meets its contract: the number of the tests that was met, or what the tag decides.
-- Assumes nothing.
use mathlib.Core.Path.{◌≡◌, refl, sym, ap, ap₂, ◌∙◌}
use mathlib.Core.Bool.{true}
use mathlib.Core.List.{List}
use Prim.Native.Nat.{ℕ}
use native.Mathlib.Omega.{arith}
use lib.ListN.{length}
use Rattle.octets.proofs.Places.{its_bytes}
use Rattle.refusals.specs.Numbers.{number_of}
use Rattle.refusals.proofs.Laws.{passed_on, not_zero}
use Rattle.keytable.specs.Table.{table_ok, row_at}
use Rattle.keytable.proofs.Calls.{rows_accepted, broken-refused}
use Rattle.record.specs.Open.{authentic_by, tag_answer, ReadyAt}
use Rattle.record.proofs.OpenNumbers.{number-one, row-refused}
use Rattle.record.proofs.OpenReady.{ready_key, opening-refused, opening_nine, opening-zero}
use Rattle.record.proofs.Apart.{tag_wrong, tag_was_right}
use Rattle.record.proofs.opening.open.Goals.{In_ok-at, In_ok-check}
use Rattle.record.proofs.opening.open.Goals as goal

-- past the tests before the tag's: the table is accepted, and each of them is passed
table-good : (c : In_ok-check) → table_ok c.args.table.now ≡ true
table-good c = rows_accepted _ _ c.in_ok-check.ensures

ready : (c : In_ok-at) → let a = c.args in
    let found = c.in_ok-at.field-0 in
    let h = found.record.header in
    ReadyAt a.table.now a.r.now a.aad.now (length a.out.now) found.at h.mode h.k h.n
ready c = c.in_ok-at.ensures.find

pub returns-in_err-check : goal.returns-in_err-check
returns-in_err-check c =
    let (refused, one) = broken-refused _ _ c.in_err-check.ensures in
    row-refused _ _ _ _ _ _ (number-one _ _ _ _ _ refused) (λ z. omega arith)
    ∙ ap (λ (n : ℕ). ((n, c.args.out.now), c.args.count.now)) (sym (passed_on _ _ c.from_residual.ensures.1 ∙ one))

pub returns-in_err-at : goal.returns-in_err-at
returns-in_err-at c =
    let found = c.in_err-at.ensures.find in
    opening-refused _ _ _ _ _ (table-good (goal.at.returns-in_err-at c).In_ok-check) _ found.0 found.1
    ∙ ap (λ (n : ℕ). ((n, c.args.out.now), c.args.count.now)) (sym (passed_on _ _ c.from_residual-in_err-at.ensures.1))

pub open-requires : goal.open-requires
open-requires c =
    let is = ready (goal.at.open-requires c).In_ok-at in
    (ap length (its_bytes c.key_at.ensures) ∙ ready_key is, is.data_fits, is.room_fits)

pub returns-in_err-open : goal.returns-in_err-open
returns-in_err-open c =
    let at = goal.at.returns-in_err-open c in
    let a = c.args in
    let key = (row_at a.table.now c.in_ok-at.field-0.at).row_key in
    let e = c.in_err-open.field-0.0 in
    let told : tag_answer key a.r.now a.aad.now a.out.now ≡ (number_of e, c.open.new.out) =
    rw (its_bytes c.key_at.ensures, c.in_ok-at.ensures.same) at c.in_err-open.ensures in
    let wrong = tag_wrong (authentic_by key a.r.now a.aad.now) _ a.out.now _ _ told (λ z. not_zero e (sym z)) in
    opening_nine _ _ _ _ _ (table-good at.In_ok-check) (ready at.In_ok-at) wrong.0
    ∙ ap₂ (λ (n : ℕ) (l : List ℕ). ((n, l), a.count.now)) (wrong.1 ∙ sym (passed_on _ _ c.from_residual-in_err-open.ensures.1)) wrong.2

pub returns : goal.returns
returns c =
    let at = goal.at.returns c in
    let a = c.args in
    let key = (row_at a.table.now c.in_ok-at.field-0.at).row_key in
    let told : tag_answer key a.r.now a.aad.now a.out.now ≡ (0, c.open.new.out) =
    rw (its_bytes c.key_at.ensures, c.in_ok-at.ensures.same) at c.in_ok-open.ensures in
    let right = tag_was_right (authentic_by key a.r.now a.aad.now) _ a.out.now _ _ told refl in
    opening-zero _ _ _ _ _ (table-good at.In_ok-check) (ready at.In_ok-at) right.0
    ∙ ap (λ (l : List ℕ). ((0, l), c.in_ok-at.field-0.record.header.n)) (sym right.1)
