-- `record::opening::opened_by` meets its contract: the number of the tests that was met, or what the tag decides.
-- Assumes nothing.
use mathlib.Core.Path.{◌≡◌, refl, sym, ap, ◌∙◌}
use mathlib.Core.List.{[], ◌∷◌}
use Prim.Native.Nat.{ℕ}
use lib.ListN.{length}
use Rattle.octets.specs.Lent.{lowest}
use Rattle.octets.proofs.Places.{its_bytes}
use Rattle.refusals.specs.Numbers.{number_of}
use Rattle.refusals.proofs.Laws.{said_on, not_zero}
use Rattle.keytable.specs.Table.{row_at}
use Rattle.record.specs.Record.{count_in}
use Rattle.record.specs.Open.{authentic_by, record_tag_tests, ReadyAt}
use Rattle.record.proofs.OpenReady.{ready_key, opened-refused, opened_nine, opened-zero}
use Rattle.record.proofs.Apart.{tag_nine, tag-zero}
use Rattle.record.proofs.opening.opened_by.Goals.{In_ok-at}
use Rattle.record.proofs.opening.opened_by.Goals as goal

-- what the tests before the tag's found, with room for as many bytes as the header says
ready : (c : In_ok-at) → let a = c.args in
    let found = c.in_ok-at.field-0 in
    let h = found.record.header in
    ReadyAt a.table.now a.r.now a.aad.now (count_in a.r.now) found.at h.mode h.k h.n
ready c = rw c.read32.ensures.0 at c.in_ok-at.ensures.find

pub returns-in_err-at : goal.returns-in_err-at
returns-in_err-at c =
    let found = rw c.read32.ensures.0 at c.in_err-at.ensures.find in
    said_on (λ i. i ∷ []) _ _ c.from_residual.ensures.1 ∙ sym (opened-refused _ _ _ _ found.0 found.1)

pub verify-requires : goal.verify-requires
verify-requires c =
    let is = ready (goal.at.verify-requires c).In_ok-at in
    (ap length (its_bytes c.key_at.ensures) ∙ ready_key is, is.data_fits)

pub returns-in_err-verify : goal.returns-in_err-verify
returns-in_err-verify c =
    let a = c.args in
    let key = (row_at a.table.now c.in_ok-at.field-0.at).row_key in
    let e = c.in_err-verify.field-0.0 in
    let told : number_of e ≡ lowest (record_tag_tests key a.r.now a.aad.now) =
    rw (its_bytes c.key_at.ensures, c.in_ok-at.ensures.same) at c.in_err-verify.ensures in
    let wrong = tag_nine (authentic_by key a.r.now a.aad.now) _ told (λ z. not_zero e (sym z)) in
    said_on (λ i. i ∷ []) _ _ c.from_residual-in_err-verify.ensures.1
    ∙ ap (λ (n : ℕ). (n, [])) (sym wrong.1)
    ∙ sym (opened_nine _ _ _ (ready (goal.at.returns-in_err-verify c).In_ok-at) wrong.0)

pub returns : goal.returns
returns c =
    let a = c.args in
    let key = (row_at a.table.now c.in_ok-at.field-0.at).row_key in
    let told : 0 ≡ lowest (record_tag_tests key a.r.now a.aad.now) = rw (its_bytes c.key_at.ensures, c.in_ok-at.ensures.same) at c.in_ok-verify.ensures in
    sym (opened-zero _ _ _ (ready (goal.at.returns c).In_ok-at) (tag-zero (authentic_by key a.r.now a.aad.now) _ told refl))
