-- `keytable::check` meets its contract: each test in turn is the table's.
-- Assumes nothing.
use mathlib.Core.Path.{sym, ap, ◌∙◌}
use mathlib.Core.List.{List, [], ◌∷◌}
use Prim.Native.Nat.{ℕ}
use Rattle.refusals.specs.Numbers.{number_of}
use Rattle.refusals.specs.declared.Refusal.{Refusal}
use Rattle.refusals.proofs.Laws.{said_on}
use Rattle.octets.specs.Tests.{all}
use Rattle.keytable.specs.Row.{row_ok}
use Rattle.keytable.specs.Table.{row_parts, rows_of, distinct}
use Rattle.keytable.proofs.Calls.{table_refused}
use Rattle.keytable.proofs.check.Goals.{In_ok-rows, then-not-keep_to_the_layout-via-then-not-keep_to_the_layout, then-not-keep_to_the_layout-via-else-not-keep_to_the_layout+then-not-differ}
use Rattle.keytable.proofs.check.Goals as goal

pub returns-in_err-rows : goal.returns-in_err-rows
returns-in_err-rows c =
    said_on (λ i. i ∷ []) _ _ c.from_residual.ensures.1
    ∙ ap (λ (e : Refusal). (number_of e, [])) c.in_err-rows.ensures.0
    ∙ sym (table_refused _ 0 c.in_err-rows.ensures.1)

pub returns-then-not-keep_to_the_layout : goal.returns-then-not-keep_to_the_layout
returns-then-not-keep_to_the_layout c =
    let t = c.args.t.now in
    let same = c.in_ok-rows.ensures.0 in
    elim c.then-not-keep_to_the_layout.branch [
      | then-not-keep_to_the_layout-via-then-not-keep_to_the_layout w ↦
          sym (table_refused t 1 (ap (λ (s : List ℕ). all row_ok (row_parts s)) (sym same) ∙ sym c.keep_to_the_layout.ensures ∙ w.if-not-keep_to_the_layout.true))
      | then-not-keep_to_the_layout-via-else-not-keep_to_the_layout+then-not-differ w ↦
          sym (table_refused t 2 (ap (λ (s : List ℕ). distinct (rows_of s)) (sym same) ∙ sym w.differ.ensures ∙ w.if-not-differ.true))
    ]
