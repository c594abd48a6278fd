-- `spadeswirl::table::spadeswirl_table_check` meets its contract: the number of the check's answer, whose count of rows was let go.
-- Assumes nothing.
use mathlib.Core.Path.{◌≡◌, refl, ap, ◌∙◌}
use Prim.Native.Nat.{ℕ}
use mathlib.Core.List.{List}
use Rattle.std.specs.Prelude.{Result, Ok, Err}
use Rattle.std.specs.Result.{is_ok}
use Rattle.refusals.specs.Numbers.{outcome_number}
use Rattle.refusals.specs.declared.Refusal.{Refusal}
use Rattle.keytable.specs.Calls.{table_says, table_answer}
use Rattle.spadeswirl.proofs.table.spadeswirl_table_check.Goals as goal

number_kept : (x : Result ℕ Refusal) (y : Result (Unit {0}) Refusal) → is_ok y ≡ is_ok x → ((e : Refusal) → x ≡ Err e → y ≡ Err e)
    → outcome_number y ≡ (table_says x).0
number_kept (Ok r) (Ok u) same kept = refl
number_kept (Ok r) (Err e) same kept = cc
number_kept (Err e) y same kept = ap outcome_number (kept e refl)

pub returns : goal.returns
unfolding table_answer
returns c =
    let mapped = c.map.ensures.cases in
    c.number.ensures
    ∙ number_kept c.check.result c.map.result c.map.ensures.variant (λ e h. rw h at mapped)
    ∙ ap (λ (x : ℕ × List ℕ). x.0) c.check.ensures
