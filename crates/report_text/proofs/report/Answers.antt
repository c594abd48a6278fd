-- `report_text::report` meets its contract: what is printed stands over the front of the zeros, which have room for it.
-- Assumes nothing.
use mathlib.Core.Path.{◌≡◌, refl, sym, ap, ap₂, ◌∙◌}
use Prim.Native.Nat.{ℕ}
use mathlib.Core.List.{List}
use native.Mathlib.Omega.{arith}
use lib.ListN.{replicate}
use Rattle.std.proofs.Common.{rules}
use Rattle.std.specs.Prelude.{Result, Ok, Err}
use Rattle.std.specs.Result.{is_ok}
use Rattle.refusals.specs.Numbers.{number_of, outcome_number}
use Rattle.refusals.specs.declared.Refusal.{Refusal}
use Rattle.wording.specs.Writing.{Wrote}
use Rattle.wording.proofs.Puts.{adds_fit}
use Rattle.wording.proofs.Wrote.{wrote_front}
use Rattle.report_text.specs.Report.{printed, report_number, report_room}
use Rattle.report_text.proofs.Texts.{printed_short}
use Rattle.report_text.proofs.report.Goals.{After-put_printed}
use Rattle.report_text.proofs.report.Goals as goal

-- the number of an answer whose value was let go
number_kept : {A : Type 0} (n : ℕ) (x : Result A Refusal) (y : Result (Unit {0}) Refusal) → ((a : A) → x ≡ Ok a → n ≡ 0) → ((e : Refusal) → x ≡ Err e → n ≡ number_of e)
    → is_ok y ≡ is_ok x → ((e : Refusal) → x ≡ Err e → y ≡ Err e) → n ≡ outcome_number y
number_kept n (Ok a) (Ok u) done refused same kept = done a refl
number_kept n (Ok a) (Err e) done refused same kept = cc
number_kept n (Err e) y done refused same kept = rw (kept e refl) (refused e refl)

abbrev ok : (c : After-put_printed)
    → (c.put_printed.result ≡ Ok tt) × Wrote 0 (printed c.args.table.now c.args.dump.now) (replicate report_room 0) c.put_printed.new.writer.out.now c.put_printed.new.writer.at
ok c = adds_fit c.put_printed.ensures (omega (arith, printed_short c.args.table.now c.args.dump.now))

pub unwrap-requires : goal.unwrap-requires
unwrap-requires c = rw (ok (goal.at.unwrap-requires c).After-put_printed).0

pub invariant_of-result : goal.invariant_of-result
invariant_of-result c = let w = (ok (goal.at.invariant_of-result c).After-put_printed).1 in record { within = omega (arith, w.fits, w.place) }

pub returns : goal.returns
returns c =
    let w = (ok (goal.at.returns c).After-put_printed).1 in
    let n = c.put_printed.ensures.writes.same_room in
    let e : _ ≡ c.put_printed.new.writer.out.now = search rules in
    let counted = c.count_accepted-counted.ensures in
    let mapped = c.map.ensures.cases in
    let is : report_number c.args.table.now c.args.dump.now ≡ outcome_number c.map.result =
    number_kept _ c.count_accepted-counted.result c.map.result (λ a h. (rw h at counted).0) (λ e h. rw h at counted) c.map.ensures.variant (λ e h. rw h at mapped)
    in
    ap₂ (λ (i : ℕ) (p : ℕ × List ℕ). (i, p.0, p.1)) is (wrote_front w ∙ ap (λ (l : List ℕ). (c.put_printed.new.writer.at, l)) (sym e))
