-- `cases::run` meets its contract: each text by the tests before it.
-- Assumes nothing.
use mathlib.Core.Path.{◌≡◌, refl, sym, ap, ◌∙◌}
use mathlib.Core.List.{List}
use Prim.Native.Nat.{ℕ, ◌≤◌}
use Rattle.std.proofs.Common.{rules}
use Rattle.cases.specs.Run.{run_max, run_text, in_room}
use Rattle.cases.proofs.Answers.{run_long, run_full, run_done}
use Rattle.cases.proofs.run.Goals.{Else-is_err}
use Rattle.cases.proofs.run.Goals as goal

pub returns-then-input-gt-INPUT_MAX : goal.returns-then-input-gt-INPUT_MAX
returns-then-input-gt-INPUT_MAX c = run_long c.args.input.now c.if-input-gt-INPUT_MAX.true ∙ c.of.ensures

pub returns-then-is_err : goal.returns-then-is_err
returns-then-is_err c =
    run_full c.args.input.now c.if-input-gt-INPUT_MAX.false refl c.text_room-bytes.ensures c.put_cases-outcome.ensures
    (sym c.is_err.ensures.value ∙ c.if-is_err.true)
    ∙ c.of-then-is_err.ensures

done : (c : Else-is_err) → (in_room (run_text c.args.input.now) ≡ (c.put_cases-outcome.new.writer.at, c.put_cases-outcome.new.writer.out.now)) × (c.put_cases-outcome.new.writer.at ≤ run_max)
done c =
    run_done c.args.input.now c.if-input-gt-INPUT_MAX.false refl c.text_room-bytes.ensures c.put_cases-outcome.ensures (sym c.is_err.ensures.value ∙ c.if-is_err.false)

pub invariant_of-result : goal.invariant_of-result
invariant_of-result c = record { within = (done (goal.at.invariant_of-result c).Else-is_err).1 }

pub returns : goal.returns
returns c =
    let n = c.put_cases-outcome.ensures.writes.same_room in
    let e : _ ≡ c.put_cases-outcome.new.writer.out.now = search rules in
    (done (goal.at.returns c).Else-is_err).0 ∙ ap (λ (l : List ℕ). (c.put_cases-outcome.new.writer.at, l)) (sym e)
