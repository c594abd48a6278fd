-- `descriptors::cursor::step_at` meets its contract: a step from `from` is the step from the cursor.
-- Assumes nothing.
use Rattle.std.proofs.Common.{◌≡◌, ◌∙◌, sym, ap, length, arith}
use lib.ListN.{length-append}
use Rattle.std.proofs.lemmas.Result.{err_from_is_err_and}
use Rattle.descriptors.specs.Descriptor.{type_of, is_reserved}
use Rattle.descriptors.specs.Walked.{Begins}
use Rattle.descriptors.proofs.Turns.{step-one, step-refused, step_turn, step-stop, step_end}
use Rattle.descriptors.proofs.cursor.step_at.Goals.{After-reserves}
use Rattle.descriptors.proofs.cursor.step_at.Goals as goal

module _ (c : After-reserves) where
  begins : Begins c.loop-d.d-iterator.left.now c.in_ok-d.d.now c.next.new.self.left.now
  begins = rw c.in_ok-d.was at c.in-Some.ensures.steps

  -- the code's test of the type is the definition's
  kept_back : is_reserved c.args.c.opening.label (type_of c.in_ok-d.d.now) ≡ c.reserves.result
  kept_back = ap (is_reserved c.args.c.opening.label) (sym c.type_of.ensures.0) ∙ sym c.reserves.ensures

pub returns-in_err-d : goal.returns-in_err-d
returns-in_err-d c =
    let none = rw c.in_err-d.was at c.in-Some.ensures.steps in
    let handed = err_from_is_err_and c.from_residual-in_err-d.result c.from_residual-in_err-d.ensures.1 in
    rw (handed.1, handed.2, none.refusal) (sym (step-stop _ _ none _) ∙ c.loop-d.invariant.same)

pub returns-then-not-reserves : goal.returns-then-not-reserves
returns-then-not-reserves c =
    let w = (goal.at.returns-then-not-reserves c).After-reserves in
    sym (step-one _ _ (begins w) _ (kept_back w ∙ c.if-not-reserves.true)) ∙ c.loop-d.invariant.same

pub returns-then-c : goal.returns-then-c
returns-then-c c =
    let w = (goal.at.returns-then-c c).After-reserves in
    sym (step-refused _ _ (begins w) _ (kept_back w ∙ c.if-not-reserves.false) c.if-c.true) ∙ c.loop-d.invariant.same

pub loop-d-preserved : goal.loop-d-preserved
loop-d-preserved c =
    let w = (goal.at.loop-d-preserved c).After-reserves in
    record {
      same = sym (step_turn _ _ (begins w) _ (kept_back w ∙ c.if-not-reserves.false) c.if-c.false) ∙ c.loop-d.invariant.same;
      within = omega (arith, c.loop-d.invariant.within, simp length-append at (ap length (begins w).joined));
    }

pub returns : goal.returns
returns c = sym (step_end _ c.in-None.ensures.steps.0 _ _ _) ∙ c.loop-d.invariant.same
