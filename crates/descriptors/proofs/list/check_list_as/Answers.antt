-- `descriptors::list::check_list_as` meets its contract: what is left decides, and what it counts is added to the count so far.
-- Assumes nothing.
use Rattle.std.proofs.Common.{◌≡◌, ◌∙◌, sym, ap, ℕ, ◌+◌, false, arith}
use Rattle.std.proofs.lemmas.Result.{err_from_is_err_and}
use Rattle.descriptors.specs.Descriptor.{type_of, is_reserved}
use Rattle.descriptors.specs.Parse.{split}
use Rattle.descriptors.specs.Tested.{split_ok}
use Rattle.descriptors.specs.Walked.{Begins}
use Rattle.descriptors.proofs.Turns.{type_admitted, test_turn, test-refused, counts_on, counts_over, count_within, test-stop, test_end, count_end}
use Rattle.descriptors.proofs.Answers.{list-refused, list_accepted}
use Rattle.descriptors.proofs.list.check_list_as.Goals.{After-admits, then-not-reserves, else-not-reserves}
use Rattle.descriptors.proofs.list.check_list_as.Goals as goal

module _ (c : After-admits) where
  begins : Begins c.loop-d.d-iterator.left.now c.in_ok-d.field-0.now c.next.new.self.left.now
  begins = rw c.in_ok-d.was at c.in-Some.ensures.steps

  -- the code's test of the type is the definition's
  admitted : type_admitted c.args.opening.label c.args.opening.strict c.loop-d.least (type_of c.in_ok-d.field-0.now) ≡ c.admits.result
  admitted = ap (type_admitted c.args.opening.label c.args.opening.strict c.loop-d.least) (sym c.type_of-kind.ensures.0) ∙ sym c.admits.ensures

pub returns-in_err-d : goal.returns-in_err-d
returns-in_err-d c =
    let none = rw c.in_err-d.was at c.in-Some.ensures.steps in
    let handed = err_from_is_err_and c.from_residual.result c.from_residual.ensures.1 in
    rw (handed.1, handed.2, none.refusal) (sym (list-refused _ _ _ (sym c.loop-d.invariant.decides ∙ test-stop _ _ none _)))

pub returns-then-not-admits : goal.returns-then-not-admits
returns-then-not-admits c =
    let w = (goal.at.returns-then-not-admits c).After-admits in
    sym (list-refused _ _ _ (sym c.loop-d.invariant.decides ∙ test-refused _ _ (begins w) _ (admitted w ∙ c.if-not-admits.true)))

pub overflow_add-count : goal.overflow_add-count
overflow_add-count c =
    let label = c.args.opening.label in
    let free : is_reserved label (type_of c.in_ok-d.field-0.now) ≡ false = ap (is_reserved label) (sym c.type_of-kind.ensures.0) ∙ sym c.reserves.ensures ∙ c.if-not-reserves.true in
    omega (arith, c.loop-d.invariant.counts, counts_on label (begins (goal.at.overflow_add-count c).After-admits) free, count_within label c.args.list.now)

pub loop-d-preserved : goal.loop-d-preserved
loop-d-preserved c =
    let label = c.args.opening.label in
    let w = (goal.at.loop-d-preserved c).After-admits in
    let kind : is_reserved label (type_of c.in_ok-d.field-0.now) ≡ c.reserves.result = ap (is_reserved label) (sym c.type_of-kind.ensures.0) ∙ sym c.reserves.ensures in
    record {
      decides =
          ap (λ (k : ℕ). split_ok label c.args.opening.strict (k + 1) (split c.next.new.self.left.now)) c.type_of-kind.ensures.0
          ∙ sym (test_turn _ _ (begins w) _ (admitted w ∙ c.if-not-admits.false))
          ∙ c.loop-d.invariant.decides;
      counts = elim c.if-not-reserves.branch [
        | then-not-reserves b ↦ omega (arith, b.count-is, c.loop-d.invariant.counts, counts_on label (begins w) (kind ∙ b.if-not-reserves.true))
        | else-not-reserves b ↦ omega (arith, b.count-is, c.loop-d.invariant.counts, counts_over label (begins w) (kind ∙ b.if-not-reserves.false))
      ];
    }

pub returns : goal.returns
returns c =
    let end = c.in-None.ensures.steps.0 in
    sym
    (list_accepted _ _ _ _ (sym c.loop-d.invariant.decides ∙ test_end _ end _ _ _)
    (omega (arith, c.loop-d.invariant.counts, count_end _ end c.args.opening.label)))
