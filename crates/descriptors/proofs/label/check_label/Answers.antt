-- `descriptors::label::check_label` meets its contract: at each return the tests passed and the one met say which number is the lowest.
-- Assumes nothing.
use Rattle.std.proofs.Common.{◌≡◌, ◌∙◌, sym, ap, rules, tests, ℕ, List, [], ◌∷◌, true}
use Rattle.std.proofs.lemmas.Iterator.{YieldsList-from_slice}
use Rattle.std.proofs.lemmas.Iterator.Search.{all_from_yields_List}
use Rattle.std.proofs.lemmas.Result.{err_from_is_err_and}
use Rattle.std.specs.List.{list_all}
use Rattle.octets.specs.Tests.{every}
use Rattle.refusals.specs.declared.Refusal.TheVariants.{Layout}
use Rattle.descriptors.specs.Tested.{list_answer}
use Rattle.descriptors.specs.Labels.{holds, list_of, label_shape, label_strict}
use Rattle.descriptors.proofs.Answers.{ok-counted, label-refused, label-long, label_accepted, label_shapeless, label_list, label_as_list, unshaped, shaped}
use Rattle.descriptors.proofs.label.check_label.Goals.{After-all}
use Rattle.descriptors.proofs.label.check_label.Goals as goal

module _ (c : After-all) where
  -- the list behind two zeros
  rest : c.in_ok-list.list.now ≡ list_of c.args.label.now
  rest = let zeroed = rw c.in_ok-list.ensures.ok_part at c.strip_prefix.ensures.cases in zeroed.1

  -- the types that are asked for decide what is left of the shape
  asked : every (label_shape c.args.label.now) ≡ c.all.result
  asked =
      let zeroed = rw c.in_ok-list.ensures.ok_part at c.strip_prefix.ensures.cases in
      shaped c.args.label.now zeroed.0
      ∙ ap (λ (l : List ℕ). list_all (λ (t : ℕ). holds t l) (0x00 ∷ 0x01 ∷ 0x03 ∷ 0x04 ∷ [])) (sym zeroed.1)
      ∙ sym
      (all_from_yields_List {all = 0x00 ∷ 0x01 ∷ 0x03 ∷ 0x04 ∷ []} (λ (t : ℕ). holds t c.in_ok-list.list.now) _ _ c.all.result c.all.ensures.ran
      (YieldsList-from_slice _ cc) (λ x b q k. search (rules, tests)))

pub returns-in_err-list : goal.returns-in_err-list
returns-in_err-list c =
    let handed = err_from_is_err_and c.from_residual.result c.from_residual.ensures.1 in
    let none = rw c.in_err-list.ensures.ok_part at c.strip_prefix.ensures.cases in
    let layout : c.in_err-list.field-0.0 ≡ Layout = let e = rw c.in_err-list.ensures.ok_part at c.in_err-list.ensures.value in cc in
    rw (handed.1, handed.2, layout) (sym (label-refused _ (label_shapeless _ (unshaped _ none))))

pub returns-then-not-all : goal.returns-then-not-all
returns-then-not-all c = sym (label-refused _ (label_shapeless _ (asked (goal.at.returns-then-not-all c).After-all ∙ c.if-not-all.true)))

pub returns-in_err-count : goal.returns-in_err-count
returns-in_err-count c =
    let w = (goal.at.returns-in_err-count c).After-all in
    let handed = err_from_is_err_and c.from_residual-in_err-count.result c.from_residual-in_err-count.ensures.1 in
    rw (handed.1, handed.2)
    (label_as_list _ _ (asked w ∙ c.if-not-all.false) (c.in_err-count.ensures ∙ ap (list_answer true label_strict) (rest w)))

pub returns-then-label-gt-LABEL_MAX : goal.returns-then-label-gt-LABEL_MAX
returns-then-label-gt-LABEL_MAX c =
    let w = (goal.at.returns-then-label-gt-LABEL_MAX c).After-all in
    let s = c.args.label.now in
    let (ok, is) = ok-counted true label_strict (list_of s) _ (sym (c.in_ok-count.ensures ∙ ap (list_answer true label_strict) (rest w))) in
    sym (label-long s (label_list s (asked w ∙ c.if-not-all.false) ∙ ok) c.if-label-gt-LABEL_MAX.true)

pub returns : goal.returns
returns c =
    let w = (goal.at.returns c).After-all in
    let s = c.args.label.now in
    let (ok, is) = ok-counted true label_strict (list_of s) _ (sym (c.in_ok-count.ensures ∙ ap (list_answer true label_strict) (rest w))) in
    sym (label_accepted s _ (label_list s (asked w ∙ c.if-not-all.false) ∙ ok) c.if-label-gt-LABEL_MAX.false is)
