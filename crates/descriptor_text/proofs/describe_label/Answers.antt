-- `descriptor_text::describe_label` meets its contract: the number that its check gives decides.
-- Assumes nothing.
use mathlib.Core.Path.{sym, ap, ◌∙◌}
use Prim.Native.Nat.{ℕ}
use mathlib.Core.List.{List}
use Rattle.std.proofs.lemmas.Result.{err_from_is_err_and}
use Rattle.refusals.proofs.Laws.{not_zero}
use Rattle.descriptor_text.proofs.Texts.{label-refused, label_tested, label-done}
use Rattle.descriptor_text.proofs.describe_label.Goals as goal

-- the number, as the check's answer has it
abbrev first : ℕ × List ℕ → ℕ
first a = a.0

pub returns-in_err-check_label : goal.returns-in_err-check_label
returns-in_err-check_label c =
    let p = err_from_is_err_and c.from_residual.result c.from_residual.ensures.1 in
    rw (p.1, p.2) (label-refused _ _ (ap first (sym c.in_err-check_label.ensures)) (λ z. not_zero _ (sym z)))

pub describe-requires : goal.describe-requires
describe-requires c = label_tested _ (ap first (sym c.in_ok-check_label.ensures)) _ c.part.ensures

pub returns : goal.returns
returns c = label-done _ (ap first (sym c.in_ok-check_label.ensures)) _ c.part.ensures ∙ c.describe.ensures
