-- `descriptor_text::describe_page` meets its contract: the number that reading gives decides.
-- Assumes nothing.
use mathlib.Core.Path.{sym, ◌∙◌}
use Rattle.std.proofs.lemmas.Result.{err_from_is_err_and}
use Rattle.refusals.proofs.Laws.{not_zero}
use Rattle.descriptor_text.proofs.Texts.{page-refused, page_tested, page-done}
use Rattle.descriptor_text.proofs.describe_page.Goals as goal

pub returns-in_err-check : goal.returns-in_err-check
returns-in_err-check c =
    let p = err_from_is_err_and c.from_residual.result c.from_residual.ensures.1 in
    rw (p.1, p.2) (page-refused _ _ c.in_err-check.ensures (λ z. not_zero _ (sym z)))

pub describe-requires : goal.describe-requires
describe-requires c = page_tested _ c.in_ok-check.ensures _ c.list_in.ensures

pub returns : goal.returns
returns c = page-done _ c.in_ok-check.ensures _ c.list_in.ensures ∙ c.describe.ensures
