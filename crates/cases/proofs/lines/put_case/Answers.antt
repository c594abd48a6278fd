-- `cases::lines::put_case` meets its contract.
-- Assumes nothing.
use mathlib.Core.Path.{sym, ◌∙◌}
use Rattle.wording.proofs.Puts.{adds_none}
use Rattle.cases.proofs.Told.{text_comment}
use Rattle.cases.proofs.lines.put_case.Goals as goal

pub returns-then-is_comment : goal.returns-then-is_comment
returns-then-is_comment c = rw (text_comment c.args.line.now c.args.number (sym c.is_comment.ensures ∙ c.if-is_comment.true)) adds_none
