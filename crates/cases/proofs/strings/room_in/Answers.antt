-- `cases::strings::room_in` meets its contract.
-- Assumes nothing.
use mathlib.Core.Path.{sym, ◌∙◌}
use borrow.Author.Tests.{eqb-true, eqb-false}
use Rattle.cases.proofs.Held.{room_empty, room_large, room_read, room_other}
use Rattle.cases.proofs.strings.room_in.Goals as goal

pub returns-then-is_empty : goal.returns-then-is_empty
returns-then-is_empty c = room_empty c.args.word.now (eqb-true _ 0 (sym c.is_empty.ensures ∙ c.if-is_empty.true))

pub returns-in_err-n : goal.returns-in_err-n
returns-in_err-n c = rw c.from_residual.ensures (room_other c.args.word.now (eqb-false _ 0 (sym c.is_empty.ensures ∙ c.if-is_empty.false)) c.in_err-n.ensures)

pub returns-then-n : goal.returns-then-n
returns-then-n c = room_large c.args.word.now _ c.in_ok-n.ensures c.if-n.true

pub returns : goal.returns
returns c = room_read c.args.word.now _ c.in_ok-n.ensures c.if-n.false
