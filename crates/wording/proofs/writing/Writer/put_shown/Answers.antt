-- `wording::writing::Writer::put_shown` meets its contract.
-- Assumes nothing.
use mathlib.Core.Path.{sym, ◌∙◌}
use lib.ListN.{length}
use borrow.Author.Tests.{eqb-true, eqb-false, eq-eqb, ne_eqb}
use Rattle.wording.specs.Hex.{digits_shown}
use Rattle.wording.proofs.writing.Writer.put_shown.Goals as goal

pub returns-then-is_empty : goal.returns-then-is_empty
unfolding digits_shown
returns-then-is_empty c = rw (eq-eqb (length c.args.s.now) 0 (eqb-true _ 0 (sym c.is_empty.ensures ∙ c.if-is_empty.true))) c.put_byte.ensures

pub returns : goal.returns
unfolding digits_shown
returns c = rw (ne_eqb (length c.args.s.now) 0 (eqb-false _ 0 (sym c.is_empty.ensures ∙ c.if-is_empty.false))) c.put_hex.ensures
