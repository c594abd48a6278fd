-- `page_writer::write` meets its contract: what the tests refuse is refused, and else the page and its length are stored.
-- Assumes nothing.
use mathlib.Core.Path.{sym}
use Rattle.std.proofs.lemmas.Result.{err_from_is_err_and}
use Rattle.page_writer.proofs.WriteNumbers.{writable}
use Rattle.page_writer.proofs.Answers.{write-refused, write_done}
use Rattle.page_writer.proofs.write.Goals as goal

pub returns-in_err-test_writing : goal.returns-in_err-test_writing
returns-in_err-test_writing c =
    let q = err_from_is_err_and c.from_residual.result c.from_residual.ensures.1 in
    rw (q.1, q.2, ← c.from-fields.ensures) (write-refused _ _ _ _ _ _ c.in_err-test_writing.ensures)

pub invariant_of-page : goal.invariant_of-page
invariant_of-page c = let h = writable c.from-fields.result _ _ _ (sym c.in_ok-test_writing.ensures) in record { fit = h.0; short = h.1 }

pub returns : goal.returns
returns c = rw (← c.from-fields.ensures, c.fill.ensures, c.size.ensures) (write_done _ _ _ _ _ (sym c.in_ok-test_writing.ensures))
