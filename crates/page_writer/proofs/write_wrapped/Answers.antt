-- `page_writer::write_wrapped` meets its contract: what the table, the tests and the lookup refuse is refused, and else the page and its length are stored.
-- Assumes nothing.
use mathlib.Core.Path.{sym, ap, ◌∙◌}
use lib.ListN.{length}
use Rattle.std.proofs.lemmas.Result.{err_from_is_err_and}
use Rattle.octets.proofs.Places.{its_bytes}
use Rattle.keytable.proofs.Calls.{rows_accepted, broken-refused}
use Rattle.keytable.proofs.RowFound.{no_row, the_row, row-key}
use Rattle.keywrap.proofs.Laws.{wrapped-length}
use Rattle.page_writer.proofs.Parts.{length-wrapped_part}
use Rattle.page_writer.proofs.WriteNumbers.{wrappable}
use Rattle.page_writer.proofs.Answers.{wrapped-one, wrapped_low, wrapped_six, wrapped-done}
use Rattle.page_writer.proofs.write_wrapped.Goals.{In_ok-check}
use Rattle.page_writer.proofs.write_wrapped.Goals as goal

pub returns-in_err-check : goal.returns-in_err-check
returns-in_err-check c =
    let q = err_from_is_err_and c.from_residual.result c.from_residual.ensures.1 in
    let broken = broken-refused _ _ c.in_err-check.ensures in
    rw (q.1, q.2, broken.1) (wrapped-one _ _ _ _ _ _ _ _ _ broken.0)

pub returns-in_err-test_wrapping : goal.returns-in_err-test_wrapping
returns-in_err-test_wrapping c =
    let q = err_from_is_err_and c.from_residual-in_err-test_wrapping.result c.from_residual-in_err-test_wrapping.ensures.1 in
    rw (q.1, q.2, ← c.from-fields.ensures) (wrapped_low _ _ _ _ _ _ _ _ _ (rows_accepted _ _ c.in_ok-check.ensures) _ c.in_err-test_wrapping.ensures)

pub returns-in_default : goal.returns-in_default
returns-in_default c =
    let good = rows_accepted _ _ c.in_ok-check.ensures in
    rw (← c.from-fields.ensures)
    (wrapped_six _ _ _ _ _ _ _ _ _ good (sym c.in_ok-test_wrapping.ensures) (no_row _ _ _ c.find.result good c.find.ensures c.in_default.not-Ok))

pub of-part-requires : goal.of-part-requires
of-part-requires c =
    let good = rows_accepted _ _ c.in_ok-check.ensures in
    let h = wrappable c.from-fields.result _ _ _ _ _ (sym c.in_ok-test_wrapping.ensures) in
    (ap length (its_bytes c.key_at.ensures) ∙ row-key _ _ _ _ good c.find.ensures _ c.in-Ok.is, h.1, h.2)

pub invariant_of-page : goal.invariant_of-page
invariant_of-page c =
    let h = wrappable c.from-fields.result _ _ _ _ _ (sym c.in_ok-test_wrapping.ensures) in
    record { fit = h.0; short = rw (c.as_bytes.ensures, c.of-part.ensures, length-wrapped_part c.args.kind c.args.identifier.now _ (wrapped-length c.key_at.result.now c.args.key.now)) h.3 }

pub returns : goal.returns
returns c =
    let good = rows_accepted _ _ c.in_ok-check.ensures in
    let row = the_row _ _ _ _ good c.find.ensures _ c.in-Ok.is in
    rw (
      ← c.from-fields.ensures,
      c.fill.ensures,
      c.size.ensures,
      c.as_bytes.ensures,
      c.of-part.ensures,
      length-wrapped_part c.args.kind c.args.identifier.now _ (wrapped-length c.key_at.result.now c.args.key.now),
      its_bytes c.key_at.ensures,
    )
    (wrapped-done _ _ _ _ _ _ _ _ _ good _ (sym c.in_ok-test_wrapping.ensures) row)
