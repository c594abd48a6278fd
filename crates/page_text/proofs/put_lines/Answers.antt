-- `page_text::put_lines` meets its contract: after i turns the first i lines are written.
-- Assumes nothing.
use Rattle.std.proofs.lemmas.Result.{err_from_is_err_and}
use Rattle.wording.proofs.Puts.{adds, adds_then, adds_stop}
use Rattle.page_text.proofs.Listing.{lines_turn, lines_parted}
use Rattle.page_text.proofs.put_lines.Goals as goal

pub returns-in_err-put_line : goal.returns-in_err-put_line
returns-in_err-put_line c =
    let p = err_from_is_err_and c.from_residual.result c.from_residual.ensures.1 in
    rw (p.1, p.2, lines_parted c.args.lines.now c.loop-word.word-index c.loop-word-test.true c.as_bytes.ensures.value)
    (adds_then c.loop-word.invariant (adds_stop _ (adds c.in_err-put_line.ensures)))

pub loop-word-preserved : goal.loop-word-preserved
loop-word-preserved c =
    rw (lines_turn c.args.lines.now c.loop-word.word-index c.loop-word-test.true c.as_bytes.ensures.value)
    (adds_then c.loop-word.invariant (adds c.in_ok-put_line.ensures))
