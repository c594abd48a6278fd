-- `report_text::lines::put_open` meets its contract: three pieces, one after the other.
-- Assumes nothing.
use Rattle.std.proofs.lemmas.Result.{err_from_is_err_and}
use Rattle.wording.proofs.Puts.{adds, adds_then, adds_stop}
use Rattle.report_text.proofs.lines.put_open.Goals as goal

pub returns-in_err-put_string : goal.returns-in_err-put_string
returns-in_err-put_string c =
    let p = err_from_is_err_and c.from_residual.result c.from_residual.ensures.1 in
    rw (p.1, p.2) (adds_stop _ (adds c.in_err-put_string.ensures))

pub returns-in_err-put_hex : goal.returns-in_err-put_hex
returns-in_err-put_hex c =
    let p = err_from_is_err_and c.from_residual-in_err-put_hex.result c.from_residual-in_err-put_hex.ensures.1 in
    rw (p.1, p.2) (adds_then (adds c.in_ok-put_string.ensures) (adds_stop _ (adds c.in_err-put_hex.ensures)))

pub returns : goal.returns
returns c = adds_then (adds c.in_ok-put_string.ensures) (adds_then (adds c.in_ok-put_hex.ensures) (adds c.put_line.ensures))
