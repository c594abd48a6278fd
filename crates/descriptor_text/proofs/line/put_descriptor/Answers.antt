-- `descriptor_text::line::put_descriptor` meets its contract: the pieces of the line, one after the other, up to the first that does not fit.
-- Assumes nothing.
use Rattle.std.proofs.Common.{◌∙◌}
use Rattle.std.proofs.lemmas.Result.{err_from_is_err_and}
use Rattle.octets.proofs.Tests.{part-rest}
use Rattle.wording.proofs.Puts.{adds, adds_then, adds_stop}
use Rattle.descriptor_text.specs.Lines.{descriptor_line}
use Rattle.descriptor_text.proofs.line.put_descriptor.Goals as goal

pub returns-in_err-put_hex : goal.returns-in_err-put_hex
unfolding descriptor_line
returns-in_err-put_hex c =
    let p = err_from_is_err_and c.from_residual.result c.from_residual.ensures.1 in
    rw (p.1, p.2)
    (adds_stop _ (adds (rw c.part.ensures at c.in_err-put_hex.ensures)))

pub returns-in_err-put_byte : goal.returns-in_err-put_byte
unfolding descriptor_line
returns-in_err-put_byte c =
    let p = err_from_is_err_and c.from_residual-in_err-put_byte.result c.from_residual-in_err-put_byte.ensures.1 in
    rw (p.1, p.2)
    (adds_then (adds (rw c.part.ensures at c.in_ok-put_hex.ensures))
    (adds_stop _ (adds c.in_err-put_byte.ensures)))

pub returns-in_err-put_hex-2 : goal.returns-in_err-put_hex-2
unfolding descriptor_line
returns-in_err-put_hex-2 c =
    let p = err_from_is_err_and c.from_residual-in_err-put_hex-2.result c.from_residual-in_err-put_hex-2.ensures.1 in
    rw (p.1, p.2)
    (adds_then (adds (rw c.part.ensures at c.in_ok-put_hex.ensures))
    (adds_then (adds c.in_ok-put_byte.ensures)
    (adds_stop _ (adds (rw c.part-2.ensures at c.in_err-put_hex-2.ensures)))))

pub returns-in_err-put_byte-2 : goal.returns-in_err-put_byte-2
unfolding descriptor_line
returns-in_err-put_byte-2 c =
    let p = err_from_is_err_and c.from_residual-in_err-put_byte-2.result c.from_residual-in_err-put_byte-2.ensures.1 in
    rw (p.1, p.2)
    (adds_then (adds (rw c.part.ensures at c.in_ok-put_hex.ensures))
    (adds_then (adds c.in_ok-put_byte.ensures)
    (adds_then (adds (rw c.part-2.ensures at c.in_ok-put_hex-2.ensures))
    (adds_stop _ (adds c.in_err-put_byte-2.ensures)))))

pub returns-in_err-put_shown : goal.returns-in_err-put_shown
unfolding descriptor_line
returns-in_err-put_shown c =
    let p = err_from_is_err_and c.from_residual-in_err-put_shown.result c.from_residual-in_err-put_shown.ensures.1 in
    rw (p.1, p.2)
    (adds_then (adds (rw c.part.ensures at c.in_ok-put_hex.ensures))
    (adds_then (adds c.in_ok-put_byte.ensures)
    (adds_then (adds (rw c.part-2.ensures at c.in_ok-put_hex-2.ensures))
    (adds_then (adds c.in_ok-put_byte-2.ensures)
    (adds_stop _ (adds (rw (c.part-3.ensures ∙ part-rest c.args.d.now 4) at c.in_err-put_shown.ensures)))))))

pub returns : goal.returns
unfolding descriptor_line
returns c =
    adds_then (adds (rw c.part.ensures at c.in_ok-put_hex.ensures))
    (adds_then (adds c.in_ok-put_byte.ensures)
    (adds_then (adds (rw c.part-2.ensures at c.in_ok-put_hex-2.ensures))
    (adds_then (adds c.in_ok-put_byte-2.ensures)
    (adds_then (adds (rw (c.part-3.ensures ∙ part-rest c.args.d.now 4) at c.in_ok-put_shown.ensures))
    (adds c.put_byte-3.ensures)))))
