-- `cases::lines::put_answer` meets its contract: each part after the one before it.
-- Assumes nothing.
use Rattle.std.proofs.lemmas.Result.{err_from_is_err_and}
use Rattle.wording.proofs.Puts.{adds, adds_then, adds_stop}
use Rattle.cases.specs.Line.{answer_text}
use Rattle.cases.proofs.lines.put_answer.Goals as goal

pub returns-in_err-put_string : goal.returns-in_err-put_string
unfolding answer_text
returns-in_err-put_string c =
    let p = err_from_is_err_and c.from_residual.result c.from_residual.ensures.1 in
    rw (p.1, p.2) (adds_stop _ (adds_stop _ (adds_stop _ (adds_stop _ (adds_stop _ (adds c.in_err-put_string.ensures))))))

pub returns-in_err-put_byte : goal.returns-in_err-put_byte
unfolding answer_text
returns-in_err-put_byte c =
    let p = err_from_is_err_and c.from_residual-in_err-put_byte.result c.from_residual-in_err-put_byte.ensures.1 in
    rw (p.1, p.2) (adds_stop _ (adds_stop _ (adds_stop _ (adds_stop _ (adds_then (adds c.in_ok-put_string.ensures) (adds c.in_err-put_byte.ensures))))))

pub returns-in_err-put_decimal : goal.returns-in_err-put_decimal
unfolding answer_text
returns-in_err-put_decimal c =
    let p = err_from_is_err_and c.from_residual-in_err-put_decimal.result c.from_residual-in_err-put_decimal.ensures.1 in
    rw (p.1, p.2, ← c.number.ensures)
    (adds_stop _ (adds_stop _ (adds_stop _ (adds_then (adds_then (adds c.in_ok-put_string.ensures) (adds c.in_ok-put_byte.ensures)) (adds c.in_err-put_decimal.ensures)))))

pub returns-in_err-put_byte-2 : goal.returns-in_err-put_byte-2
unfolding answer_text
returns-in_err-put_byte-2 c =
    let p = err_from_is_err_and c.from_residual-in_err-put_byte-2.result c.from_residual-in_err-put_byte-2.ensures.1 in
    rw (p.1, p.2, ← c.number.ensures)
    (adds_stop _ (adds_stop _ (adds_then (adds_then (adds_then (adds c.in_ok-put_string.ensures) (adds c.in_ok-put_byte.ensures))
    (adds c.in_ok-put_decimal.ensures)) (adds c.in_err-put_byte-2.ensures))))

pub returns-in_err-put_shown : goal.returns-in_err-put_shown
unfolding answer_text
returns-in_err-put_shown c =
    let p = err_from_is_err_and c.from_residual-in_err-put_shown.result c.from_residual-in_err-put_shown.ensures.1 in
    rw (p.1, p.2, ← c.number.ensures, ← c.as_bytes.ensures)
    (adds_stop _ (adds_then (adds_then (adds_then (adds_then (adds c.in_ok-put_string.ensures) (adds c.in_ok-put_byte.ensures))
    (adds c.in_ok-put_decimal.ensures)) (adds c.in_ok-put_byte-2.ensures)) (adds c.in_err-put_shown.ensures)))

pub returns : goal.returns
unfolding answer_text
returns c =
    rw (← c.number.ensures, ← c.as_bytes.ensures)
    (adds_then (adds_then (adds_then (adds_then (adds_then (adds c.in_ok-put_string.ensures) (adds c.in_ok-put_byte.ensures))
    (adds c.in_ok-put_decimal.ensures)) (adds c.in_ok-put_byte-2.ensures)) (adds c.in_ok-put_shown.ensures)) (adds c.put_byte-3.ensures))
