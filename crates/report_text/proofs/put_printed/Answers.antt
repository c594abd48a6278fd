-- `report_text::put_printed` meets its contract: the text of what was counted, or of the refusal.
-- Assumes nothing.
use Rattle.wording.proofs.Puts.{adds}
use Rattle.report_text.proofs.Texts.{printed_report, printed-refused}
use Rattle.report_text.proofs.put_printed.Goals as goal

pub returns-in-Ok : goal.returns-in-Ok
returns-in-Ok c = let told = rw c.in-Ok.is at c.requires in rw (printed_report _ _ told.0) c.put_report.ensures

pub returns-in-Err : goal.returns-in-Err
returns-in-Err c =
    let told = rw c.in-Err.is at c.requires in
    rw (printed-refused _ _ c.in-Err.refusal told) (adds (rw c.number.ensures at c.put_line.ensures))
