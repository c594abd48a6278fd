-- `report_text::reading::first_record` meets its contract: a record is read where the dump reaches its header's own end, and document 01 refuses nothing.
-- Assumes nothing.
use Rattle.std.proofs.Common.{◌≡◌, false, inl, inr, arith}
use mathlib.Core.Path.{refl, sym}
use Rattle.refusals.proofs.Laws.{not_zero}
use Rattle.report_text.specs.Dump.{readable}
use Rattle.report_text.proofs.Dump.{past_here, refused_here, accepted_here}
use Rattle.report_text.proofs.reading.first_record.Goals as goal

pub returns-in_err-record : goal.returns-in_err-record
returns-in_err-record c =
    let short : readable c.args.dump.now ≡ false = elim c.in_err-record.ensures.lookup.0 [ inl h ↦ absurd (omega (arith, h)) | inr h ↦ past_here _ c.end_in.ensures h ] in
    rw c.from_residual.ensures short

pub returns-in-Ok : goal.returns-in-Ok
returns-in-Ok c =
    let found = c.in_ok-record.ensures.lookup.0 in
    accepted_here _ c.end_in.ensures found.1 found.2 c.in-Ok.ensures refl

pub returns-in-Err : goal.returns-in-Err
returns-in-Err c =
    let found = c.in_ok-record.ensures.lookup.0 in
    refused_here _ c.end_in.ensures found.1 found.2 c.in-Err.ensures (λ none. not_zero c.in-Err.field-0 (sym none))
