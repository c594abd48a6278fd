-- `record::header::check` meets its contract: its number is reading's.
-- Assumes nothing.
use mathlib.Core.Path.{◌∙◌}
use Rattle.std.specs.Prelude.{Ok, Err}
use Rattle.refusals.proofs.Laws.{passed_on}
use Rattle.record.proofs.Reading.{header-number}
use Rattle.record.proofs.header.check.Goals as goal

pub returns-in_err-read : goal.returns-in_err-read
returns-in_err-read c = passed_on _ _ c.from_residual.ensures.1 ∙ header-number c.args.r.now (Err c.in_err-read.field-0.0) c.in_err-read.ensures

pub returns : goal.returns
returns c = header-number c.args.r.now (Ok c.in_ok-read.field-0) c.in_ok-read.ensures
