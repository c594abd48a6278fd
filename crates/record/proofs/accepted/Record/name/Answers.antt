-- `record::accepted::Record::name` meets its contract: it is as long as the header says.
-- Assumes nothing.
use mathlib.Core.Path.{sym, ◌∙◌}
use Rattle.record.proofs.Reading.{header_accepted}
use Rattle.record.proofs.Apart.{name_is}
use Rattle.record.proofs.accepted.Record.name.Goals as goal

pub returns : goal.returns
returns c = c.part.ensures ∙ name_is _ _ _ _ (header_accepted _ _ _ _ (sym c.args.self.accepted))
