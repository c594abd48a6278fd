-- `keypage::loading::Table::find` meets its contract: what a lookup tells of an accepted table.
-- Assumes nothing.
use Rattle.keypage.proofs.LoadNumbers.{row_of}
use Rattle.keypage.proofs.loading.Table.find.Goals as goal

pub returns : goal.returns
returns c = rw c.ok.ensures.value (row_of _ _ _ _ c.args.self.accepted c.find.ensures)
