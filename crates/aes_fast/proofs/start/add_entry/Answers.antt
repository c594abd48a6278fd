-- `aes_fast::start::add_entry` meets its contract: exclusive or of words adds the columns.
-- Assumes nothing.
use Rattle.aes_fast.proofs.Columns.{column_from_xor}
use Rattle.aes_fast.proofs.start.add_entry.Goals as goal

pub returns : goal.returns
returns c = column_from_xor _ _
