-- `aes_fast::rounds::mixed_column` meets its contract: exclusive or of words adds the columns.
-- Assumes nothing.
use Rattle.aes_fast.proofs.Columns.{column_from_xor_four}
use Rattle.aes_fast.proofs.rounds.mixed_column.Goals as goal

pub returns : goal.returns
returns c = column_from_xor_four _ _ _ _
