-- `aes_fast::rounds::last_column` meets its contract: a sum of bytes, each in its row.
-- Assumes nothing.
use mathlib.Core.Path.{◌∙◌}
use native.Mathlib.Omega.{arith}
use Rattle.octets.proofs.Values.{four}
use Rattle.aes_fast.proofs.Columns.{column_from_four}
use Rattle.aes_fast.proofs.Pairs.{row_0, row_1, row_2, row_3}
use Rattle.aes_fast.proofs.rounds.last_column.Goals as goal

pub returns : goal.returns
returns c = column_from_four _ _ _ _ (omega arith) (omega arith) (omega arith) (omega arith) ∙ four (row_0 _) (row_1 _) (row_2 _) (row_3 _)
