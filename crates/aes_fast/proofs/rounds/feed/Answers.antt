-- `aes_fast::rounds::feed` meets its contract: exclusive or of words adds the columns.
-- Assumes nothing.
use mathlib.Core.Path.{ap, sym, ◌∙◌}
use Rattle.octets.proofs.Values.{four}
use Rattle.aes_fast.specs.ByTables.Inside.{column_from_is}
use Rattle.aes_fast.specs.ByTables.{column_fed}
use Rattle.aes_fast.specs.FourWords.{columns_in}
use Rattle.aes_fast.proofs.Columns.{column_from_xor}
use Rattle.aes_fast.proofs.rounds.feed.Goals as goal

pub returns : goal.returns
returns c =
    let a = c.args in
    four (column_from_xor _ _) (column_from_xor _ _) (column_from_xor _ _) (column_from_xor _ _)
    ∙ ap (column_fed a.t.now (columns_in a.x)) (sym (column_from_is a.u))
