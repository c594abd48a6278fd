-- `aes_fast::start::column_adds` meets its contract: the four entries.
-- Assumes nothing.
use mathlib.Core.Path.{sym, ap, ◌∙◌}
use Rattle.aes_fast.specs.ByTables.Inside.{column_from_is}
use Rattle.aes_fast.specs.Start.{column_adds}
use Rattle.aes_fast.proofs.start.column_adds.Goals as goal

pub returns : goal.returns
returns c =
    let a = c.args in
    c.from_columns.ensures ∙ ap (column_adds a.t.now) (sym (column_from_is a.u))
