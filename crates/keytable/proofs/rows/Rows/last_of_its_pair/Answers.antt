-- `keytable::rows::Rows::last_of_its_pair` meets its contract: the type and the name that are looked for are the row's.
-- Assumes nothing.
use mathlib.Core.Path.{ap, ap₂, ◌∙◌}
use mathlib.Core.List.{List}
use Prim.Native.Nat.{ℕ, ◌+◌}
use lib.ListN.{drop}
use Rattle.keytable.specs.Row.{type_in, name_of}
use Rattle.keytable.specs.Table.{rows_of, absent}
use Rattle.keytable.proofs.Places.{none_absent}
use Rattle.keytable.proofs.rows.Rows.last_of_its_pair.Goals as goal

pub returns : goal.returns
returns c =
    let a = c.args in
    let row = c.get-this.ensures in
    none_absent _ _ _ _ _ _ c.is_none.ensures c.find_from.ensures
    ∙ ap₂ (λ (k : ℕ) (n : List ℕ). absent k n (drop (a.i + 1) (rows_of a.self.table.now)))
    (c.kind.ensures ∙ ap type_in row) (c.name.ensures.value ∙ ap name_of row)
