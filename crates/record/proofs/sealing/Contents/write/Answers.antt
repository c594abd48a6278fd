-- `record::sealing::Contents::write` meets its contract: what the tests found is what `fill` requires, and the row's use and key are its own.
-- Assumes nothing.
use mathlib.Core.Path.{◌≡◌, sym, ap, ap₂, ◌∙◌}
use mathlib.Core.List.{List}
use mathlib.Core.Option.{Option, some}
use Prim.Native.Nat.{ℕ}
use lib.ListN.{length}
use Rattle.octets.specs.Lent.{over}
use Rattle.octets.proofs.Places.{its_bytes}
use Rattle.keytable.specs.Row.{data_type, Row}
use Rattle.keytable.specs.Table.{table_ok, data_row, row_at}
use Rattle.keytable.proofs.Laws.{row_for_good}
use Rattle.record.specs.Seal.{record_of, record_by}
use Rattle.record.specs.Laws.{SealInRange}
use Rattle.record.proofs.SealReady.{ready-row, ready_able, ready-same}
use Rattle.record.proofs.sealing.Contents.write.Goals.{After-use_at-u}
use Rattle.record.proofs.sealing.Contents.write.Goals as goal

able : (c : After-use_at-u) → let a = c.args in
    SealInRange (table_ok a.table.now) (some (row_at a.table.now a.at)) a.self.name.now a.self.iv.now a.self.aad.now (length a.self.plain.now) (length a.out.now)
able c = ready_able _ _ _ _ _ _ _ _ c.requires

found : (c : After-use_at-u) → let a = c.args in data_row a.table.now a.self.name.now ≡ some (row_at a.table.now a.at)
found c = ready-row _ _ _ _ _ _ _ _ c.requires

pub fill-requires : goal.fill-requires
unfolding able
fill-requires c =
    let a = c.args in
    let w = (goal.at.fill-requires c).After-use_at-u in
    let h = able w in
    let use_is = c.use_at-u.ensures ∙ ap (λ (x : Row). x.row_use) (sym (ready-same _ _ _ _ _ _ _ _ c.requires)) in (
      ap length (its_bytes c.key_at.ensures) ∙ (row_for_good a.table.now data_type a.self.name.now _ h.accepted (found w)).key_size,
      h.name_fits,
      rw use_is h.iv-size,
      rw use_is h.permitted,
      h.data_fits,
      h.text_fits,
      rw use_is h.room_fits,
    )

pub returns : goal.returns
returns c =
    let a = c.args in
    c.fill.ensures
    ∙ ap₂ (λ (u : ℕ) (key : List ℕ). over (record_of u key a.self.name.now a.self.iv.now a.self.aad.now a.self.plain.now) a.out.now) c.use_at-u.ensures (its_bytes c.key_at.ensures)
    ∙ ap (λ (o : Option Row). over (record_by o a.self.name.now a.self.iv.now a.self.aad.now a.self.plain.now) a.out.now) (sym (found (goal.at.returns c).After-use_at-u))
