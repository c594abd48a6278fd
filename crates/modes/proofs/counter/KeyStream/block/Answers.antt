-- `modes::counter::KeyStream::block` meets its contract: the front's bytes and the field's.
-- Assumes nothing.
use mathlib.Core.Path.{ap, ◌∙◌}
use mathlib.Core.List.{List}
use Prim.Native.Nat.{ℕ, ◌-◌}
use native.Mathlib.Nat.{div-one}
use lib.ListN.{take, drop}
use Rattle.modes.proofs.Limits.{field_stored}
use Rattle.modes.proofs.counter.KeyStream.block.Goals as goal

pub returns : goal.returns
returns g c =
    let a = c.args in
    field_stored g.row.W a.self.base a.i a.self.width.1 c.well_formed.0.1.1.1.0.1.0.1
    (c.copy_from_slice.ensures.after ∙ ap (λ (l : List ℕ). take (8 - (8 - g.row.W)) (drop (8 - g.row.W) l)) (rw (div-one a.i) c.to_be_bytes.ensures))
