-- `ghash::running::absorb_text` meets its contract: the block that has begun, and the rest from a block's beginning.
-- Assumes nothing.
use mathlib.Core.Path.{refl, sym, ap, ◌∙◌}
use Prim.Native.Nat.{◌-◌}
use native.Mathlib.Omega.{arith}
use Rattle.octets.specs.Running.{absorb}
use Rattle.octets.proofs.Running.{absorb_within}
use Rattle.octets.proofs.Tests.{rest_all}
use Rattle.ghash.specs.Field.{times_h}
use Rattle.ghash.specs.Words.{block_of}
use Rattle.ghash.proofs.Wide.{length-block_of}
use Rattle.ghash.proofs.Hashed.{absorb-over}
use Rattle.ghash.proofs.running.absorb_text.Goals as goal

pub returns-then-text-room : goal.returns-then-text-room
returns-then-text-room g c = λ h t.
    let a = c.args in
    c.add_part.ensures ∙ sym (absorb_within (times_h h) a.k (block_of a.y) a.text.now (length-block_of a.y) (omega arith))

pub returns : goal.returns
returns g c = λ h t.
    let whole = c.times-whole in
    let part = c.add_part-2 in
    let a = c.args in
    absorb-over h a.y part.result whole.result _ a.text.now a.k (16 - a.k) (16 - a.k) c.requires refl (omega arith) (omega arith)
    part.ensures (whole.ensures h t) (c.absorb_blocks-2.ensures h t ∙ ap (absorb (times_h h) 0 (block_of whole.result)) (rest_all a.text.now (16 - a.k)))
