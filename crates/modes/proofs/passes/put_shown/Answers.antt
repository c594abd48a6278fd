-- `modes::passes::put_shown` meets its contract: what is shown of the block, over the front of what is lent.
-- Assumes nothing.
use mathlib.Core.Path.{ap, ◌∙◌}
use mathlib.Core.List.{List, ◌++◌}
use Prim.Native.Nat.{ℕ}
use native.Mathlib.Omega.{arith}
use lib.ListN.{take, drop}
use Rattle.octets.proofs.Written.{block-put}
use Rattle.aes_fast.specs.Halves.{halves_block}
use Rattle.aes_fast.proofs.Laws.{halves-length, block_at-whole}
use Rattle.modes.proofs.CcmPass.{shown-whole, written_some}
use Rattle.modes.proofs.passes.put_shown.Goals as goal

pub returns : goal.returns
returns g c =
    let a = c.args in
    let h = c.shown-shown.result in
    rw (written_some a.out.now c.if-out-eq0.false)
    (block-put a.out.now (halves_block h) a.at (halves-length h) (c.requires.1 (omega arith)) c.put_halves.ensures
    ∙ ap (λ (b : List ℕ). take a.at a.out.now ++ (b ++ drop 16 (drop a.at a.out.now)))
    (c.shown-shown.ensures
    ∙ shown-whole g.D.Direction.opening a.text.now a.at (halves_block a.pad) c.requires.0 (halves-length a.pad)
    (c.halves_at.ensures ∙ block_at-whole a.text.now a.at c.requires.0)))
