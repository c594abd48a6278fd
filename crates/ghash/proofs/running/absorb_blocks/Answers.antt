-- `ghash::running::absorb_blocks` meets its contract. The loop's invariant: from the state reached, what is left of the text leads to the result.
-- Assumes nothing.
use mathlib.Core.Path.{ap, ◌∙◌}
use mathlib.Core.List.{List}
use Prim.Native.Nat.{ℕ, ◌+◌, ◌*◌}
use native.Mathlib.Omega.{arith}
use lib.ListN.{drop}
use Rattle.octets.specs.Xor.{xors}
use Rattle.octets.specs.Running.{absorb}
use Rattle.octets.proofs.Chunks.{absorb_chunk, absorb_after-chunks}
use Rattle.ghash.specs.Field.{times_h}
use Rattle.ghash.specs.Words.{block_of}
use Rattle.ghash.proofs.Wide.{length-block_of}
use Rattle.ghash.proofs.running.absorb_blocks.Goals as goal

pub loop-b-preserved : goal.loop-b-preserved
loop-b-preserved g c = λ h t.
    let l = c.loop-b in
    let s = c.args.text.now in
    ap (λ (y : List ℕ). absorb (times_h h) 0 y (drop ((l.b-index + 1) * 16) s))
    (c.times-s.ensures h t ∙ ap (times_h h) (c.bitxor.ensures.1 ∙ ap (xors (block_of l.s)) c.from.ensures.0))
    ∙ absorb_chunk (times_h h) (block_of l.s) s l.b-index (length-block_of l.s) c.as_chunks.result.0.now c.as_chunks.ensures.front
    (omega (arith, c.as_chunks.ensures.front_len))
    ∙ l.invariant h t

pub returns : goal.returns
returns g c = λ h t.
    let l = c.loop-b in
    c.add_part.ensures
    ∙ absorb_after-chunks (times_h h) (block_of l.s) c.args.text.now l.b-index (length-block_of l.s) c.as_chunks.result.1.now c.as_chunks.ensures.back
    (omega (arith, c.as_chunks.ensures.front_len))
    ∙ l.invariant h t
