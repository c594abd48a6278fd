-- `ghash::hash::hash_by` meets its contract: the states from part to part are those of the running chain.
-- Assumes nothing.
use mathlib.Core.Path.{refl, ap, ◌∙◌}
use Rattle.octets.specs.BigEndian.{number}
use Rattle.octets.specs.Xor.{xors}
use Rattle.ghash.specs.Words.{block_of}
use Rattle.ghash.proofs.Hashed.{hashed-parts}
use Rattle.ghash.proofs.hash.hash_by.Goals as goal

pub returns : goal.returns
unfolding block_of
returns g c =
    let a = c.args in
    let n = number a.h in
    let t = c.fill.ensures in
    c.from-2.ensures
    ∙ hashed-parts a.h n refl a.a.now a.b.now a.text.now _ _ _ _ _ _ _ _
    (c.absorb_text-first.ensures n t) (c.absorb_text-second.ensures n t) (c.close_block-closed.ensures n t)
    (c.absorb_text-third.ensures n t) (c.close_block-whole.ensures n t)
    (c.bitxor.ensures.1 ∙ ap (xors (block_of c.close_block-whole.result)) c.from.ensures.0) (c.times.ensures n t)
