-- `Wide::add_part` meets its contract: the part among as many zeros as fill the block.
-- Assumes nothing.
use native.Mathlib.Omega.{arith}
use mathlib.Core.Path.{refl, ap, ◌∙◌}
use Rattle.octets.specs.Xor.{xors}
use Rattle.octets.proofs.Chunks.{part_among-zeros}
use Rattle.ghash.specs.Words.{block_of}
use Rattle.ghash.proofs.words.Wide.add_part.Goals as goal

pub returns : goal.returns
returns c =
    let a = c.args in
    let among = part_among-zeros a.k _ a.part.now c.copy_from_slice.new.self c.requires refl c.copy_from_slice.ensures.after in
    c.bitxor.ensures.1 ∙ ap (xors (block_of a.self)) (grind (arith, among))
