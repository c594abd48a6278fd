-- `cbc_mac::add_part` meets its contract: the part among as many zeros as fill the block.
-- Assumes nothing.
use mathlib.Core.Path.{refl, ap₂, ◌∙◌}
use Rattle.octets.specs.Xor.{xors}
use Rattle.octets.proofs.Chunks.{part_among-zeros}
use Rattle.cbc_mac.proofs.add_part.Goals as goal

pub returns : goal.returns
returns c =
    let a = c.args in
    c.from-3.ensures ∙ c.add_halves.ensures
    ∙ ap₂ xors c.from.ensures (c.from-2.ensures ∙ part_among-zeros a.k _ a.part.now c.copy_from_slice.new.self c.requires refl c.copy_from_slice.ensures.after)
