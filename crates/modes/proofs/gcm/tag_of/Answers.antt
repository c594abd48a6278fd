-- `modes::gcm::tag_of` meets its contract, step by step.
-- Assumes nothing.
use mathlib.Core.Path.{◌∙◌}
use mathlib.Core.Bool.{true}
use Rattle.aes.specs.Cipher.{cipher}
use Rattle.modes.specs.Counter.{front_of}
use Rattle.modes.proofs.GcmTagged.{tag_steps}
use Rattle.modes.proofs.gcm.tag_of.Goals as goal

pub returns : goal.returns
returns c =
    let a = c.args in
    let ciphered = c.encrypt_two-both.ensures in
    tag_steps (cipher a.pads.aes.keyed.keys.now) (front_of true a.pads.base) a.m.a.now a.m.b.now a.m.text.now (c.from-key.ensures ∙ ciphered.0)
    c.lengths_block.ensures c.ghash_parts-s.ensures c.block.ensures (c.from.ensures ∙ ciphered.1) c.xor.ensures
