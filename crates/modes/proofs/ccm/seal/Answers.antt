-- `modes::ccm::seal` meets its contract: the ciphertext over the front of the output, and the tag after it.
-- Assumes nothing.
use mathlib.Core.Path.{ap, ◌∙◌}
use mathlib.Core.List.{◌++◌}
use Rattle.octets.specs.Xor.{xors}
use Rattle.aes.specs.Cipher.{cipher}
use Rattle.aes.proofs.Laws.{cipher-length}
use Rattle.modes.proofs.CcmFormat.{sealed_steps}
use Rattle.modes.proofs.ccm.seal.Goals as goal

pub returns : goal.returns
returns c =
    let a = c.args in
    let sealed = c.pass-z.ensures in
    sealed_steps (cipher a.aes.keyed.keys.now) (cipher-length a.aes.keyed.keys.now) a.m.iv.now (a.m.a.now ++ a.m.b.now) a.m.iv_size c.base_of.ensures
    a.m.text.now a.out.now c.requires c.chain_start-begun.ensures.chain_value sealed.value sealed.out_after
    (c.xor-tag.ensures ∙ ap (xors c.pass-z.result) c.chain_start-begun.ensures.pad_value) c.put.ensures
