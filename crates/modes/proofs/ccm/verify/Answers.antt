-- `modes::ccm::verify` meets its contract: the tag of the plaintext that the ciphertext gives decides.
-- Assumes nothing.
use mathlib.Core.Path.{ap, ◌∙◌}
use mathlib.Core.List.{◌++◌}
use native.Mathlib.Omega.{arith}
use Rattle.octets.specs.Xor.{xors}
use Rattle.aes.specs.Cipher.{cipher}
use Rattle.aes.proofs.Laws.{cipher-length}
use Rattle.modes.proofs.CcmFormat.{opened-number}
use Rattle.modes.proofs.ccm.verify.Goals as goal

pub returns : goal.returns
returns c =
    let a = c.args in
    opened-number (cipher a.aes.keyed.keys.now) (cipher-length a.aes.keyed.keys.now) a.m.iv.now (a.m.a.now ++ a.m.b.now) a.m.iv_size c.base_of.ensures
    a.m.text.now a.tag.now (omega arith) c.chain_start-begun.ensures.chain_value c.pass-z.ensures.value
    (c.xor-right.ensures ∙ ap (xors c.pass-z.result) c.chain_start-begun.ensures.pad_value) c.check_tag.ensures
