-- `modes::gcm::verify` meets its contract: the tag of the ciphertext decides.
-- Assumes nothing.
use mathlib.Core.List.{◌++◌}
use Rattle.aes.specs.Cipher.{cipher}
use Rattle.aes.proofs.Laws.{cipher-length}
use Rattle.modes.proofs.GcmTagged.{opened-number}
use Rattle.modes.proofs.gcm.verify.Goals as goal

pub returns : goal.returns
returns c =
    let a = c.args in
    opened-number (cipher a.aes.keyed.keys.now) (cipher-length a.aes.keyed.keys.now) a.m.iv.now (a.m.a.now ++ a.m.b.now) a.m.iv_size c.base_of.ensures
    a.m.text.now a.tag.now c.tag_of-right.ensures c.check_tag.ensures
