-- `modes::gcm::seal` meets its contract: the ciphertext over the front of the output, and its tag after it.
-- Assumes nothing.
use mathlib.Core.List.{◌++◌}
use Rattle.aes.specs.Cipher.{cipher}
use Rattle.aes.proofs.Laws.{cipher-length}
use Rattle.modes.proofs.GcmTagged.{text-unrefused, sealed_steps}
use Rattle.modes.proofs.gcm.seal.Goals as goal

pub returns-in_err-add : goal.returns-in_err-add
returns-in_err-add c =
    let a = c.args in
    absurd (text-unrefused (cipher a.aes.keyed.keys.now) (cipher-length a.aes.keyed.keys.now) a.m.iv.now (a.m.a.now ++ a.m.b.now) a.m.iv_size c.base_of.ensures
    a.m.text.now a.out.now _ a.m.text_fits c.in_err-add.ensures)

pub returns : goal.returns
returns c =
    let a = c.args in
    sealed_steps (cipher a.aes.keyed.keys.now) (cipher-length a.aes.keyed.keys.now) a.m.iv.now (a.m.a.now ++ a.m.b.now) a.m.iv_size c.base_of.ensures
    a.m.text.now a.out.now a.m.text_fits c.requires c.in_ok-add.ensures c.tag_of-tag.ensures c.put.ensures
