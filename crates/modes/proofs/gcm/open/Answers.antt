-- `modes::gcm::open` meets its contract: the tag decides, and then the plaintext is written.
-- Assumes nothing.
use mathlib.Core.List.{◌++◌}
use Rattle.std.proofs.Common.{◌≡◌, rules}
use Rattle.aes.specs.Cipher.{cipher}
use Rattle.aes.proofs.Laws.{cipher-length}
use Rattle.modes.specs.Gcm.{gcm_text, gcm_tag_right}
use Rattle.modes.specs.Calls.{tag_decides}
use Rattle.modes.proofs.Numbers.{answer_passed}
use Rattle.modes.proofs.GcmTagged.{text-written}
use Rattle.modes.proofs.gcm.open.Goals as goal

pub returns : goal.returns
returns c =
    let a = c.args in
    let tested : 0 ≡ tag_decides (gcm_tag_right (cipher a.aes.keyed.keys.now) a.m.iv.now (a.m.a.now ++ a.m.b.now) a.m.text.now a.tag.now) = search rules in
    answer_passed (gcm_text (cipher a.aes.keyed.keys.now) a.m.iv.now a.m.text.now) a.out.now tested
    (text-written (cipher a.aes.keyed.keys.now) (cipher-length a.aes.keyed.keys.now) a.m.iv.now (a.m.a.now ++ a.m.b.now) a.m.iv_size c.base_of.ensures
    a.m.text.now a.out.now a.m.text_fits c.add.ensures)
