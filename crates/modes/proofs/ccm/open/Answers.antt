-- `modes::ccm::open` meets its contract: a short text by its pads; else the tag decides, and then the plaintext that the ciphertext gives is written.
-- Assumes nothing.
use mathlib.Core.List.{◌++◌}
use native.Mathlib.Omega.{arith}
use Rattle.std.proofs.Common.{◌≡◌, rules}
use Rattle.aes.specs.Cipher.{cipher}
use Rattle.aes.proofs.Laws.{cipher-length}
use Rattle.modes.specs.Ccm.{ccm_text, ccm_tag_right}
use Rattle.modes.specs.Calls.{tag_decides}
use Rattle.modes.proofs.Numbers.{answer_passed}
use Rattle.modes.proofs.CcmFormat.{text-written}
use Rattle.modes.proofs.CcmShort.{short-opened}
use Rattle.modes.proofs.ccm.open.Goals as goal

pub returns-then-m-le-SHORT : goal.returns-then-m-le-SHORT
returns-then-m-le-SHORT c =
    let a = c.args in
    short-opened (cipher a.aes.keyed.keys.now) (cipher-length a.aes.keyed.keys.now) a.m.iv.now (a.m.a.now ++ a.m.b.now) a.m.iv_size c.base_of.ensures
    a.m.text.now a.tag.now a.out.now (omega arith) c.chain_start-begun.ensures.chain_value c.open_short.ensures

pub returns : goal.returns
returns c =
    let a = c.args in
    let tested : 0 ≡ tag_decides (ccm_tag_right (cipher a.aes.keyed.keys.now) a.m.iv.now (a.m.a.now ++ a.m.b.now) a.m.text.now a.tag.now) = search rules in
    answer_passed (ccm_text (cipher a.aes.keyed.keys.now) a.m.iv.now a.m.text.now) a.out.now tested
    (text-written (cipher a.aes.keyed.keys.now) (cipher-length a.aes.keyed.keys.now) a.m.iv.now (a.m.a.now ++ a.m.b.now) a.m.iv_size c.base_of.ensures
    a.m.text.now a.out.now a.m.text_fits c.add.ensures)
