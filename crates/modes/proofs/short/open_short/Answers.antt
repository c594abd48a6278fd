-- `modes::short::open_short` meets its contract: the pass keeps the pads, the tag decides, and then the sum of the ciphertext and the pads is written.
-- Assumes nothing.
use mathlib.Core.Bool.{false}
use Rattle.std.proofs.Common.{◌≡◌, rules}
use Rattle.octets.specs.Same.{same}
use Rattle.aes.specs.Cipher.{cipher}
use Rattle.aes.proofs.Laws.{cipher-length}
use Rattle.modes.specs.Counter.{ctr, front_of}
use Rattle.modes.specs.Calls.{tag_decides}
use Rattle.modes.specs.Within.{short_max}
use Rattle.modes.proofs.Numbers.{answer_passed}
use Rattle.modes.proofs.CcmShort.{short-number, short-put}
use Rattle.modes.proofs.short.open_short.Goals as goal

pub returns : goal.returns
returns c =
    let a = c.args in
    let F = cipher a.pads.aes.keyed.keys.now in
    let front = front_of false a.pads.base in
    let tested : 0 ≡ tag_decides (same a.tag.now c.xor-right.result) = search rules in
    answer_passed (ctr F 3 front 1 a.c.now) a.out.now
    (short-number F (cipher-length a.pads.aes.keyed.keys.now) front a.c.now a.tag.now a.y c.pass-z.ensures.value c.requires.2 c.xor-right.ensures tested)
    (short-put F (cipher-length a.pads.aes.keyed.keys.now) front a.c.now short_max c.requires.0 c.pass-z.ensures.out_after a.out.now c.put_sum.ensures)
