-- `modes::counter::KeyStream::add_rest` meets its contract: a block or what there is, and then what is left.
-- Assumes nothing.
use mathlib.Core.Path.{sym, ◌∙◌}
use Prim.Native.Nat.{◌-◌}
use native.Mathlib.Omega.{arith}
use lib.ListN.{length, take}
use Rattle.octets.proofs.Lent.{over-whole}
use Rattle.aes.specs.Cipher.{cipher}
use Rattle.aes.proofs.Laws.{cipher-length}
use Rattle.modes.proofs.Limits.{least_inside, least-whole}
use Rattle.modes.proofs.Stream.{parts-over, length-ctr}
use Rattle.modes.proofs.counter.KeyStream.add_rest.Goals as goal

pub returns : goal.returns
returns g c =
    let a = c.args in
    let h = c.min-middle in
    let n = length a.text.now in
    let F = cipher a.self.aes.keyed.keys.now in
    let size = cipher-length a.self.aes.keyed.keys.now in
    parts-over F size g.row.W (take (16 - g.row.W) a.self.base) a.i 1 h.result a.text.now a.out.now (omega (arith, c.requires.1))
    (least_inside 16 n h.ensures) (omega arith) (least-whole 16 n h.ensures) c.add_single.ensures c.add_single-2.ensures
    ∙ over-whole _ a.out.now (length-ctr F size g.row.W (take (16 - g.row.W) a.self.base) a.i a.text.now ∙ sym c.requires.1)
