-- `modes::counter::KeyStream::add_single` meets its contract: nothing where there is nothing, and else the sum, as much of it as the output has room for.
-- Assumes nothing.
use mathlib.Core.Path.{sym, ap, ◌∙◌}
use Rattle.octets.specs.Xor.{xors}
use Rattle.aes.specs.Cipher.{cipher}
use Rattle.aes.proofs.Laws.{cipher-length}
use Rattle.octets.proofs.Written.{summed-put}
use Prim.Native.Nat.{◌-◌}
use native.Mathlib.Omega.{arith}
use lib.ListN.{take}
use Rattle.modes.proofs.Stream.{ctr_last, none_written}
use Rattle.modes.proofs.counter.KeyStream.add_single.Goals as goal

pub returns-then-text-eq0 : goal.returns-then-text-eq0
returns-then-text-eq0 g c =
    let a = c.args in
    none_written (cipher a.self.aes.keyed.keys.now) g.row.W (take (16 - g.row.W) a.self.base) a.k a.text.bytes.now a.out.now c.if-text-eq0.true c.requires

pub returns : goal.returns
returns g c =
    let a = c.args in
    let F = cipher a.self.aes.keyed.keys.now in
    let pad = c.encrypt in
    summed-put a.text.bytes.now pad.result (omega arith) a.text.short a.out.now c.requires c.summed-sum.ensures c.put.ensures
    ∙ ap (xors a.text.bytes.now) (pad.ensures ∙ ap F c.block.ensures)
    ∙ sym (ctr_last F (cipher-length a.self.aes.keyed.keys.now) g.row.W (take (16 - g.row.W) a.self.base) a.k a.text.bytes.now a.text.short)
