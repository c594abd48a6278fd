-- Of a last part of a plaintext its sum with the pad is written.
-- Assumes nothing.
use native.Mathlib.Omega.{arith}
use Rattle.octets.proofs.Written.{summed-put}
use Rattle.modes.proofs.passes.SealingDirection.put_last.Goals as goal

pub returns : goal.returns
returns c =
    let a = c.args in
    summed-put a.text.bytes.now a.pad (omega arith) a.text.short a.out.now c.requires c.summed-sum.ensures c.put.ensures
