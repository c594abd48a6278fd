-- `modes::counter::KeyStream::start_at` meets its contract: the start of a counter block gives the pads of its group.
-- Assumes nothing.
use native.Mathlib.Omega.{arith}
use Rattle.octets.proofs.Arrays.{array_bytes}
use Rattle.modes.proofs.Pads.{start_serves}
use Rattle.modes.proofs.counter.KeyStream.start_at.Goals as goal

pub returns : goal.returns
returns g c =
    let a = c.args in
    start_serves a.self.aes.ready g.row.W a.self.base c.block.result c.start_of.result a.k a.self.width.0 a.self.width.1 (omega arith)
    (array_bytes 16 c.block.result _ c.block.type_inv) (omega arith) c.block.ensures c.start_of.ensures
