-- `Halves::from` of a block meets its contract: the two numbers of eight bytes have the block for their bytes.
-- Assumes nothing.
use native.Mathlib.Omega.{arith}
use Rattle.octets.proofs.Arrays.{array_bytes}
use Rattle.aes_fast.proofs.Strings.{block_by_halves}
use Rattle.aes_fast.proofs.halves.HalvesFromBlock.from.Goals as goal

pub returns : goal.returns
returns c =
    let b = c.args.b in
    block_by_halves b c.as_chunks.result.0.now _ (omega (arith, c.well_formed.0.1.0.1)) (array_bytes 16 b _ c.well_formed.0)
    c.as_chunks.ensures.front c.from_le_bytes.ensures c.from_le_bytes-2.ensures
