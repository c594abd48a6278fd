-- `Wide::from` meets its contract: the two numbers of eight bytes have the block for their bytes.
-- Assumes nothing.
use native.Mathlib.Omega.{arith}
use Rattle.octets.proofs.Arrays.{array_bytes}
use Rattle.ghash.proofs.Wide.{block_of_words, val-number}
use Rattle.ghash.proofs.words.WideFromBlock.from.Goals as goal

pub returns : goal.returns
returns c =
    let b = c.args.b in
    let same = block_of_words b c.as_chunks.result.0.now _ (omega (arith, c.well_formed.0.1.0.1)) (array_bytes 16 b _ c.well_formed.0)
    c.as_chunks.ensures.front c.from_be_bytes.ensures c.from_be_bytes-2.ensures in
    (same, val-number _ b (omega arith) (omega arith) same)
