-- Exclusive or of two blocks meets its contract, word by word.
-- Assumes nothing.
use native.Mathlib.Omega.{arith}
use Rattle.ghash.specs.Words.{block_of}
use Rattle.ghash.proofs.Wide.{xor-words, xor-blocks}
use Rattle.ghash.proofs.words.WideBitXor.bitxor.Goals as goal

pub returns : goal.returns
unfolding block_of
returns c =
    let a = c.args.self in
    let b = c.args.other in
    (xor-words a.high a.low b.high b.low (omega arith) (omega arith), xor-blocks a.high a.low b.high b.low)
