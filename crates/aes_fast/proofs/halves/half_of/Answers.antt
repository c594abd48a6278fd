-- `aes_fast::halves::half_of` meets its contract: the two columns of a sum.
-- Assumes nothing.
use native.Mathlib.Omega.{arith}
use Rattle.aes_fast.proofs.Pairs.{low_column, high-column}
use Rattle.aes_fast.proofs.halves.half_of.Goals as goal

pub returns : goal.returns
returns c = (low_column c.args.a c.args.b, high-column c.args.a c.args.b (omega arith))
