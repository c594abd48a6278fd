-- `Fine::times` meets its contract, by the sums of the two words.
-- Assumes nothing.
use mathlib.Core.Path.{ap₂, ◌∙◌}
use native.Mathlib.Omega.{arith}
use lib.Bits.{bit_xor}
use Rattle.ghash.specs.Field.{times_xs}
use Rattle.ghash.proofs.Wide.{block_of-be}
use Rattle.ghash.proofs.Entries.{times_words}
use Rattle.ghash.proofs.table.FineTables.times.Goals as goal

pub returns : goal.returns
returns c = λ h t.
    times_words h c.args.x _ (block_of-be c.bitxor.result (omega arith) (omega arith))
    (c.bitxor.ensures.0 ∙ ap₂ bit_xor (c.sum_bits.ensures h t.0) (c.sum_bits-2.ensures (times_xs 64 h) t.1))
