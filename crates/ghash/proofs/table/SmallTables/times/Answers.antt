-- `Small::times` meets its contract, by the sums of the four halves.
-- Assumes nothing.
use native.Mathlib.Omega.{arith}
use Rattle.ghash.proofs.Wide.{block_of-be}
use Rattle.ghash.proofs.Entries.{times_halves}
use Rattle.ghash.proofs.table.SmallTables.times.Goals as goal

pub returns : goal.returns
returns c = λ h t.
    let r = c.half_word in
    times_halves h c.args.x _ _ _ _ (block_of-be r.result (omega arith) (omega arith))
    (c.half_word-fourth.ensures h t) (c.half_word-third.ensures h t) (c.half_word-second.ensures h t) (r.ensures h t)
