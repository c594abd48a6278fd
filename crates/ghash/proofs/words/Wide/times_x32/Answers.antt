-- `Wide::times_x32` meets its contract: the bits that fall out, by the four bits of R.
-- Assumes nothing.
use native.Mathlib.Omega.{arith}
use Rattle.ghash.proofs.Wide.{part_lt, times_x32-words}
use Rattle.ghash.proofs.words.Wide.times_x32.Goals as goal

pub overflow_add-result : goal.overflow_add-result
overflow_add-result c =
    let v = c.args.self in
    record { fits = part_lt v.high v.low (omega arith) }

pub returns : goal.returns
returns c =
    let v = c.args.self in
    times_x32-words v.high v.low (omega arith)
