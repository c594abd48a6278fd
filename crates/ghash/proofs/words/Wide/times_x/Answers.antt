-- `Wide::times_x` meets its contract: the bit that falls out, as a factor, adds R or nothing.
-- Assumes nothing.
use native.Mathlib.Omega.{arith}
use Rattle.ghash.proofs.Wide.{half_lt, times_x-words}
use Rattle.ghash.proofs.words.Wide.times_x.Goals as goal

pub overflow_add-result : goal.overflow_add-result
overflow_add-result c =
    let v = c.args.self in
    record { fits = half_lt v.high v.low (omega arith) }

pub returns : goal.returns
returns c =
    let v = c.args.self in
    times_x-words v.high v.low (omega arith)
