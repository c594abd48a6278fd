-- `aes_fast::start::begun` meets its contract: by what each call ensures.
-- Assumes nothing.
use native.Mathlib.Omega.{arith}
use Rattle.aes_fast.proofs.Starts.{begun_steps}
use Rattle.aes_fast.proofs.start.begun.Goals as goal

pub returns : goal.returns
returns c =
    let a = c.args in
    begun_steps a.t.now a.s a.low c.add_byte-last.result _ _ _
    c.add_byte-last.ensures (omega arith) c.add_entry-u.ensures c.column_adds.ensures c.add_halves.ensures
