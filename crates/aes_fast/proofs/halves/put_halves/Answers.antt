-- `aes_fast::halves::put_halves` meets its contract: a word after the other, where the output has room.
-- Assumes nothing.
use mathlib.Core.Path.{◌∙◌}
use native.Mathlib.Omega.{arith}
use Rattle.aes_fast.proofs.Strings.{halves-written}
use Rattle.aes_fast.proofs.halves.put_halves.Goals as goal

pub returns : goal.returns
returns c =
    let a = c.args in
    halves-written a.h a.out.now _ _ (omega arith)
    (c.copy_from_slice.ensures.after ∙ c.to_le_bytes.ensures) (c.copy_from_slice-2.ensures.after ∙ c.to_le_bytes-2.ensures)
