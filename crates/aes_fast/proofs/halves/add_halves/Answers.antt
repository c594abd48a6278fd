-- `aes_fast::halves::add_halves` meets its contract: word by word.
-- Assumes nothing.
use mathlib.Core.Path.{refl}
use Rattle.aes_fast.proofs.Pairs.{halves_block_xor}
use Rattle.aes_fast.proofs.halves.add_halves.Goals as goal

pub returns : goal.returns
returns c =
    let a = c.args in
    halves_block_xor a.a a.b _ refl refl
