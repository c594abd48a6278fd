-- `modes::ccm::chain_start` meets its contract: the cipher of the first block, and then the data; and beside it the cipher of counter block 0.
-- Assumes nothing.
use mathlib.Core.Path.{ap, ◌∙◌}
use mathlib.Core.Bool.{false}
use mathlib.Core.List.{List, ◌++◌}
use Prim.Native.Nat.{ℕ}
use lib.ListN.{length, drop}
use Rattle.octets.specs.Blocks.{chain}
use Rattle.aes.specs.Cipher.{cipher}
use Rattle.modes.specs.Counter.{front_of}
use Rattle.modes.specs.Ccm.{data_blocks}
use Rattle.modes.proofs.CcmFormat.{first_block-parts}
use Rattle.modes.proofs.ccm.chain_start.Goals as goal

pub returns-clause-chain_value : goal.returns-clause-chain_value
returns-clause-chain_value c =
    let a = c.args in
    let F = cipher a.pads.aes.keyed.keys.now in
    c.chain_data-chain.ensures
    ∙ ap (λ (y : List ℕ). chain F y (data_blocks (a.m.a.now ++ a.m.b.now)))
    (c.from.ensures
    ∙ c.encrypt_two-both.ensures.0
    ∙ ap F (c.first_block-first.ensures ∙ first_block-parts (drop 1 (front_of false a.pads.base)) a.m.a.now a.m.b.now (length a.m.text.now)))
