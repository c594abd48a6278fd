-- `modes::counter::add_at` meets its contract: the sum over the front of what is lent.
-- Assumes nothing.
use mathlib.Core.Path.{ap, ◌∙◌}
use mathlib.Core.List.{List, ◌++◌}
use Prim.Native.Nat.{ℕ}
use lib.ListN.{take, drop}
use Rattle.octets.specs.Xor.{xors}
use Rattle.aes_fast.specs.Halves.{halves_block}
use Rattle.aes_fast.proofs.Laws.{halves-length, block_at-whole}
use Rattle.octets.proofs.Written.{block-put}
use Rattle.modes.proofs.counter.add_at.Goals as goal

pub returns : goal.returns
returns c =
    let sum = c.add_halves-sum in
    let a = c.args in
    block-put a.out.now (halves_block sum.result) a.at (halves-length sum.result) c.requires.1 c.put_halves.ensures
    ∙ ap (λ (b : List ℕ). take a.at a.out.now ++ (b ++ drop 16 (drop a.at a.out.now)))
    (sum.ensures
    ∙ ap (λ (b : List ℕ). xors b (halves_block a.pad)) (c.halves_at-block.ensures ∙ block_at-whole a.text.now a.at c.requires.0))
