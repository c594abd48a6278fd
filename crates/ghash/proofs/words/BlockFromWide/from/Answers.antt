-- `Block::from` meets its contract: the bytes of the two words.
-- Assumes nothing.
use mathlib.Core.Path.{ap₂, ◌∙◌}
use mathlib.Core.List.{List, ◌++◌}
use Prim.Native.Nat.{ℕ}
use Rattle.ghash.specs.Words.{block_of}
use Rattle.ghash.proofs.words.BlockFromWide.from.Goals as goal

pub returns : goal.returns
unfolding block_of
returns c = c.two_eights.ensures ∙ ap₂ (λ (s t : List ℕ). s ++ t) c.bytes64.ensures c.bytes64-2.ensures
