-- `Block::from` meets its contract: the bytes of the two words.
-- Assumes nothing.
use mathlib.Core.Path.{sym, ap₂, ◌∙◌}
use mathlib.Core.List.{List, ◌++◌}
use Prim.Native.Nat.{ℕ}
use Rattle.aes_fast.proofs.Pairs.{word_bytes_is, halves_block-words}
use Rattle.aes_fast.proofs.halves.BlockFromHalves.from.Goals as goal

pub returns : goal.returns
returns c =
    let h = c.args.h in
    c.two_eights.ensures
    ∙ ap₂ (λ (s t : List ℕ). s ++ t) (c.to_le_bytes.ensures ∙ sym (word_bytes_is h.first)) (c.to_le_bytes-2.ensures ∙ sym (word_bytes_is h.second))
    ∙ sym (halves_block-words h)
