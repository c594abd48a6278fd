-- `ThreeWords::from` of two words meets its contract: the low and the high column of the second word.
-- Assumes nothing.
use mathlib.Core.Path.{refl, sym, ◌∙◌}
use Rattle.octets.proofs.Values.{four}
use Rattle.aes_fast.specs.Halves.Inside.{columns_of_is}
use Rattle.aes_fast.proofs.Pairs.{low_part}
use Rattle.aes_fast.proofs.three_words.ThreeWordsFromHalves.from.Goals as goal

pub returns : goal.returns
returns c = four refl refl (low_part _) refl ∙ sym (columns_of_is _)
