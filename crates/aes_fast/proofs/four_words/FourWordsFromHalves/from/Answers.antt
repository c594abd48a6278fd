-- `FourWords::from` of two words meets its contract: the low and the high column of each word.
-- Assumes nothing.
use mathlib.Core.Path.{refl, sym, ◌∙◌}
use Rattle.octets.proofs.Values.{four}
use Rattle.aes_fast.specs.Halves.Inside.{columns_of_is}
use Rattle.aes_fast.proofs.Pairs.{low_part}
use Rattle.aes_fast.proofs.four_words.FourWordsFromHalves.from.Goals as goal

pub returns : goal.returns
returns c = four (low_part _) refl (low_part _) refl ∙ sym (columns_of_is _)
