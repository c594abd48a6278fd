-- `Halves::from` of three words meets its contract: two columns in each word.
-- Assumes nothing.
use mathlib.Core.Path.{refl, ◌∙◌}
use Rattle.octets.proofs.Values.{four}
use Rattle.aes_fast.specs.Halves.Inside.{columns_of_is}
use Rattle.aes_fast.proofs.three_words.HalvesFromThreeWords.from.Goals as goal

pub returns : goal.returns
returns c = columns_of_is _ ∙ four refl refl c.half_of.ensures.0 c.half_of.ensures.1
