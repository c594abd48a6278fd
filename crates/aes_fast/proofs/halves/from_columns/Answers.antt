-- `aes_fast::halves::from_columns` meets its contract: by its two words.
-- Assumes nothing.
use mathlib.Core.Path.{◌∙◌}
use Rattle.octets.proofs.Values.{four}
use Rattle.aes_fast.specs.Halves.Inside.{columns_of_is}
use Rattle.aes_fast.proofs.halves.from_columns.Goals as goal

pub returns : goal.returns
returns c = columns_of_is _ ∙ four c.half_of.ensures.0 c.half_of.ensures.1 c.half_of-2.ensures.0 c.half_of-2.ensures.1
