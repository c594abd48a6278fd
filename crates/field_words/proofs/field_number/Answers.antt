-- `field_words::field_number` meets its contract: the names are those of specs/Words.
-- Assumes nothing.
use Rattle.field_words.specs.Words.{field_names}
use Rattle.field_words.proofs.field_number.Goals as goal

pub returns : goal.returns
unfolding field_names
returns c = c.place_in.ensures
