-- What three words stand for, the first of 64 bits and the others of 32: the columns of a state.
-- Assumes nothing.
use Rattle.std.specs.Prelude.{◌/◌, [], ◌∷◌}
use Rattle.aes.specs.State.{State}
use Rattle.aes_fast.specs.ByTables.{column_from}
use Rattle.aes_fast.specs.declared.three_words.ThreeWords.{ThreeWords}

abbrev pub columns_held : ThreeWords → State
columns_held x = column_from x.first ∷ column_from (x.first / 4294967296) ∷ column_from x.c ∷ column_from x.d ∷ []
