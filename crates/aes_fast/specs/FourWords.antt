-- What four words of 32 bits stand for: the columns of a state.
-- Assumes nothing.
use Rattle.std.specs.Prelude.{[], ◌∷◌}
use Rattle.aes.specs.State.{State}
use Rattle.aes_fast.specs.ByTables.{column_from}
use Rattle.aes_fast.specs.declared.four_words.FourWords.{FourWords}

abbrev pub columns_in : FourWords → State
columns_in x = column_from x.a ∷ column_from x.b ∷ column_from x.c ∷ column_from x.d ∷ []
