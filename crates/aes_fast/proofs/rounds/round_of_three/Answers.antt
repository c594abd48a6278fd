-- `aes_fast::rounds::round_of_three` meets its contract: its four columns, the last before the third.
-- Assumes nothing.
use mathlib.Core.Path.{◌∙◌}
use Rattle.aes_fast.specs.ThreeWords.{columns_held}
use Rattle.aes_fast.proofs.Three.{round_by_three}
use Rattle.aes_fast.proofs.rounds.round_of_three.Goals as goal

pub returns : goal.returns
returns c =
    let a = c.args in
    c.three_words_with.ensures
    ∙ round_by_three a.s a.t.now (columns_held a.k)
    c.mixed_column-c0.ensures c.mixed_column-c1.ensures c.mixed_column-c2.ensures c.mixed_column-c3.ensures
