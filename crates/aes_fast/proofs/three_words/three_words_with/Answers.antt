-- `aes_fast::three_words::three_words_with` meets its contract: exclusive or of words adds the columns.
-- Assumes nothing.
use Rattle.aes_fast.proofs.Three.{words_with}
use Rattle.aes_fast.proofs.three_words.three_words_with.Goals as goal

pub returns : goal.returns
returns c =
    let a = c.args in
    words_with c.half_of.result a.c0 a.c1 a.c2 a.c3 a.k c.half_of.ensures.0 c.half_of.ensures.1
