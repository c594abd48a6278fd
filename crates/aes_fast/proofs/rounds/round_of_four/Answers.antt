-- `aes_fast::rounds::round_of_four` meets its contract: the four columns, fed one after the other.
-- Assumes nothing.
use Rattle.aes_fast.proofs.Fed.{fed-round}
use Rattle.aes_fast.proofs.rounds.round_of_four.Goals as goal

pub returns : goal.returns
returns c =
    fed-round _ _ _ _ _ _ c.feed-x.ensures c.feed-y.ensures c.feed-z.ensures c.feed.ensures
