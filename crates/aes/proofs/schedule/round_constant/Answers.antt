-- `aes::schedule::round_constant` meets its contract: one test over the table, which antt computes.
-- Assumes nothing.
use borrow.Author.Rules.{rules}
use mathlib.Core.List.{[], ◌∷◌}
use lib.ListN.{get_or}
use Rattle.aes_field.specs.Field.{xtime}
use Rattle.aes_field.proofs.Computed.{agree_at}
use Rattle.aes.specs.KeyExpansion.{power}
use Rattle.aes.proofs.schedule.round_constant.Goals as goal

pub returns : goal.returns
unfolding power xtime
returns c = agree_at (λ j. get_or (1 ∷ 2 ∷ 4 ∷ 8 ∷ 16 ∷ 32 ∷ 64 ∷ []) j 0) power 7 tt c.args.j (search rules)
