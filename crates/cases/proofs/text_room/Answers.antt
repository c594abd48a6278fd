-- `cases::text_room` meets its contract.
-- Assumes nothing.
use mathlib.Core.Path.{refl}
use Rattle.cases.specs.Run.{no_text}
use Rattle.cases.proofs.text_room.Goals as goal

pub returns : goal.returns
unfolding no_text
returns c = refl
