-- `cases::strings::full_room` meets its contract.
-- Assumes nothing.
use mathlib.Core.Path.{refl}
use Rattle.cases.specs.Strings.{lent_room}
use Rattle.cases.proofs.strings.full_room.Goals as goal

pub returns : goal.returns
unfolding lent_room
returns c = refl
