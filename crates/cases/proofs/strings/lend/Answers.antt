-- `cases::strings::lend` meets its contract.
-- Assumes nothing.
use mathlib.Core.Path.{ap, ◌∙◌}
use lib.ListN.{take}
use Rattle.cases.specs.Strings.{word_max, lent_room}
use Rattle.cases.proofs.Held.{room_small, take_room}
use Rattle.cases.proofs.strings.lend.Goals as goal

pub invariant_of-result : goal.invariant_of-result
invariant_of-result c = record { within = room_small c.args.word.now c.in_ok-size.ensures.0 c.in_ok-size.ensures.1 }

pub returns : goal.returns
returns c =
    let size = room_small c.args.word.now c.in_ok-size.ensures.0 c.in_ok-size.ensures.1 in
    rw c.if-block.false (
      c.in_ok-size.ensures.0,
      ap (take c.in_ok-size.size) c.full_room-bytes.ensures ∙ take_room c.in_ok-size.size word_max size ∙ ap lent_room c.in_ok-size.ensures.1,
    )
