use Rattle.std.proofs.Common.{◌≡◌, ◌+◌, length}
use Rattle.descriptors.specs.Parse.{split}
use Rattle.descriptors.specs.Steps.{split_step, step_answer}
use Rattle.descriptors.proofs.cursor.step_at.Given as goal

-- a step from `from` is the step from the cursor
abbrev pub invariant-loop-d : goal.invariant-loop-d
invariant-loop-d l =
    record {
      same : split_step l.c.opening.label l.c.opening.strict l.from (split l.d-iterator.left.now) ≡ step_answer l.c.opening.label l.c.opening.strict l.list l.c.at;
      within : l.from + length l.d-iterator.left.now ≡ length l.list;
    }
