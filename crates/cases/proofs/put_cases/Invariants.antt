use mathlib.Core.List.{map}
use Rattle.std.specs.Prelude.{Ok}
use Rattle.wording.specs.Writer.{Adds}
use Rattle.cases.proofs.Numbered.{line_of, numbered_text}
use Rattle.cases.proofs.put_cases.Given as goal

abbrev pub invariant-loop-i : goal.invariant-loop-i
invariant-loop-i l = Adds (numbered_text (map line_of l.yielded)) l.initial.writer l.writer (Ok tt)
