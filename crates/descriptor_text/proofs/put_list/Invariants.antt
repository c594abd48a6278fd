use Rattle.std.proofs.Common.{◌-◌, List, ℕ, length}
use Rattle.descriptors.proofs.ReaderSteps.{Left}
use Rattle.descriptor_text.specs.Lines.{list_text}
use Rattle.descriptor_text.proofs.Written.{Writing}
use Rattle.descriptor_text.proofs.put_list.Given as goal

-- what is written so far and the lines of the descriptors that are left are the text
abbrev pub invariant-loop-descriptor : goal.invariant-loop-descriptor
invariant-loop-descriptor l =
    (us : List (List ℕ))
    × Left l.fn.opening.label l.fn.opening.strict l.list l.reader us
    × Writing (list_text l.fn.opening.label l.list) l.fn.writer l.writer us

abbrev pub decreases-loop-descriptor : goal.decreases-loop-descriptor
decreases-loop-descriptor l = length l.list - l.reader.place.at
