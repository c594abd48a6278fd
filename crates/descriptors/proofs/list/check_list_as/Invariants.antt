use Rattle.std.proofs.Common.{◌≡◌, ◌+◌, length}
use Rattle.descriptors.specs.Parse.{split}
use Rattle.descriptors.specs.Tested.{split_ok, list_ok, unreserved, count_of}
use Rattle.descriptors.proofs.list.check_list_as.Given as goal

-- what is left decides, and what it counts is added to the count so far
abbrev pub invariant-loop-d : goal.invariant-loop-d
invariant-loop-d l =
    let left = split l.d-iterator.left.now in
    record {
      decides : split_ok l.opening.label l.opening.strict l.least left ≡ list_ok l.opening.label l.opening.strict l.list;
      counts : l.count + length (unreserved l.opening.label left.0) ≡ count_of l.opening.label l.list;
    }
