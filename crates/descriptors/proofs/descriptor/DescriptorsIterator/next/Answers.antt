-- `Descriptors::next` meets its contract: where it gives a descriptor and where it refuses are the laws of proofs/Walked.antt.
-- Assumes nothing.
use Rattle.std.proofs.Common.{◌≡◌, ◌≢◌, length, arith, refl, ◌∙◌, get_or}
use Rattle.std.proofs.lemmas.Bool.Decides.{nat_tests}
use Rattle.descriptors.proofs.Walked.{no_zero_byte, too_short, begins_whole}
use Rattle.descriptors.proofs.descriptor.DescriptorsIterator.next.Goals.{in_default-via-in-Some+else-zero, in_default-via-in_default}
use Rattle.descriptors.proofs.descriptor.DescriptorsIterator.next.Goals as goal

pub returns-in-Some-clause-steps : goal.returns-in-Some-clause-steps
returns-in-Some-clause-steps c =
    let (fits, front, back, long, others) = c.in-Some.ensures.cases in
    let zero : get_or c.args.self.now.left.now 1 0 ≡ 0 = grind (arith, nat_tests) in
    begins_whole _ _ _ _ zero (omega (arith, c.read16-n.ensures.0)) fits front back

pub returns-in_default-clause-steps : goal.returns-in_default-clause-steps
returns-in_default-clause-steps c =
    let some : length c.args.self.now.left.now ≢ 0 = grind (arith, nat_tests) in
    record {
      some = some;
      stop = elim c.in_default.branch [
        | in_default-via-in-Some+else-zero w ↦ no_zero_byte _ (λ z. w.if-zero.false (c.read8-zero.ensures.0 ∙ z))
        | in_default-via-in_default w ↦ too_short _ (omega (arith, c.read16-n.ensures.0, w.in_default.ensures.cases))
      ];
      refusal = refl;
      none_left = refl;
    }
