use Rattle.wording.proofs.DecimalDigits.{Found}
use Rattle.wording.proofs.writing.Writer.put_decimal.Given as goal

abbrev pub invariant-loop-rest : goal.invariant-loop-rest
invariant-loop-rest l = Found l.n l.rest l.first l.digits

abbrev pub decreases-loop-rest : goal.decreases-loop-rest
decreases-loop-rest l = l.rest
