use Rattle.wording.proofs.Number.{ReadTo}
use Rattle.wording.proofs.decimal.read.Given as goal

abbrev pub invariant-loop-c : goal.invariant-loop-c
invariant-loop-c l = ReadTo l.word l.c-index l.v
