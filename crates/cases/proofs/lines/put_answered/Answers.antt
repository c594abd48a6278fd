-- `cases::lines::put_answered` meets its contract.
-- Assumes nothing.
use Rattle.wording.proofs.Puts.{adds}
use Rattle.cases.proofs.lines.put_answered.Goals as goal

pub returns-in-Some : goal.returns-in-Some
returns-in-Some c = rw (c.in-Some.ensures c.args.number c.requires, ← c.word.ensures) c.put_answer.ensures

pub returns-in-None : goal.returns-in-None
returns-in-None c = rw (c.in-None.ensures c.args.number c.requires) (adds c.put_line.ensures)
