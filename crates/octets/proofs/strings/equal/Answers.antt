-- `octets::strings::equal` meets its contract: where nothing is left, what was gathered decides.
-- Assumes nothing.
use Rattle.std.proofs.Common.{sym, ◌∙◌}
use Rattle.std.proofs.lemmas.Iterator.{empty_from_Zip}
use Rattle.octets.proofs.Same.{same_none}
use Rattle.octets.proofs.strings.equal.Goals as goal

pub returns : goal.returns
returns c =
    let l = c.loop-x in
    let e = empty_from_Zip l.x-iterator c.next.new.self c.next.result c.in-None.is c.next.ensures.steps l.invariant.0 in
    sym (l.invariant.1 ∙ same_none _ _ l.different e.0 e.1)
