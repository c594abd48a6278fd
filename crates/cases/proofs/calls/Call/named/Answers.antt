-- `cases::calls::Call::named` meets its contract: the two tables stand beside one another.
-- Assumes nothing.
use mathlib.Core.Path.{refl}
use Rattle.cases.proofs.Named.{named_by}
use Rattle.cases.proofs.calls.Call.named.Goals as goal

pub returns : goal.returns
returns c =
    let by = named_by c.args.name.now _ c.named_in.ensures in
    by (refl, refl, (refl, refl, (refl, refl, (refl, refl, (refl, refl, (refl, refl, (refl, refl, (refl, refl, (refl, refl, (refl, refl, tt))))))))))
