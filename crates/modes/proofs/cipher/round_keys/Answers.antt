-- `modes::cipher::round_keys` meets its contract: the schedule of the key's own bytes.
-- Assumes nothing.
use mathlib.Core.Path.{refl, ap, ◌∙◌}
use Rattle.octets.proofs.Arrays.{array_bytes}
use Rattle.octets.proofs.Lent.{over_zeros}
use Rattle.aes.specs.KeyExpansion.{schedule}
use Rattle.aes_fast.proofs.Laws.{made_ready}
use Rattle.modes.proofs.cipher.round_keys.Goals as goal

pub returns-clause-value : goal.returns-clause-value
returns-clause-value c = c.expand_key.ensures ∙ ap schedule (c.first.ensures ∙ over_zeros c.args.key.now 32 c.requires)

pub returns-clause-ready : goal.returns-clause-ready
returns-clause-ready c =
    let key = c.first in
    made_ready _ _ key.result refl c.expand_key.ensures (array_bytes 32 key.result _ key.type_inv)
