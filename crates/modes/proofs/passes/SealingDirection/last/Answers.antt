-- The last part of a plaintext is the plaintext's own, with zeros after it.
-- Assumes nothing.
use mathlib.Core.Path.{◌∙◌}
use Rattle.octets.proofs.Written.{over_filled}
use Rattle.modes.proofs.passes.SealingDirection.last.Goals as goal

pub returns : goal.returns
returns c = c.first.ensures ∙ over_filled c.args.text.bytes.now c.args.text.short
