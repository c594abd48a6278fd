-- `record::accepted::Record::iv` meets its contract: it is as long as the mode's.
-- Assumes nothing.
use mathlib.Core.Path.{sym, ap₂, ◌∙◌}
use native.Mathlib.Omega.{arith}
use Rattle.octets.specs.Tests.{part_of}
use Rattle.record.proofs.Reading.{header_accepted, fields_within}
use Rattle.record.proofs.Apart.{iv_is}
use Rattle.record.proofs.accepted.Record.iv.Goals as goal

pub places-requires : goal.places-requires
places-requires c = let fits = fields_within _ _ _ _ (header_accepted _ _ _ _ (sym c.args.self.accepted)) in omega (arith, fits)

pub returns : goal.returns
returns c =
    let r = c.args.self.bytes.now in
    c.part.ensures ∙ ap₂ (part_of r) c.places.ensures.iv c.iv_size-size.ensures ∙ iv_is _ _ _ _ (header_accepted _ _ _ _ (sym c.args.self.accepted))
