-- `record::accepted::Record::front` meets its contract: it ends where the IV begins.
-- Assumes nothing.
use mathlib.Core.Path.{sym, ap, ◌∙◌}
use native.Mathlib.Omega.{arith}
use Rattle.octets.specs.Tests.{part_of}
use Rattle.record.proofs.Reading.{header_accepted, fields_within}
use Rattle.record.proofs.Apart.{front_is}
use Rattle.record.proofs.accepted.Record.front.Goals as goal

pub places-requires : goal.places-requires
places-requires c = let fits = fields_within _ _ _ _ (header_accepted _ _ _ _ (sym c.args.self.accepted)) in omega (arith, fits)

pub returns : goal.returns
returns c = let r = c.args.self.bytes.now in c.part.ensures ∙ ap (part_of r 0) c.places.ensures.iv ∙ front_is _ _ _ _ (header_accepted _ _ _ _ (sym c.args.self.accepted))
