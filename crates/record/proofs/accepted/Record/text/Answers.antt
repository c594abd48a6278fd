-- `record::accepted::Record::text` meets its contract: it is as long as the header says.
-- Assumes nothing.
use mathlib.Core.Path.{sym, ap, ◌∙◌}
use Prim.Native.Nat.{ℕ}
use native.Mathlib.Omega.{arith}
use Rattle.octets.specs.Tests.{part_of}
use Rattle.record.proofs.Reading.{header_accepted, fields_within}
use Rattle.record.proofs.Apart.{text_is}
use Rattle.record.proofs.accepted.Record.text.Goals as goal

pub places-requires : goal.places-requires
places-requires c = let fits = fields_within _ _ _ _ (header_accepted _ _ _ _ (sym c.args.self.accepted)) in omega (arith, fits)

pub returns : goal.returns
returns c =
    let self = c.args.self in
    c.part.ensures ∙ ap (λ (p : ℕ). part_of self.bytes.now p self.header.n) c.places.ensures.text ∙ text_is _ _ _ _ (header_accepted _ _ _ _ (sym self.accepted))
