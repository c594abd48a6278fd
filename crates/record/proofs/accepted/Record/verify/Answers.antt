-- `record::accepted::Record::verify` meets its contract: the parts are those of the fields that were read.
-- Assumes nothing.
use mathlib.Core.Path.{sym}
use Rattle.record.proofs.Reading.{header_accepted}
use Rattle.record.proofs.Apart.{fields_verified}
use Rattle.record.proofs.accepted.Record.verify.Goals as goal

pub returns : goal.returns
returns c =
    let self = c.args.self in
    fields_verified self.bytes.now self.header.mode self.header.k self.header.n (header_accepted _ _ _ _ (sym self.accepted))
    c.front.ensures c.iv.ensures c.text-text.ensures c.tag-tag.ensures c.args.key.now c.args.aad.now c.requires.0 c.requires.1 c.verify.ensures
