-- `Session::iv` meets its contract: the prefix and the field, each copied to its place, are the two strings joined.
-- Assumes nothing.
use borrow.Author.Rules.{rules}
use mathlib.Core.Path.{◌≡◌, refl, ◌∙◌}
use Rattle.octets.specs.BigEndian.{be}
use Rattle.session.specs.Iv.{field_size}
use Rattle.session.proofs.Calls.{joined}
use Rattle.session.proofs.Session.iv.Goals as goal

pub returns : goal.returns
returns c =
    let field : c.to_be_bytes.result ≡ be field_size c.args.self.next = search rules in
    joined _ _ _ _ _ c.copy_from_slice.ensures.after (search rules) refl (c.copy_from_slice-2.ensures.after ∙ field)
