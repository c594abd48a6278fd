-- `aes_fast::encrypt_two_from` meets its contract: each block goes its own way.
-- Assumes nothing.
use mathlib.Core.Path.{◌∙◌}
use Rattle.aes_fast.proofs.Steps.{cipher_from_begun}
use Rattle.aes_fast.proofs.Keyed.encrypt_two_from.Goals as goal

pub returns : goal.returns
returns c =
    let a = c.args in (
      cipher_from_begun a.self.tables.now a.self.keys.now a.s a.low _ _ (c.from-one.ensures ∙ c.begun.ensures) c.rounds_after_two.ensures.one_value,
      cipher_from_begun a.self.tables.now a.self.keys.now a.s a.next _ _ (c.from-other.ensures ∙ c.begun-2.ensures) c.rounds_after_two.ensures.other_value,
    )
