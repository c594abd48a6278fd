-- `Keyed::encrypt_beside` meets its contract: each block goes its own way.
-- Assumes nothing.
use mathlib.Core.Path.{◌∙◌}
use Rattle.aes_fast.specs.ThreeWords.{columns_held}
use Rattle.aes_fast.proofs.Steps.{round_by_key, first_key, cipher_by_two, cipher_from_begun}
use Rattle.aes_fast.proofs.Keyed.encrypt_beside.Goals as goal

pub returns : goal.returns
returns c =
    let a = c.args in
    let t = a.self.tables.now in
    let ks = a.self.keys.now in
    let both = c.rounds_after_two.ensures in (
      cipher_by_two t ks _ _ _ _ _
          (c.from-none.ensures ∙ first_key t ks a.b c.from.result c.add_halves.result c.add_halves.ensures c.from.ensures)
          (round_by_key t (columns_held c.from-none.result) _ c.round_of_three-one.ensures c.from-2.ensures)
          (round_by_key t (columns_held c.round_of_three-one.result) _ c.round_of_three-two.ensures c.from-3.ensures)
          both.one_value,
      cipher_from_begun t ks a.s a.low _ _ (c.from-other.ensures ∙ c.begun.ensures) both.other_value,
    )
