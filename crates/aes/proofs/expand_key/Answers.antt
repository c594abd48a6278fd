-- `aes::expand_key` meets its contract: the two halves of the key are its first two round keys.
-- Assumes nothing.
use Rattle.std.proofs.Common.{◌≡◌, ◌∙◌, ap, ap₂, [], ◌∷◌, length, arith}
use Rattle.octets.proofs.Lent.{over_zeros}
use Rattle.aes.specs.State.{State, state_from}
use Rattle.aes.specs.KeyExpansion.{extended}
use Rattle.aes.proofs.Words.{front_key, back_key, extended-schedule}
use Rattle.aes.proofs.expand_key.Goals as goal

pub returns : goal.returns
returns c =
    let key = c.args.key in
    let size : length key ≡ 32 = c.well_formed.0.1.0.1 in
    let half = c.split_at.ensures in
    let rest : length c.split_at.result.1.now ≡ 16 = omega (arith, half.back_len, size) in
    c.extend.ensures
    ∙ ap₂ (λ (k l : State). extended (k ∷ l ∷ []) 13)
    (c.load.ensures ∙ ap state_from (c.first.ensures ∙ over_zeros _ 16 half.front_len ∙ half.front) ∙ front_key key size)
    (c.load-2.ensures ∙ ap state_from (c.first-2.ensures ∙ over_zeros _ 16 rest ∙ half.back) ∙ back_key key size)
    ∙ extended-schedule key
