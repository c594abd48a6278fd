-- `aes_field::inv_sbox::inv_sub` meets its contract: after i turns the first i bytes are the inverse S-box's.
-- Assumes nothing.
use Rattle.std.proofs.Common.{◌≡◌, ◌∙◌, ap, ℕ, length, get_or, arith, slice_set}
use Rattle.aes_field.specs.Field.{inv_sbox}
use Rattle.aes_field.proofs.Tables.{mapped_turn}
use Rattle.aes_field.proofs.inv_sbox.inv_sub.Goals as goal

pub loop-a-preserved : goal.loop-a-preserved
unfolding inv_sbox
loop-a-preserved c =
    let l = c.loop-a in
    let sixteen : length c.args.b ≡ 16 = c.well_formed.0.1.0.1 in
    let byte : c.inverse.result ≡ inv_sbox (get_or l.a-items l.a-index 0) = rw (c.inverse.ensures, c.unaffine.ensures) in
    ap (λ (v : ℕ). slice_set l.a-items l.a-index v) byte ∙ mapped_turn inv_sbox c.args.b l.a-index (omega arith) l.invariant
