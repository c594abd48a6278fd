-- The laws of specs/Laws.antt.
-- Assumes nothing.
use mathlib.Core.Path.{refl, ◌∙◌}
use native.Mathlib.Omega.{arith}
use borrow.Author.Tests.{ne_eqb}
use Rattle.aes_field.specs.Field.{xtime, times, inverse}
use Rattle.aes_field.specs.Laws.{SboxTable, InverseIs, InverseOfZero, UnaffineUndoes, AffineUndoes, InvSboxUndoes, SboxUndoes, InverseBySbox, SboxBytes, InvSboxBytes, InvMixUndoes, MixUndoes}
use Rattle.aes_field.proofs.Tables as tables
use Rattle.aes_field.proofs.Inverse as inverses
use Rattle.aes_field.proofs.Unmix as matrices

pub sbox_table_is : SboxTable
sbox_table_is = tables.sbox_table_is

pub inverse_is : InverseIs
inverse_is a above h = inverses.inverse_is a h ∙ rw (ne_eqb a 0 (λ e. omega arith))

pub inverse_of-zero : InverseOfZero
unfolding inverse times xtime
inverse_of-zero = refl

pub unaffine-affine : UnaffineUndoes
unaffine-affine = inverses.unaffine-affine

pub affine-unaffine : AffineUndoes
affine-unaffine = inverses.affine-unaffine

pub inv_sbox-sbox : InvSboxUndoes
inv_sbox-sbox = inverses.inv_sbox-sbox

pub sbox-inv_sbox : SboxUndoes
sbox-inv_sbox = inverses.sbox-inv_sbox

pub unaffine-sbox : InverseBySbox
unaffine-sbox = inverses.unaffine-sbox

pub sbox_byte : SboxBytes
sbox_byte = inverses.sbox_byte

pub inv_sbox_byte : InvSboxBytes
inv_sbox_byte = inverses.inv_sbox_byte

pub inv_mix_mix : InvMixUndoes
inv_mix_mix = matrices.inv_mix_mix

pub mix_inv_mix : MixUndoes
mix_inv_mix = matrices.mix_inv_mix
