-- `aes_field::inv_sbox::inverse` meets its contract: undoing the affine map in the S-box gives the inverse.
-- Assumes nothing.
use Rattle.std.proofs.Common.{arith}
use Rattle.aes_field.proofs.Inverse.{unaffine-sbox}
use Rattle.aes_field.proofs.inv_sbox.inverse.Goals as goal

pub returns : goal.returns
returns c = rw (c.unaffine.ensures, c.sub.ensures) (unaffine-sbox c.args.a (omega arith))
