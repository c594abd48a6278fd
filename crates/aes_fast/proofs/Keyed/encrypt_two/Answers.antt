-- `Keyed::encrypt_two` meets its contract: each block goes its own way, and the parameters hold bytes.
-- Assumes nothing.
use Rattle.octets.proofs.Arrays.{array_bytes}
use Rattle.aes_fast.proofs.Steps.{cipher_by_read}
use Rattle.aes_fast.proofs.Cipher.{ciphered}
use Rattle.aes_fast.proofs.Keyed.encrypt_two.Goals as goal

pub returns : goal.returns
returns c =
    let a = c.args in
    let t = a.self.tables.now in
    let ks = a.self.keys.now in
    let k = c.from-key.result in
    let both = c.rounds_after_two in (
      ciphered _ _ (array_bytes 16 a.b _ c.well_formed.1.0)
          (cipher_by_read t ks c.from.result k c.add_halves.result both.result.one
          c.from.ensures c.from-key.ensures c.add_halves.ensures c.from-one.ensures both.ensures.one_value),
      ciphered _ _ (array_bytes 16 a.c _ c.well_formed.1.1.0)
          (cipher_by_read t ks c.from-2.result k c.add_halves-2.result both.result.other
          c.from-2.ensures c.from-key.ensures c.add_halves-2.ensures c.from-other.ensures both.ensures.other_value),
    )
