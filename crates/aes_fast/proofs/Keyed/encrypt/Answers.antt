-- `aes_fast::encrypt` meets its contract: by what each call ensures, and since its parameters hold bytes.
-- Assumes nothing.
use mathlib.Core.Path.{refl, ◌∙◌}
use Rattle.octets.proofs.Arrays.{array_bytes}
use Rattle.aes_fast.proofs.Steps.{cipher_by_read}
use Rattle.aes_fast.proofs.Cipher.{ciphered}
use Rattle.aes_fast.proofs.Keyed.encrypt.Goals as goal

pub returns : goal.returns
returns c =
    let a = c.args in
    ciphered _ _ (array_bytes 16 a.b _ c.well_formed.1.0)
    (c.from-3.ensures
    ∙ cipher_by_read a.self.tables.now a.self.keys.now c.from.result c.from-2.result c.add_halves.result c.rounds_after.result
    c.from.ensures c.from-2.ensures c.add_halves.ensures refl c.rounds_after.ensures)
