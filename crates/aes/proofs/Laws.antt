-- The laws of specs/Laws.antt.
-- Assumes nothing.
use mathlib.Core.Path.{refl, ap}
use lib.ListN.{length}
use Rattle.octets.proofs.Unique.{unique}
use Rattle.aes.specs.Cipher.{cipher}
use Rattle.aes.specs.KeyExpansion.{schedule}
use Rattle.aes.specs.InvCipher.{inv_cipher}
use Rattle.aes.specs.Calls.{encrypt_block, decrypt_block}
use Rattle.aes.specs.Cipher.Inside.{cipher_is}
use Rattle.aes.specs.InvCipher.Inside.{inv_cipher_is}
use Rattle.aes.specs.Laws.{CipherLength, InvCipherLength, CipherBytes, InvCipherBytes, InvCipherUndoes, CipherUndoes, BlockTestsRise}
use Rattle.aes.specs.Laws.{EncryptBlockInRange, DecryptBlockInRange, DecryptsEncrypted, EncryptsDecrypted, EncryptBlockUnique, DecryptBlockUnique}
use Rattle.aes.proofs.Keys.{schedule_keys}
use Rattle.aes.proofs.Invert as invert
use Rattle.aes.proofs.Calls.{in_range}

pub cipher-length : CipherLength
cipher-length ks b = ap length (cipher_is ks b)

pub inv_cipher-length : InvCipherLength
inv_cipher-length ks b = ap length (inv_cipher_is ks b)

pub cipher_bytes : CipherBytes
cipher_bytes key b hk hb = invert.cipher_bytes (schedule key) (schedule_keys key hk) hb

pub inv_cipher_bytes : InvCipherBytes
inv_cipher_bytes key b hk hb = invert.inv_cipher_bytes (schedule key) (schedule_keys key hk) hb

pub inv_cipher-cipher : InvCipherUndoes
inv_cipher-cipher key b hk long hb = invert.inv_cipher-cipher (schedule key) (schedule_keys key hk) hb long

pub cipher-inv_cipher : CipherUndoes
cipher-inv_cipher key b hk long hb = invert.cipher-inv_cipher (schedule key) (schedule_keys key hk) hb long

-- ---- the calls

pub block_tests_rise : BlockTestsRise
block_tests_rise key block = refl

pub encrypts_in_range : EncryptBlockInRange
encrypts_in_range key block hk hb = in_range cipher key block hk hb (cipher-length (schedule key) block)

pub decrypts_in_range : DecryptBlockInRange
decrypts_in_range key block hk hb = in_range inv_cipher key block hk hb (inv_cipher-length (schedule key) block)

pub decrypts_encrypted : DecryptsEncrypted
decrypts_encrypted key block hk wk hb wb =
    rw (encrypts_in_range key block hk hb, decrypts_in_range key _ hk (cipher-length (schedule key) block), inv_cipher-cipher key block wk hb wb)

pub encrypts_decrypted : EncryptsDecrypted
encrypts_decrypted key block hk wk hb wb =
    rw (decrypts_in_range key block hk hb, encrypts_in_range key _ hk (inv_cipher-length (schedule key) block), cipher-inv_cipher key block wk hb wb)

pub encrypt_block_unique : EncryptBlockUnique
encrypt_block_unique key block = unique (encrypt_block key block)

pub decrypt_block_unique : DecryptBlockUnique
decrypt_block_unique key block = unique (decrypt_block key block)
