-- What the block cipher promises to the crates above it, as statements; proofs/Laws.antt proves each.
-- Assumes nothing.
use Rattle.std.specs.Prelude.{◌≡◌, ℕ, true, List, length}
use Rattle.octets.specs.Bytes.{Bytes}
use Rattle.octets.specs.Lowest.{rises}
use Rattle.octets.specs.Unique.{Unique}
use Rattle.aes.specs.State.{State}
use Rattle.aes.specs.Cipher.{cipher}
use Rattle.aes.specs.KeyExpansion.{schedule}
use Rattle.aes.specs.InvCipher.{inv_cipher}
use Rattle.aes.specs.Calls.{key_size_lem, block_size, block_tests, encrypt_block, decrypt_block}

-- a block is 16 bytes, whatever the round keys and the block they came from
abbrev pub CipherLength : Type 0
CipherLength = (ks : List State) (b : List ℕ) → length (cipher ks b) ≡ block_size

abbrev pub InvCipherLength : Type 0
InvCipherLength = (ks : List State) (b : List ℕ) → length (inv_cipher ks b) ≡ block_size

-- bytes stay bytes
abbrev pub CipherBytes : Type 0
CipherBytes = (key b : List ℕ) → Bytes key → Bytes b → Bytes (cipher (schedule key) b)

abbrev pub InvCipherBytes : Type 0
InvCipherBytes = (key b : List ℕ) → Bytes key → Bytes b → Bytes (inv_cipher (schedule key) b)

-- each undoes the other, for every key of bytes and every block of 16
abbrev pub InvCipherUndoes : Type 0
InvCipherUndoes = (key b : List ℕ) → Bytes key → length b ≡ block_size → Bytes b → inv_cipher (schedule key) (cipher (schedule key) b) ≡ b

abbrev pub CipherUndoes : Type 0
CipherUndoes = (key b : List ℕ) → Bytes key → length b ≡ block_size → Bytes b → cipher (schedule key) (inv_cipher (schedule key) b) ≡ b

-- the calls: the numbers of their tests rise
abbrev pub BlockTestsRise : Type 0
BlockTestsRise = (key block : List ℕ) → rises (block_tests key block) ≡ true

-- with a key and a block of the right length the answer is 0, and the block is what the standard makes of it
abbrev pub EncryptBlockInRange : Type 0
EncryptBlockInRange = (key block : List ℕ) → length key ≡ key_size_lem → length block ≡ block_size → encrypt_block key block ≡ (0, cipher (schedule key) block)

abbrev pub DecryptBlockInRange : Type 0
DecryptBlockInRange = (key block : List ℕ) → length key ≡ key_size_lem → length block ≡ block_size → decrypt_block key block ≡ (0, inv_cipher (schedule key) block)

-- what one call made of a block, the other makes the block again
abbrev pub DecryptsEncrypted : Type 0
DecryptsEncrypted =
    (key block : List ℕ) → length key ≡ key_size_lem → Bytes key → length block ≡ block_size → Bytes block
    → decrypt_block key (encrypt_block key block).1 ≡ (0, block)

abbrev pub EncryptsDecrypted : Type 0
EncryptsDecrypted =
    (key block : List ℕ) → length key ≡ key_size_lem → Bytes key → length block ≡ block_size → Bytes block
    → encrypt_block key (decrypt_block key block).1 ≡ (0, block)

-- for each input one number and one block
abbrev pub EncryptBlockUnique : Type 0
EncryptBlockUnique = (key block : List ℕ) → Unique (encrypt_block key block)

abbrev pub DecryptBlockUnique : Type 0
DecryptBlockUnique = (key block : List ℕ) → Unique (decrypt_block key block)
