-- The block cipher over lent bytes (document 01, "Ciphers"): a lent key has 32 bytes and a lent block 16, else 2.
-- Assumes nothing.
use Rattle.std.specs.Prelude.{ℕ, Bool, ◌||◌, List, [], ◌∷◌}
use Rattle.octets.specs.Lent.{Tests, is_not, lowest, answer}
use Rattle.aes.specs.State.{State}
use Rattle.aes.specs.Cipher.{cipher}
use Rattle.aes.specs.KeyExpansion.{schedule}
use Rattle.aes.specs.InvCipher.{inv_cipher}

abbrev pub key_size_lem : ℕ
key_size_lem = 32

abbrev pub block_size : ℕ
block_size = 16

abbrev pub wrong_lengths : List ℕ → List ℕ → Bool
wrong_lengths key block = is_not key_size_lem key || is_not block_size block

abbrev pub block_tests : List ℕ → List ℕ → Tests
block_tests key block = (2, wrong_lengths key block) ∷ []

unfoldable pub block_number : List ℕ → List ℕ → ℕ
block_number key block = lowest (block_tests key block)

-- the number, and the block after it: what f makes of it under the key's schedule, or the block as it was
unfoldable pub block_answer : (List State → List ℕ → List ℕ) → List ℕ → List ℕ → ℕ × List ℕ
block_answer f key block = answer (block_number key block) (f (schedule key) block) block

abbrev pub encrypt_block : List ℕ → List ℕ → ℕ × List ℕ
encrypt_block = block_answer cipher

abbrev pub decrypt_block : List ℕ → List ℕ → ℕ × List ℕ
decrypt_block = block_answer inv_cipher
