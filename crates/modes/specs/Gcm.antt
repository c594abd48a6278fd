-- GCM: SP 800-38D, sections 6 and 7, at a 96-bit IV and a tag of 16 bytes.
-- Assumes nothing.
use Rattle.std.specs.Prelude.{ℕ, zero, suc, ◌+◌, ◌*◌, ◌%◌, ◌^◌, Bool, true, List, [], ◌∷◌, ◌++◌, length, take, drop, replicate}
use Rattle.octets.specs.BigEndian.{be, number}
use Rattle.octets.specs.Xor.{xors}
use Rattle.octets.specs.Same.{same}
use Rattle.octets.specs.Blocks.{blocks}
use Rattle.aes.specs.Cipher.{cipher}
use Rattle.aes.specs.KeyExpansion.{schedule}
use Rattle.aes.specs.Calls.{key_size_lem}
use Rattle.ghash.specs.Ghash.{ghash_parts}
use Rattle.modes.specs.Mode.{Mode}
use Rattle.modes.specs.Calls.{opened_answer}
use Rattle.modes.specs.Counter.{stream}

-- 6.2: the last 32 bits count on, modulo 2^32
unfoldable pub inc32 : List ℕ → List ℕ
inc32 x = take 12 x ++ be 4 ((number (drop 12 x) + 1) % 2 ^ 32)

-- 6.5, step 5: CB1, CB2, .., n of them
abbrev pub counter_blocks : List ℕ → ℕ → List (List ℕ)
counter_blocks cb zero = []
counter_blocks cb (suc n) = cb ∷ counter_blocks (inc32 cb) n

-- 6.5: GCTR
unfoldable pub gctr : (List ℕ → List ℕ) → List ℕ → List ℕ → List ℕ
gctr f icb x = xors x (stream f (counter_blocks icb (blocks (length x))))

-- 7.1, step 1: the hash subkey
abbrev pub hash_key : (List ℕ → List ℕ) → List ℕ
hash_key f = f (replicate 16 0)

-- 7.1, step 2: J0 of a 96-bit IV
abbrev pub pre_counter : List ℕ → List ℕ
pre_counter iv = iv ++ be 4 1

-- 7.1, step 3; and 7.2, step 4
unfoldable pub gcm_text : (List ℕ → List ℕ) → List ℕ → List ℕ → List ℕ
gcm_text f iv s = gctr f (inc32 (pre_counter iv)) s

-- 7.1, step 5: both lengths in bits, 64 bits each
abbrev pub lengths_block : List ℕ → List ℕ → List ℕ
lengths_block a c = be 8 (8 * length a) ++ be 8 (8 * length c)

-- 7.1, steps 4 to 6: of the ciphertext c
unfoldable pub gcm_tag : (List ℕ → List ℕ) → List ℕ → List ℕ → List ℕ → List ℕ
gcm_tag f iv a c = gctr f (pre_counter iv) (ghash_parts (hash_key f) a c (lengths_block a c))

-- 7.2, step 8
unfoldable pub gcm_tag_right : (List ℕ → List ℕ) → List ℕ → List ℕ → List ℕ → List ℕ → Bool
gcm_tag_right f iv a c t = same t (gcm_tag f iv a c)

-- 7.1, step 7, and 7.2, step 8: what sealing makes, and the number that the tag decides with the output after it
abbrev pub gcm_sealed : (List ℕ → List ℕ) → List ℕ → List ℕ → List ℕ → List ℕ
gcm_sealed f iv a p = gcm_text f iv p ++ gcm_tag f iv a (gcm_text f iv p)

abbrev pub gcm_opened : (List ℕ → List ℕ) → List ℕ → List ℕ → List ℕ → List ℕ → List ℕ → ℕ × List ℕ
gcm_opened f iv a c t out = opened_answer (gcm_tag_right f iv a c t) (gcm_text f iv c) out

abbrev pub gcm : Mode
gcm =
    record {
      key_size_lem = key_size_lem;
      iv_size = 12;
      tag_size = 16;
      permits = λ n. true;
      ciphertext = λ key. gcm_text (cipher (schedule key));
      tag = λ key iv a p. gcm_tag (cipher (schedule key)) iv a (gcm_text (cipher (schedule key)) iv p);
      authentic = λ key. gcm_tag_right (cipher (schedule key));
      plaintext = λ key. gcm_text (cipher (schedule key));
    }
