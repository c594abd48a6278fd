-- CCM: SP 800-38C, section 6 with the formatting of appendix A, at a tag of t = 16 bytes and a length field of q = 3 bytes.
-- Assumes nothing.
use Rattle.std.specs.Prelude.{ℕ, ◌+◌, ◌-◌, ◌*◌, ◌/◌, Bool, true, not, List, [], ◌∷◌, ◌++◌, eqb, length}
use Rattle.octets.specs.BigEndian.{be}
use Rattle.octets.specs.Xor.{xors}
use Rattle.octets.specs.Same.{same}
use Rattle.octets.specs.Lent.{when}
use Rattle.octets.specs.Blocks.{cut, chain}
use Rattle.aes.specs.Cipher.{cipher}
use Rattle.aes.specs.KeyExpansion.{schedule}
use Rattle.aes.specs.Calls.{key_size_lem}
use Rattle.modes.specs.Mode.{Mode}
use Rattle.modes.specs.Calls.{opened_answer}
use Rattle.modes.specs.Counter.{counter_block, ctr}

-- t and q
abbrev pub tag_size : ℕ
tag_size = 16

abbrev pub length_size : ℕ
length_size = 3

abbrev pub has_data : List ℕ → Bool
has_data a = not (eqb (length a) 0)

-- A.2.1, table 1: the flags of the first block: 64 with associated data, (t - 2) / 2 in bits 5 to 3, q - 1 in bits 2 to 0
abbrev pub flags : Bool → ℕ
flags withData = 64 * when withData 1 0 + 8 * ((tag_size - 2) / 2) + (length_size - 1)

-- A.2.1, table 2: B0 is the flags, the nonce and the length of the payload
unfoldable pub first_block : List ℕ → List ℕ → ℕ → List ℕ
first_block iv a n = flags (has_data a) ∷ (iv ++ be length_size n)

-- A.2.2: associated data of 1 to 65,279 bytes has its length in two bytes before it; zeros fill the last block
unfoldable pub data_blocks : List ℕ → List (List ℕ)
data_blocks a = when (has_data a) (cut (be 2 (length a) ++ a)) []

-- 6.1, steps 2 to 4, up to a payload of n bytes: Y0 is the cipher of B0, and each block of the data is chained to it
abbrev pub chain_start : (List ℕ → List ℕ) → List ℕ → List ℕ → ℕ → List ℕ
chain_start f iv a n = chain f (f (first_block iv a n)) (data_blocks a)

-- A.2.3 fills the payload likewise, and its blocks are chained after those
unfoldable pub mac : (List ℕ → List ℕ) → List ℕ → List ℕ → List ℕ → List ℕ
mac f iv a p = chain f (f (first_block iv a (length p))) (data_blocks a ++ cut p)

-- A.3: the counter blocks: the flags q - 1, the nonce and the counter
abbrev pub counter_front : List ℕ → List ℕ
counter_front iv = (length_size - 1) ∷ iv

-- 6.1, steps 5 to 7: S0
abbrev pub first_pad : (List ℕ → List ℕ) → List ℕ → List ℕ
first_pad f iv = f (counter_block length_size (counter_front iv) 0)

-- 6.1, step 8: the payload with S1, S2, ..; and the tag with S0. 6.2, step 5: the same gives the payload back.
unfoldable pub ccm_text : (List ℕ → List ℕ) → List ℕ → List ℕ → List ℕ
ccm_text f iv s = ctr f length_size (counter_front iv) 1 s

unfoldable pub ccm_tag : (List ℕ → List ℕ) → List ℕ → List ℕ → List ℕ → List ℕ
ccm_tag f iv a p = xors (mac f iv a p) (first_pad f iv)

-- 6.2, steps 6 to 10: the tag with S0 is the chain's last state over the payload that the ciphertext gives
unfoldable pub ccm_tag_right : (List ℕ → List ℕ) → List ℕ → List ℕ → List ℕ → List ℕ → Bool
ccm_tag_right f iv a c t = same (xors t (first_pad f iv)) (mac f iv a (ccm_text f iv c))

-- 6.1, step 8, and 6.2, steps 5 to 10: what sealing makes, and the number that the tag decides with the output after it
abbrev pub ccm_sealed : (List ℕ → List ℕ) → List ℕ → List ℕ → List ℕ → List ℕ
ccm_sealed f iv a p = ccm_text f iv p ++ ccm_tag f iv a p

abbrev pub ccm_opened : (List ℕ → List ℕ) → List ℕ → List ℕ → List ℕ → List ℕ → List ℕ → ℕ × List ℕ
ccm_opened f iv a c t out = opened_answer (ccm_tag_right f iv a c t) (ccm_text f iv c) out

abbrev pub ccm : Mode
ccm =
    record {
      key_size_lem = key_size_lem;
      iv_size = 12;
      tag_size = tag_size;
      permits = λ n. true;
      ciphertext = λ key. ccm_text (cipher (schedule key));
      tag = λ key. ccm_tag (cipher (schedule key));
      authentic = λ key. ccm_tag_right (cipher (schedule key));
      plaintext = λ key. ccm_text (cipher (schedule key));
    }
