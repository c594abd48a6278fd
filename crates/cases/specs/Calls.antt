-- The calls that a line can name (tests/vectors/README.md), and what each gives by the unit's own definitions.
-- Assumes nothing.
use Rattle.std.specs.Prelude.{ℕ, zero, suc, Bool, true, false, List, [], ◌∷◌, eqb}
use Rattle.octets.specs.Lent.{when}
use Rattle.octets.specs.Same.{same}
use Rattle.wording.specs.Ascii.{ascii}
use Rattle.aes.specs.Calls.{encrypt_block, decrypt_block}
use Rattle.modes.specs.Modes.{mode_of}
use Rattle.modes.specs.Calls.{encrypt_answer, decrypt_answer}
use Rattle.keywrap.specs.Calls.{wrap_answer, unwrap_answer}

-- the number, and what was lent as it is after the call, by up to five strings and what is lent
abbrev pub Gives : Type 0
Gives = (a b c d e lent : List ℕ) → ℕ × List ℕ

-- a call's name, how many strings it takes before what it is lent, whether that is a block, and what it gives
pub record Call : Type 0 where
  pub name : List ℕ
  pub strings : ℕ
  pub block : Bool
  pub gives : Gives

abbrev pub called : List ℕ → ℕ → Bool → Gives → Call
called n s b g = record { name = n; strings = s; block = b; gives = g }

-- a block that many times over, each output the next input, up to the first refusal
unfoldable pub repeated : (List ℕ → List ℕ → ℕ × List ℕ) → ℕ → List ℕ → List ℕ → ℕ × List ℕ
repeated f zero key block = (0, block)
repeated f (suc n) key block = when (eqb (f key block).0 0) (repeated f n key (f key block).1) (f key block)

-- the Monte Carlo test (tests/vectors/README.md)
abbrev pub block_rounds : ℕ
block_rounds = 1000

-- a mode by the byte that names it, 1 CCM and 2 GCM; the second part of its associated data is empty
abbrev pub encrypt_by : ℕ → Gives
encrypt_by u key iv aad plain _ lent = encrypt_answer (mode_of u) key iv aad [] plain lent

abbrev pub decrypt_by : ℕ → Gives
decrypt_by u key iv aad text tag lent = decrypt_answer (mode_of u) key iv aad [] text tag lent

abbrev pub calls : List Call
calls =
    called (ascii "aes256_encrypt") 1 true (λ key _ _ _ _ block. encrypt_block key block)
    ∷ called (ascii "aes256_decrypt") 1 true (λ key _ _ _ _ block. decrypt_block key block)
    ∷ called (ascii "aes256_encrypt_1000") 1 true (λ key _ _ _ _ block. repeated encrypt_block block_rounds key block)
    ∷ called (ascii "aes256_decrypt_1000") 1 true (λ key _ _ _ _ block. repeated decrypt_block block_rounds key block)
    ∷ called (ascii "ccm_encrypt") 4 false (encrypt_by 1)
    ∷ called (ascii "gcm_encrypt") 4 false (encrypt_by 2)
    ∷ called (ascii "ccm_decrypt") 5 false (decrypt_by 1)
    ∷ called (ascii "gcm_decrypt") 5 false (decrypt_by 2)
    ∷ called (ascii "wrap") 2 false (λ kek key _ _ _ lent. wrap_answer kek key lent)
    ∷ called (ascii "unwrap") 2 false (λ kek wrapped _ _ _ lent. unwrap_answer kek wrapped lent)
    ∷ []

abbrev pub call_count : ℕ
call_count = 10

-- for a number that is none of theirs
abbrev pub no_call : Call
no_call = called [] 0 false (λ _ _ _ _ _ lent. (0, lent))

-- the number of the call of that name, from 0: `call_count` where it is none's
unfoldable pub call_named : List ℕ → List Call → ℕ
call_named n [] = 0
call_named n (c ∷ cs) = when (same c.name n) 0 (suc (call_named n cs))
