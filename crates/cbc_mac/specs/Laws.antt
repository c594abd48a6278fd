-- CBC-MAC, the chain of SP 800-38C's section 6.1, step 3, by tables and round keys that are lent. octets' specs/Blocks has the chain, and specs/Running
-- the chain over parts; the calls' contracts are aes_fast's `Ciphered` of these. What follows says of each that ready tables and keys make it the
-- cipher's, and that one result meets it. proofs/Laws.antt proves each.
-- Assumes nothing.
use Rattle.std.specs.Prelude.{◌≡◌, ℕ, ◌%◌, List}
use Rattle.octets.specs.Blocks.{IsBlock}
use Rattle.octets.specs.Bytes.{Bytes}
use Rattle.octets.specs.Running.{absorb, close}
use Rattle.octets.specs.Unique.{Unique}
use Rattle.aes.specs.State.{State}
use Rattle.aes.specs.Cipher.{cipher}
use Rattle.aes_fast.specs.ByTables.{Tables, cipher_by}
use Rattle.aes_fast.specs.Right.{Ready}

-- ---- with ready tables and keys

abbrev pub AbsorbReady : Type 0
AbsorbReady = (t : Tables) (ks : List State) (k : ℕ) (y s : List ℕ) → Ready t ks → IsBlock y → Bytes s
    → absorb (cipher_by t ks) k y s ≡ absorb (cipher ks) k y s

abbrev pub CloseReady : Type 0
CloseReady = (t : Tables) (ks : List State) (k : ℕ) (y : List ℕ) → Ready t ks → IsBlock y → close (cipher_by t ks) k y ≡ close (cipher ks) k y

-- ---- one result, whatever the tables

abbrev pub AbsorbUnique : Type 0
AbsorbUnique = (t : Tables) (ks : List State) (k : ℕ) (y part : List ℕ) → Unique (absorb (cipher_by t ks) (k % 16) y part)

abbrev pub CloseUnique : Type 0
CloseUnique = (t : Tables) (ks : List State) (k : ℕ) (y : List ℕ) → Unique (close (cipher_by t ks) (k % 16) y)
