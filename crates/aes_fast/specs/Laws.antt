-- What a call of the fast way says, and what it promises to the crates above it, as statements; proofs/Laws.antt proves each.
-- Assumes nothing.
use Rattle.std.specs.Prelude.{◌≡◌, ℕ, ◌+◌, ◌^◌, ◌≤◌, ◌<◌, List, length}
use Rattle.octets.specs.Bytes.{Bytes}
use Rattle.octets.specs.Tests.{part_of}
use Rattle.octets.specs.Unique.{Unique}
use Rattle.aes.specs.State.{State}
use Rattle.aes.specs.Cipher.{cipher}
use Rattle.aes.specs.KeyExpansion.{schedule}
use Rattle.aes_fast.specs.ByTables.{Tables, cipher_by}
use Rattle.aes_fast.specs.Right.{round_tables, Right, Ready}
use Rattle.aes_fast.specs.Halves.{halves_block, block_at}
use Rattle.aes_fast.specs.Start.{with_last, start_by, cipher_from}
use Rattle.aes_fast.specs.declared.halves.Halves.{Halves}

-- r is what `make` makes with the block cipher: by the lent tables and round keys, whatever they are, and so by FIPS 197 where the tables are the right
-- ones and the keys are bytes
pub record Ciphered (t : Tables) (ks : List State) (make : (List ℕ → List ℕ) → List ℕ) (r : List ℕ) : Type 0 where
  pub by-tables : r ≡ make (cipher_by t ks)
  pub by-cipher : Ready t ks → r ≡ make (cipher ks)

-- the tables that are made, and the schedule of a key, are ready
abbrev pub MadeReady : Type 0
MadeReady = (t : Tables) (ks : List State) (key : List ℕ) → t ≡ round_tables → ks ≡ schedule key → Bytes key → Ready t ks

-- with right tables it is the cipher, under the schedule of any key of bytes
abbrev pub CipherByRight : Type 0
CipherByRight = (t : Tables) (key b : List ℕ) → Right t → Bytes key → Bytes b → cipher_by t (schedule key) b ≡ cipher (schedule key) b

-- one result meets a call's statement, by `by-tables` alone and so whatever the tables
abbrev pub CipheredUnique : Type 0
CipheredUnique = (t : Tables) (ks : List State) (make : (List ℕ → List ℕ) → List ℕ) → Unique (make (cipher_by t ks))

-- a block is 16 bytes, whatever the tables and the round keys, and bytes under round keys of bytes
abbrev pub CipherByLength : Type 0
CipherByLength = (t : Tables) (ks : List State) (b : List ℕ) → length (cipher_by t ks b) ≡ 16

abbrev pub ReadyBytes : Type 0
ReadyBytes = (t : Tables) (ks : List State) (b : List ℕ) → Ready t ks → Bytes (cipher_by t ks b)

-- with ready tables and keys it is the cipher
abbrev pub ReadyCipher : Type 0
ReadyCipher = (t : Tables) (ks : List State) (b : List ℕ) → Ready t ks → Bytes b → length b ≡ 16 → cipher_by t ks b ≡ cipher ks b

-- and from what blocks share it is the cipher of the block with that last byte
abbrev pub FromStart : Type 0
FromStart = (t : Tables) (ks : List State) (b : List ℕ) (low : ℕ) → Ready t ks → Bytes b → length b ≡ 16 → low < 256
    → cipher_from t ks (start_by t ks b) low ≡ cipher ks (with_last b low)

-- ---- blocks in two words

abbrev pub HalvesLength : Type 0
HalvesLength = (h : Halves) → length (halves_block h) ≡ 16

abbrev pub HalvesBytes : Type 0
HalvesBytes = (h : Halves) → Bytes (halves_block h)

-- the block where one lies in the string
abbrev pub BlockAtWhole : Type 0
BlockAtWhole = (s : List ℕ) (i : ℕ) → i + 16 ≤ length s → block_at s i ≡ part_of s i 16

-- one block is one pair of words of 64 bits, as a call's result is
abbrev pub HalvesUnique : Type 0
HalvesUnique = (g h : Halves) → g.first < 2 ^ 64 → g.second < 2 ^ 64 → h.first < 2 ^ 64 → h.second < 2 ^ 64 → halves_block g ≡ halves_block h → g ≡ h
