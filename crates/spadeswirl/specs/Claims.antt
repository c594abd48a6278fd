-- Document 01, "Proved together, as a single list with a single claim": its twelve lines, over the definitions that the contracts cite.
-- proofs/Claims.antt proves that each holds.
-- Assumes nothing.
use Rattle.std.specs.Prelude.{◌≡◌, true, List, [], ◌∷◌, ◌++◌, ℕ, ◌≤◌, length, take, get_or}
use Rattle.aes_field.specs.Field.{times, sbox}
use Rattle.modes.specs.Mode.{Mode}
use Rattle.modes.specs.Ccm.{ccm, first_block, data_blocks}
use Rattle.modes.specs.Gcm.{gcm, lengths_block}
use Rattle.keytable.specs.Table.{table_ok}
use Rattle.keytable.specs.Laws.{EmptyTable}
use Rattle.session.specs.Laws.{LastTwo, LastTwoHeld}
use Rattle.descriptors.specs.Laws.{LabelClaim}
use Rattle.modes.specs.Modes.{names_mode, mode_of}
use Rattle.record.specs.Record.{name_at, iv_at_lem, text_at_lem, tag_at, end_at, header}
use Rattle.record.specs.Open.{open_answer}

-- 1. "S-box of 00h is 63h, of 53h EDh."
abbrev pub SboxValues : Type 0
SboxValues = (sbox 0x00 ≡ 0x63) × (sbox 0x53 ≡ 0xed)

-- 2. "57h times 83h in the field is C1h."
abbrev pub Product : Type 0
Product = times 0x57 0x83 ≡ 0xc1

-- 3. "57h times 02h is AEh."
abbrev pub Doubled : Type 0
Doubled = times 0x57 0x02 ≡ 0xae

-- 4. "CCM flags 7Ah and 3Ah.": the first byte of the first block, with associated data and without
abbrev pub CcmFlags : Type 0
CcmFlags =
    (iv a : List ℕ) (n : ℕ)
    → (1 ≤ length a → get_or (first_block iv a n) 0 0 ≡ 0x7a)
    × (length a ≡ 0 → get_or (first_block iv a n) 0 0 ≡ 0x3a)

-- 5. "300 bytes of associated data begin 01 2C.": the first of the blocks that carry them
abbrev pub DataLength : Type 0
DataLength = (a : List ℕ) → length a ≡ 300 → take 2 (get_or (data_blocks a) 0 []) ≡ 0x01 ∷ 0x2c ∷ []

-- 6. "GCM lengths for 25 and 3 bytes: 200 and 24 bits.": 64 bits each
abbrev pub GcmLengths : Type 0
GcmLengths =
    (a c : List ℕ) → length a ≡ 25 → length c ≡ 3
    → lengths_block a c ≡ 0 ∷ 0 ∷ 0 ∷ 0 ∷ 0 ∷ 0 ∷ 0 ∷ 200 ∷ 0 ∷ 0 ∷ 0 ∷ 0 ∷ 0 ∷ 0 ∷ 0 ∷ 24 ∷ []

-- the offsets of a record's name, IV, ciphertext and tag, and its total
abbrev pub places : Mode → ℕ → ℕ → List ℕ
places m k n = name_at ∷ iv_at_lem k ∷ text_at_lem m k ∷ tag_at m k n ∷ end_at m k n ∷ []

-- in both modes
abbrev pub PlacesAre : ℕ → ℕ → List ℕ → Type 0
PlacesAre k n s = (places ccm k n ≡ s) × (places gcm k n ≡ s)

-- 7. "k=1, n=0: offsets 24, 25, 37, 37; total 53."
abbrev pub LeastRecord : Type 0
LeastRecord = PlacesAre 1 0 (24 ∷ 25 ∷ 37 ∷ 37 ∷ 53 ∷ [])

-- 8. "k=32, n=1,048,576: offsets 24, 56, 68, 1,048,644; total 1,048,660."
abbrev pub GreatestRecord : Type 0
GreatestRecord = PlacesAre 32 1048576 (24 ∷ 56 ∷ 68 ∷ 1048644 ∷ 1048660 ∷ [])

-- 9. "Empty table: 00 01 00 00 00 08 00 48." is keytable's `EmptyTable`: these bytes are accepted, and have no row.

-- 10. "Session start 2^64-2: two IVs, then 10.": by value, and where the caller holds the session
abbrev pub SessionEnd : Type 0
SessionEnd = LastTwo × LastTwoHeld

-- 11. "n=1,048,577 with matching offsets and total: 4.": opening any record of that header and total, in either mode, changes nothing and gives 4
abbrev pub OneByteMore : Type 0
OneByteMore =
    (t rest a out : List ℕ) (count u k : ℕ) → table_ok t ≡ true → names_mode u ≡ true → 1 ≤ k → k ≤ 32
    → length (header u k 1048577 ++ rest) ≡ end_at (mode_of u) k 1048577
    → open_answer t (header u k 1048577 ++ rest) a out count ≡ ((4, out), count)

-- 12. "Label of 2 zero bytes alone: 2. With four empty descriptors 00h, 01h, 03h, 04h (18 bytes): 0." is descriptors' `LabelClaim`.

-- the list, and that each statement of a list holds
abbrev pub claims : List (Type 0)
claims =
    SboxValues
    ∷ Product
    ∷ Doubled
    ∷ CcmFlags
    ∷ DataLength
    ∷ GcmLengths
    ∷ LeastRecord
    ∷ GreatestRecord
    ∷ EmptyTable
    ∷ SessionEnd
    ∷ OneByteMore
    ∷ LabelClaim
    ∷ []

abbrev pub EachHolds : List (Type 0) → Type 0
EachHolds [] = Unit
EachHolds (claim ∷ rest) = claim × EachHolds rest
