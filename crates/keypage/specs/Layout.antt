-- Where a key page has its words and its fields (document 01, "Key page"; source document 002, table 141; bit places of SSC-3). Reading takes each from its
-- place here, and writing puts it there.
-- Assumes nothing.
use Rattle.std.specs.Prelude.{ℕ, ◌+◌, ◌-◌, ◌/◌, ◌%◌, ◌^◌, List, [], ◌∷◌, get_or}

-- "0-1 page code 0010h; 2-3 PAGE LENGTH, the total less 4"
abbrev pub code_at : ℕ
code_at = 0

abbrev pub page_code : ℕ
page_code = 0x0010

abbrev pub page_length_at : ℕ
page_length_at = 2

abbrev pub before_length : ℕ
before_length = 4

-- "10-17 zero; 18-19 KEY LENGTH; from 20 KEY; then a descriptor list to the end"
abbrev pub zeros_at : ℕ
zeros_at = 10

abbrev pub zeros_count : ℕ
zeros_count = 8

abbrev pub key_length_at : ℕ
key_length_at = 18

abbrev pub key_part_at : ℕ
key_part_at = 20

-- "Page or label at most 4,096 bytes"
abbrev pub page_max : ℕ
page_max = 4096

-- ---- the fields: some bits of a byte, from an upper one to a lower one; bit 0 counts one

pub record Bits : Type 0 where
  pub in_byte : ℕ
  pub upper : ℕ
  pub lower : ℕ

abbrev bits_from : ℕ → ℕ → ℕ → Bits
bits_from i high low = record { in_byte = i; upper = high; lower = low }

-- what one of the field counts in its byte, and how many values its bits have
abbrev pub weight : Bits → ℕ
weight b = 2 ^ b.lower

abbrev pub span : Bits → ℕ
span b = 2 ^ (b.upper + 1 - b.lower)

-- what a page has there
abbrev pub bits_in : List ℕ → Bits → ℕ
bits_in p b = get_or p b.in_byte 0 / weight b % span b

-- "4 SCOPE (bits 7-5), zeros (4-1), LOCK (0)"
abbrev pub scope_bits : Bits
scope_bits = bits_from 4 7 5

abbrev pub zero_bits : Bits
zero_bits = bits_from 4 4 1

abbrev pub lock_bits : Bits
lock_bits = bits_from 4 0 0

-- "5 CEEM (7-6), RDMC (5-4), SDK, CKOD, CKORP, CKORL"
abbrev pub ceem_bits : Bits
ceem_bits = bits_from 5 7 6

abbrev pub rdmc_bits : Bits
rdmc_bits = bits_from 5 5 4

abbrev pub sdk_bits : Bits
sdk_bits = bits_from 5 3 3

abbrev pub ckod_bits : Bits
ckod_bits = bits_from 5 2 2

abbrev pub ckorp_bits : Bits
ckorp_bits = bits_from 5 1 1

abbrev pub ckorl_bits : Bits
ckorl_bits = bits_from 5 0 0

-- "6 ENCRYPTION MODE; 7 DECRYPTION MODE; 8 ALGORITHM INDEX ..; 9 KEY FORMAT"
abbrev pub encryption_bits : Bits
encryption_bits = bits_from 6 7 0

abbrev pub decryption_bits : Bits
decryption_bits = bits_from 7 7 0

abbrev pub algorithm_bits : Bits
algorithm_bits = bits_from 8 7 0

abbrev pub format_bits : Bits
format_bits = bits_from 9 7 0

-- the fields that are a writer's to choose, in the order of the C interface: scope to key format
abbrev pub chosen_bits : List Bits
chosen_bits =
    scope_bits
    ∷ lock_bits
    ∷ ceem_bits
    ∷ rdmc_bits
    ∷ sdk_bits
    ∷ ckod_bits
    ∷ ckorp_bits
    ∷ ckorl_bits
    ∷ encryption_bits
    ∷ decryption_bits
    ∷ algorithm_bits
    ∷ format_bits
    ∷ []
