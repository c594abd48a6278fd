-- The S-box as a table of 256 entries (FIPS 197, section 5.1.1).
-- Assumes nothing.
use Rattle.std.specs.Prelude.{ℕ, List}
use Rattle.octets.specs.Values.{values}
use Rattle.aes_field.specs.Field.{sbox}

-- entry k is what the rule f gives at k
unfoldable pub table_of : (ℕ → ℕ) → List ℕ
table_of f = values f 0 256

abbrev pub sbox_table : List ℕ
sbox_table = table_of sbox
