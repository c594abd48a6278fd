-- What a word of a line stands for: a byte string in hexadecimal digits, `-` for the empty one, or a room in decimal digits (tests/vectors/README.md).
-- Assumes nothing.
use Rattle.std.specs.Prelude.{ℕ, ◌*◌, Bool, ◌&&◌, ◌||◌, List, [], leb, length, replicate}
use Rattle.octets.specs.Lent.{when}
use Rattle.octets.specs.Same.{same}
use Rattle.octets.specs.Tests.{all}
use Rattle.wording.specs.Ascii.{ascii}
use Rattle.wording.specs.Decimal.{is_decimal_digit, value_of}
use Rattle.wording.specs.Hex.{is_hex, hex_bytes}

-- the most bytes of a string, and of a room: a plaintext of 4,352 and its tag
abbrev pub word_max : ℕ
word_max = 4368

-- ---- a string

abbrev pub is_dash : List ℕ → Bool
is_dash w = same w (ascii "-")

unfoldable pub is_bytes : List ℕ → Bool
is_bytes w = is_dash w || (is_hex w && leb (length w) (2 * word_max))

unfoldable pub bytes_in : List ℕ → List ℕ
bytes_in w = when (is_dash w) [] (hex_bytes w)

-- ---- what a call is lent: the block that the word is, or a room full of A5h

unfoldable pub is_room : List ℕ → Bool
is_room w = all is_decimal_digit w && leb (value_of w) word_max

unfoldable pub lent_room : ℕ → List ℕ
lent_room n = replicate n 0xA5

abbrev pub is_lent : Bool → List ℕ → Bool
is_lent block w = when block (is_bytes w) (is_room w)

abbrev pub lent_in : Bool → List ℕ → List ℕ
lent_in block w = when block (bytes_in w) (lent_room (value_of w))
