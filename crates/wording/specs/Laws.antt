-- What reading and writing text promise, as statements; proofs/Laws.antt proves each.
-- Assumes nothing.
use Rattle.std.specs.Prelude.{◌≡◌, ℕ, ◌+◌, ◌-◌, ◌*◌, ◌≤◌, ◌<◌, Bool, true, List, length, get_or, Ok, Err}
use Rattle.octets.specs.Bytes.{Bytes}
use Rattle.octets.specs.Lent.{over}
use Rattle.octets.specs.Lowest.{rises}
use Rattle.octets.specs.Tests.{all, part_of}
use Rattle.octets.specs.Unique.{Unique}
use Rattle.wording.specs.Decimal.{is_decimal_digit, decimal_digit, decimal, value_of}
use Rattle.wording.specs.Hex.{digits_of, hex_read_tests, hex_read}
use Rattle.wording.specs.Lines.{line, together}
use Rattle.wording.specs.Writing.{nowhere, put_at, put_all, Place, Answer, writer_put, writer_puts}

-- ---- decimal digits: read back they are the number, each is a digit, and no zero stands before others

abbrev pub DecimalReads : Type 0
DecimalReads = (n : ℕ) → value_of (decimal n) ≡ n

abbrev pub DecimalDigits : Type 0
DecimalDigits = (n : ℕ) → all is_decimal_digit (decimal n) ≡ true

abbrev pub NoZeroBefore : Type 0
NoZeroBefore = (n : ℕ) → get_or (decimal n) 0 0 ≡ decimal_digit 0 → n ≡ 0

-- so what stands between a line's word with its space and its newline reads back as its number
abbrev pub LineReads : Type 0
LineReads = (word : List ℕ) (n : ℕ) → value_of (part_of (line word n) (length word + 1) (length (line word n) - (length word + 2))) ≡ n

-- ---- hexadecimal digits

-- two digits for each byte
abbrev pub DigitsLength : Type 0
DigitsLength = (capital : Bool) (s : List ℕ) → length (digits_of capital s) ≡ 2 * length s

-- there and back: reading the digits that were written for a string, in either letters, gives the string
abbrev pub ThereAndBack : Type 0
ThereAndBack = (capital : Bool) (s out : List ℕ) → Bytes s → length s ≤ length out → hex_read (digits_of capital s) out ≡ (0, over s out)

-- the numbers of reading rise
abbrev pub ReadTestsRise : Type 0
ReadTestsRise = (word out : List ℕ) → rises (hex_read_tests word out) ≡ true

-- for each input one number and one state of the output
abbrev pub ReadUnique : Type 0
ReadUnique = (word out : List ℕ) → Unique (hex_read word out)

-- ---- writing

-- past the end all stays as it is
abbrev pub NowhereStays : Type 0
NowhereStays = (s room : List ℕ) → length room < nowhere → put_at nowhere s room ≡ (nowhere, room)

-- so the last answer of texts put one after the other is that of all of them put at once
abbrev pub LastTells : Type 0
LastTells =
    (ss : List (List ℕ)) (at : ℕ) (room : List ℕ) → at ≤ length room → length room < nowhere → (put_all at ss room).0 ≡ (put_at at (together ss) room).0

-- what a writer answers to a text is what `put_at` says: the place after it, or that there is none
abbrev pub put_said : Answer → Place
put_said (Ok u, w) = w
put_said (Err e, w) = (nowhere, w.1)

abbrev pub WriterSays : Type 0
WriterSays = (s : List ℕ) (at : ℕ) (room : List ℕ) → put_said (writer_put s (at, room)) ≡ put_at at s room

-- texts put one after the other, up to the first that does not fit, are all of them put at once, or refused with what fits of them
abbrev pub WriterTells : Type 0
WriterTells = (ss : List (List ℕ)) (at : ℕ) (room : List ℕ) → at ≤ length room → (writer_puts ss (at, room)).0 ≡ (writer_put (together ss) (at, room)).0

-- for each text, place and room one answer, one place and one state of the room
abbrev pub WriterUnique : Type 0
WriterUnique = (s : List ℕ) (w : Place) → Unique (writer_put s w)

abbrev pub PutUnique : Type 0
PutUnique = (at : ℕ) (s room : List ℕ) → Unique (put_at at s room)
