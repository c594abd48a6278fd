-- A help of the code, on which no definition of another file leans: a mark for each row, by which the check for two rows of one type and name passes over
-- most. All that matters of it is that the bytes in which a name stands decide it.
-- Assumes nothing.
use Rattle.std.specs.Prelude.{ℕ, ◌+◌, ◌-◌, ◌*◌, ◌/◌, ◌%◌, ◌^◌, Bool, List, drop, eqb, get_or}
use Rattle.std.specs.Int.Bits.{bit_or, bit_xor}
use Rattle.octets.specs.BigEndian.{number_at}
use Rattle.octets.specs.Tests.{part_of}
use Rattle.keytable.specs.Row.{name_max, row_name_at, row_size, row_in}
use Rattle.keytable.specs.Table.{row_place, rows_of, absent}

abbrev pub mark_count : ℕ
mark_count = 2048

-- a word of 64 bits, turned to the right by k bits
abbrev pub turned_right : ℕ → ℕ → ℕ
turned_right k w = bit_or (w / 2 ^ k) (w * 2 ^ (64 - k) % 2 ^ 64)

-- the mark that four words make: added bit by bit, each turned otherwise, and the two halves of the sum multiplied each by a number of its own
unfoldable pub mark_from : ℕ → ℕ → ℕ → ℕ → ℕ
mark_from a b c d =
    let mix = bit_xor (bit_xor (bit_xor a (turned_right 4 b)) (turned_right 20 c)) (turned_right 36 d) in
    (mix / 0x100000000 % 0x100000000 * 0x297A2D39 + mix % 0x100000000 * 0x1E3779B1) / 0x4000000 % mark_count

-- the mark of the 32 bytes in which a name stands, and of the row that has them
abbrev pub name_mark : List ℕ → ℕ
name_mark s = mark_from (number_at 8 s 0) (number_at 8 s 8) (number_at 8 s 16) (number_at 8 s 24)

abbrev pub row_mark : List ℕ → ℕ
row_mark s = name_mark (part_of s row_name_at name_max)

-- a set of marks: a bit for each, in words of 64
abbrev pub has_mark : List ℕ → ℕ → Bool
has_mark seen m = eqb (get_or seen (m / 64) 0 / 2 ^ (m % 64) % 2) 1

-- no later row has row i's type and name
abbrev pub last_of_its_pair : List ℕ → ℕ → Bool
last_of_its_pair t i = let row = row_in (part_of t (row_place i) row_size) in absent row.row_type row.row_name (drop (i + 1) (rows_of t))
