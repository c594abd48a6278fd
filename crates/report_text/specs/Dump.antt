-- A dump of a cartridge (document 02, No. 1), "records end to end": the records that it begins with, and the tail.
-- Assumes nothing.
use Rattle.std.specs.Prelude.{ℕ, Bool, ◌&&◌, List, eqb, leb, length, take}
use Rattle.octets.specs.Lent.{when}
use Rattle.octets.specs.Split.{split_by}
use Rattle.record.specs.Record.{end_in}
use Rattle.record.specs.Read.{header_number}

-- "A program reads a dump of at most 65,536 bytes"
abbrev pub dump_max : ℕ
dump_max = 65536

-- "A record's end is the end its own header gives. Reading stops at the first place where 01 would answer 2, 3 or 4 for the bytes up to that end, or where
-- the dump is too short.": whether a record can be read at the start of d
unfoldable pub readable : List ℕ → Bool
readable d = leb (end_in d) (length d) && eqb (header_number (take (end_in d) d)) 0

-- how long it is, and 0 where none can be read
unfoldable pub record_size_lem : List ℕ → ℕ
record_size_lem d = when (readable d) (end_in d) 0

abbrev pub records_in : List ℕ → List (List ℕ)
records_in d = (split_by record_size_lem d).0

abbrev pub tail_of : List ℕ → List ℕ
tail_of d = (split_by record_size_lem d).1
