-- What the report promises, as statements; proofs/Dump.antt, Opening.antt and Laws.antt prove them.
-- Assumes nothing.
use Rattle.std.specs.Prelude.{◌≡◌, ◌↔◌, true, false, ℕ, ◌+◌, ◌-◌, ◌*◌, ◌≤◌, ◌<◌, eqb, length, get_or}
use mathlib.Core.List.{List, [], ◌++◌, flatten}
use Rattle.std.proofs.Math.Option.{some}
use Rattle.refusals.specs.Numbers.{outcome_number}
use Rattle.octets.specs.Bytes.{Bytes}
use Rattle.octets.specs.Lent.{over}
use Rattle.octets.specs.Lowest.{rises}
use Rattle.octets.specs.Tests.{all, part_of}
use Rattle.octets.specs.Unique.{UniqueBy}
use Rattle.wording.specs.Ascii.{ascii}
use Rattle.wording.specs.Decimal.{value_of}
use Rattle.wording.specs.Hex.{hex_read}
use Rattle.keytable.specs.Row.{kek_use, Row}
use Rattle.keytable.specs.Table.{row_count, rows_of, row_number, table_ok, data_row}
use Rattle.keytable.specs.Laws.{empty_table}
use Rattle.record.specs.Record.{name_at, mode_for, count_in, name_size_lem, end_at, end_in, name_in, iv_in}
use Rattle.record.specs.Read.{header_number}
use Rattle.record.specs.Open.{verify_answer}
use Rattle.record.specs.Laws.{SomeSeals}
use Rattle.report_text.specs.Dump.{dump_max, readable, records_in, tail_of}
use Rattle.report_text.specs.Opens.{opens_with, opens_by}
use Rattle.report_text.specs.Report.{record_bytes, open_line, report_tests, report_text, printed, report_room, reported}
use Rattle.report_text.specs.declared.Reported.{Reported}

-- ---- "The records' lengths, each by its layout, plus the tail, counted from that place, equal the dump."

-- the records in order and then the tail are the dump, all of it
abbrev pub RecordsThenTail : Type 0
RecordsThenTail = (d : List ℕ) → flatten (records_in d) ++ tail_of d ≡ d

-- document 01 answers none of 2, 3 and 4 for a record, and it is as long as its layout says
pub record IsRecord (r : List ℕ) : Type 0 where
  pub accepted : header_number r ≡ 0
  pub layout-long : length r ≡ end_at (mode_for r) (name_size_lem r) (count_in r)
  pub long : length r ≡ 52 + name_size_lem r + count_in r

abbrev pub RecordByLayout : Type 0
RecordByLayout = (d : List ℕ) (i : ℕ) → i < length (records_in d) → IsRecord (get_or (records_in d) i [])

-- these are all: accepted records end to end, and then bytes at which none can be read, are the records and the tail of what they make, and of no other dump
pub record Reads (d : List ℕ) (rs : List (List ℕ)) (tail : List ℕ) : Type 0 where
  pub records_are : records_in d ≡ rs
  pub tail_is : tail_of d ≡ tail

pub record Stands (d : List ℕ) (rs : List (List ℕ)) (tail : List ℕ) : Type 0 where
  pub accepted : all (λ (r : List ℕ). eqb (header_number r) 0) rs ≡ true
  pub unreadable : readable tail ≡ false
  pub end_to_end : flatten rs ++ tail ≡ d

abbrev pub DumpExactly : Type 0
DumpExactly = (d : List ℕ) (rs : List (List ℕ)) (tail : List ℕ) → Reads d rs tail ↔ Stands d rs tail

-- at the tail's start none can be read: nor where less than a header is left, or less than the header says
abbrev pub TailUnreadable : Type 0
TailUnreadable = (d : List ℕ) → readable (tail_of d) ≡ false

abbrev pub ShortUnreadable : Type 0
ShortUnreadable = (d : List ℕ) → length d < name_at → readable d ≡ false

abbrev pub PastUnreadable : Type 0
PastUnreadable = (d : List ℕ) → length d < end_in d → readable d ≡ false

-- the numbers that are printed add up
abbrev pub LengthsAddUp : Type 0
LengthsAddUp = (d : List ℕ) → record_bytes (records_in d) + length (tail_of d) ≡ length d

-- ---- "how many open by it"

-- a record opens by a row of an accepted table exactly where the row is that of its name and verification gives 0
abbrev pub OpensByExactly : Type 0
OpensByExactly =
    (t : List ℕ) (i : ℕ) (r : List ℕ) → table_ok t ≡ true → i < row_count t
    → let row = row_number (rows_of t) i in
    (opens_with row r ≡ true) ↔ ((data_row t (name_in r) ≡ some row) × (verify_answer t r [] ≡ 0))

-- which is where some plaintext was sealed so, by that row and with no caller's data (demand 3)
abbrev pub OpensSealed : Type 0
OpensSealed =
    (t : List ℕ) (i : ℕ) (r : List ℕ) → Bytes t → Bytes r → table_ok t ≡ true → i < row_count t
    → let row = row_number (rows_of t) i in
    (opens_with row r ≡ true) ↔ ((data_row t (name_in r) ≡ some row) × SomeSeals t (name_in r) (iv_in r) [] r)

-- so by one row at most
abbrev pub OpensByOne : Type 0
OpensByOne =
    (t : List ℕ) (i j : ℕ) (r : List ℕ) → table_ok t ≡ true → i < row_count t → j < row_count t
    → opens_with (row_number (rows_of t) i) r ≡ true → opens_with (row_number (rows_of t) j) r ≡ true → i ≡ j

-- a key-encrypting key opens none, and no row more than there are
abbrev pub KekOpensNone : Type 0
KekOpensNone =
    (t : List ℕ) (i : ℕ) (rs : List (List ℕ)) → table_ok t ≡ true → i < row_count t → (row_number (rows_of t) i).row_use ≡ kek_use
    → opens_by (row_number (rows_of t) i) rs ≡ 0

abbrev pub OpensFew : Type 0
OpensFew = (row : Row) (rs : List (List ℕ)) → opens_by row rs ≤ length rs

-- ---- the text

-- "An empty dump with an empty table prints `records 0`, `bytes 0`, `tail 0`, a line each."
abbrev pub EmptyReport : Type 0
EmptyReport = printed empty_table [] ≡ ascii "records 0\nbytes 0\ntail 0\n"

abbrev pub TableRefused : Type 0
TableRefused = (t d : List ℕ) → table_ok t ≡ false → printed t d ≡ ascii "refused 1\n"

abbrev pub DumpRefused : Type 0
DumpRefused = (t d : List ℕ) → table_ok t ≡ true → dump_max < length d → printed t d ≡ ascii "refused 4\n"

-- a dump of just that length is taken, and any shorter
abbrev pub DumpTaken : Type 0
DumpTaken = (t d : List ℕ) → table_ok t ≡ true → length d ≤ dump_max → printed t d ≡ report_text t d

-- a row's line read back: the digits of the name are the name, and those of the number the number; the other lines' numbers are read back by wording's
-- `LineReads`
pub record OpenLineRead (name room : List ℕ) (n : ℕ) : Type 0 where
  pub name_back : hex_read (part_of (open_line name n) 5 (2 * length name)) room ≡ (0, over name room)
  pub number_back : value_of (part_of (open_line name n) (5 + 2 * length name + 1) (length (open_line name n) - (5 + 2 * length name + 2))) ≡ n

abbrev pub OpenLineReads : Type 0
OpenLineReads = (name room : List ℕ) (n : ℕ) → Bytes name → length name ≤ length room → OpenLineRead name room n

-- ---- by value: within its room, and one for each input

abbrev pub reported_says : Reported → ℕ × ℕ × List ℕ
reported_says x = (outcome_number x.outcome, x.text.size, x.text.bytes)

pub record ReportedFits (x : Reported) : Type 0 where
  pub room : length x.text.bytes ≡ report_room
  pub size : x.text.size ≤ report_room

abbrev pub ReportFits : Type 0
ReportFits = (t d : List ℕ) (x : Reported) → reported t d ≡ reported_says x → ReportedFits x

abbrev pub ReportUnique : Type 0
ReportUnique = (t d : List ℕ) → UniqueBy reported_says (reported t d)

abbrev pub ReportTestsRise : Type 0
ReportTestsRise = (t d : List ℕ) → rises (report_tests t d) ≡ true
