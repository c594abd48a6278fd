-- What the functions that count and write promise: the counts of a dump, row by row, and the lines of counts.
-- Assumes nothing.
use Rattle.std.specs.Prelude.{◌≡◌, true, List, [], ◌∷◌, ◌++◌, ℕ, ◌+◌, ◌≤◌, ◌<◌, length, get_or}
use Rattle.octets.specs.Lent.{when}
use Rattle.keytable.specs.Row.{Row}
use Rattle.keytable.specs.Table.{row_max, row_count, rows_of, row_number, table_ok}
use Rattle.report_text.specs.Dump.{dump_max, records_in}
use Rattle.report_text.specs.Opens.{opens_with, opens_by}
use Rattle.report_text.specs.Report.{record_bytes, open_line}

-- a count for each row that a table may have, none so large that one more runs over
pub record Countable (t opens : List ℕ) : Type 0 where
  pub enough : row_max ≤ length opens
  pub small : (i : ℕ) → i < row_count t → get_or opens i 0 ≤ dump_max

-- one more for the row by which the record opens, and for no other
pub record CountsOne (t r before after : List ℕ) : Type 0 where
  pub same_size : length after ≡ length before
  pub each : (i : ℕ) → i < row_count t → get_or after i 0 ≡ get_or before i 0 + when (opens_with (row_number (rows_of t) i) r) 1 0

-- all of a dump
pub record CountsAll (t d : List ℕ) (records bytes : ℕ) (opens : List ℕ) : Type 0 where
  pub records_are : records ≡ length (records_in d)
  pub bytes_are : bytes ≡ record_bytes (records_in d)
  pub opens_are : (i : ℕ) → i < row_count t → get_or opens i 0 ≡ opens_by (row_number (rows_of t) i) (records_in d)

-- what the text is written from: an accepted table, its number of rows, and the counts of a dump that is not too long
pub record Reportable (t d : List ℕ) (rows records bytes : ℕ) (opens : List ℕ) : Type 0 where
  pub accepted : table_ok t ≡ true
  pub rows_are : rows ≡ row_count t
  pub counts : CountsAll t d records bytes opens
  pub short : length d ≤ dump_max

-- the lines of rows whose counts stand from number i on
unfoldable pub count_lines : List ℕ → ℕ → List Row → List ℕ
count_lines counts i [] = []
count_lines counts i (row ∷ rows) = open_line row.row_name (get_or counts i 0) ++ count_lines counts (i + 1) rows
