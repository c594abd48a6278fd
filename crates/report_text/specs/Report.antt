-- The report over a dump (document 02, No. 1): it "prints records, their bytes, a line such as `open 4B31 2` for each row in table order (name in hex, how
-- many open by it), and the tail."
-- Assumes nothing.
use Rattle.std.specs.Prelude.{ℕ, ◌+◌, true, not, List, [], ◌∷◌, ◌++◌, eqb, ltb, length, replicate}
use Rattle.octets.specs.Lent.{when, Tests, lowest, over}
use Rattle.wording.specs.Ascii.{ascii}
use Rattle.wording.specs.Hex.{digits_of}
use Rattle.wording.specs.Lines.{line, refused_line, together}
use Rattle.keytable.specs.Row.{Row}
use Rattle.keytable.specs.Table.{rows_of, table_ok}
use Rattle.report_text.specs.Dump.{dump_max, records_in, tail_of}
use Rattle.report_text.specs.Opens.{opens_by}

-- the bytes of records: "The records' lengths, each by its layout" (`RecordByLayout` of specs/Laws.antt)
unfoldable pub record_bytes : List (List ℕ) → ℕ
record_bytes [] = 0
record_bytes (r ∷ rs) = length r + record_bytes rs

abbrev pub open_line : List ℕ → ℕ → List ℕ
open_line name n = line (ascii "open " ++ digits_of true name) n

-- a line for each row
unfoldable pub open_lines : List Row → List (List ℕ) → List ℕ
open_lines [] rs = []
open_lines (row ∷ rows) rs = open_line row.row_name (opens_by row rs) ++ open_lines rows rs

unfoldable pub report_text : List ℕ → List ℕ → List ℕ
report_text t d =
    together
    (line (ascii "records") (length (records_in d))
    ∷ line (ascii "bytes") (record_bytes (records_in d))
    ∷ open_lines (rows_of t) (records_in d)
    ∷ line (ascii "tail") (length (tail_of d))
    ∷ [])

-- "Refusals: a bad table gives 1; a longer dump 4."
abbrev pub report_tests : List ℕ → List ℕ → Tests
report_tests t d = (1, not (table_ok t)) ∷ (4, ltb dump_max (length d)) ∷ []

unfoldable pub report_number : List ℕ → List ℕ → ℕ
report_number t d = lowest (report_tests t d)

-- what is printed: the text, or `refused` and the number
unfoldable pub printed : List ℕ → List ℕ → List ℕ
printed t d = when (eqb (report_number t d) 0) (report_text t d) (refused_line (report_number t d))

-- by value: the number, how long the text is, and the text with zeros after it
abbrev pub report_room : ℕ
report_room = 6144

abbrev pub reported_as : ℕ → List ℕ → ℕ × ℕ × List ℕ
reported_as n text = (n, length text, over text (replicate report_room 0))

abbrev pub reported : List ℕ → List ℕ → ℕ × ℕ × List ℕ
reported t d = reported_as (report_number t d) (printed t d)
