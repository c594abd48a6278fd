-- The report's text as the code writes it: a row's line in three pieces, the lines of all rows one after the other, and that every report fits its room.
-- Assumes nothing.
use mathlib.Core.Path.{◌≡◌, refl, sym, ap, ap₂, ◌∙◌}
use mathlib.Core.Bool.{Bool, true, false, not}
use mathlib.Core.List.{List, [], ◌∷◌, ◌++◌, append_assoc, append-nil}
use Prim.Native.Nat.{ℕ, suc, ◌+◌, ◌-◌, ◌*◌, ◌^◌, ◌≤◌, ◌<◌}
use native.Mathlib.Nat.{add-zero, zero-add}
use native.Mathlib.Numerals.{add-one}
use native.Mathlib.Omega.{arith}
use lib.ListN.{length, get_or, drop, length-append, drop_of_length-le}
use lib.Seq.{drop-cons}
use borrow.Author.Tests.{lt-ltb, le-ltb, ltb-false, ne_eqb}
use lib.Dec.{eqb, ltb, lit<}
use Rattle.octets.specs.Lent.{when, lowest}
use Rattle.refusals.specs.Numbers.{number_of}
use Rattle.refusals.specs.declared.Refusal.{Refusal}
use Rattle.refusals.proofs.Laws.{not_zero}
use Rattle.wording.specs.Ascii.{ascii}
use Rattle.wording.specs.Hex.{digits_of}
use Rattle.wording.specs.Lines.{line, refused_line}
use Rattle.wording.proofs.DecimalDigits.{length_decimal64}
use Rattle.wording.proofs.Digits.{length-digits_of}
use Rattle.wording.proofs.Wrote.{length_line64}
use Rattle.keytable.specs.Row.{name_max, Row}
use Rattle.keytable.specs.Table.{row_place, rows_of, row_number, no_row, row_count, head_ok, table_ok, row_at}
use Rattle.keytable.proofs.Accepted.{length-rows_of, rows_of_more, rows_of-done}
use Rattle.keytable.proofs.Laws.{own_row, row_for_good, row_at-number}
use Rattle.report_text.specs.Dump.{dump_max, records_in, tail_of}
use Rattle.report_text.specs.Opens.{opens_by}
use Rattle.report_text.specs.Report.{record_bytes, open_line, open_lines, report_text, report_number, printed, report_room}
use Rattle.report_text.specs.Counted.{Reportable, count_lines}
use Rattle.report_text.proofs.Dump.{lengths_add_up, records_few}
use Rattle.report_text.proofs.Opening.{opens_few}
use Rattle.report_text.proofs.Counts.{rows_few}

-- ---- a row's line: `open `, the digits of the name, and the number

pub open_said : (name : List ℕ) (n : ℕ) → open_line name n ≡ ascii "open " ++ (digits_of true name ++ line [] n)
open_said name n = append_assoc (ascii "open ") (digits_of true name) (line [] n)

-- ---- the lines of the rows

-- what is left at row i: its line, and those after it
pub rows_turn : (t counts : List ℕ) (i place : ℕ) {name : List ℕ} → head_ok t ≡ true → i < row_count t → place ≡ row_place i
    → name ≡ (row_at t place).row_name
    → count_lines counts i (drop i (rows_of t)) ≡ open_line name (get_or counts i 0) ++ count_lines counts (i + 1) (drop (i + 1) (rows_of t))
unfolding count_lines
rows_turn t counts i place {name} head below there name_is =
    ap (count_lines counts i) (drop-cons (rows_of t) i no_row (rows_of_more t i below))
    ∙ ap₂ (λ (s : List ℕ) (j : ℕ). open_line s (get_or counts i 0) ++ count_lines counts (i + 1) (drop j (rows_of t))) (sym name_here) (sym (add-one i))
  where
    name_here : name ≡ (row_number (rows_of t) i).row_name
    name_here = name_is ∙ ap (λ (row : Row). row.row_name) (ap (row_at t) there ∙ row_at-number t i head below)

pub rows_end : (t counts : List ℕ) (i : ℕ) → row_count t ≤ i → count_lines counts i (drop i (rows_of t)) ≡ []
unfolding count_lines
rows_end t counts i h = rw (drop_of_length-le (rows_of t) (rows_of-done t i h))

-- with the counts of a dump they are the report's
count-lines : (counts : List ℕ) (k : ℕ) (xs : List Row) (rs : List (List ℕ)) → ((i : ℕ) → i < length xs → get_or counts (k + i) 0 ≡ opens_by (row_number xs i) rs)
    → count_lines counts k xs ≡ open_lines xs rs
unfolding count_lines open_lines
count-lines counts k [] rs are = refl
count-lines counts k (x ∷ xs) rs are =
    ap₂ ◌++◌ (ap (open_line x.row_name) (ap (λ (j : ℕ). get_or counts j 0) (sym (add-zero k)) ∙ are 0 (omega arith)))
    (count-lines counts (k + 1) xs rs (λ i h. ap (λ (j : ℕ). get_or counts j 0) (omega arith) ∙ are (suc i) (omega (arith, h))))

-- ---- room

open_short : (name : List ℕ) (n : ℕ) → length name ≤ name_max → n < 2 ^ 64 → length (open_line name n) ≤ 91
open_short name n short small =
    let size = length-append (ascii "open ") (digits_of true name) in
    omega (arith, length_line64 (ascii "open " ++ digits_of true name) n small, length-digits_of true name, size, short)

lines_short : (xs : List Row) (rs : List (List ℕ)) → ((i : ℕ) → i < length xs → length (row_number xs i).row_name ≤ name_max) → length rs < 2 ^ 64
    → length (open_lines xs rs) ≤ 91 * length xs
unfolding open_lines
lines_short [] rs names few = omega arith
lines_short (x ∷ xs) rs names few =
    let one = open_short x.row_name (opens_by x rs) (names 0 (omega arith)) (omega (arith, opens_few x rs, few)) in
    let more = lines_short xs rs (λ i h. names (suc i) (omega (arith, h))) few in
    omega (arith, one, more, length-append (open_line x.row_name (opens_by x rs)) (open_lines xs rs))

pub text_short : (t d : List ℕ) → table_ok t ≡ true → length d ≤ dump_max → length (report_text t d) ≤ report_room
unfolding report_text
text_short t d ok short =
    simp length-append (omega (
      arith,
      length_decimal64,
      records_few d,
      lengths_add_up d,
      short,
      lines_short (rows_of t) (records_in d) names (omega (arith, records_few d, short)),
      length-rows_of t,
      rows_few t ok,
    ))
  where
    names : (i : ℕ) → i < length (rows_of t) → length (row_number (rows_of t) i).row_name ≤ name_max
    names i h =
        let row = row_number (rows_of t) i in
        (row_for_good t row.row_type row.row_name row ok (own_row t i ok (omega (arith, h, length-rows_of t)))).name_short

pub printed_short : (t d : List ℕ) → length (printed t d) ≤ report_room
unfolding printed report_number
printed_short t d = go (table_ok t) (ltb dump_max (length d)) refl refl
  where
    go : (ok long : Bool) → table_ok t ≡ ok → ltb dump_max (length d) ≡ long
        → let n = lowest ((1, not ok) ∷ (4, long) ∷ []) in length (when (eqb n 0) (report_text t d) (refused_line n)) ≤ report_room
    go false long et ed = omega (arith, length_line64 (ascii "refused") 1 (lit< tt))
    go true true et ed = omega (arith, length_line64 (ascii "refused") 4 (lit< tt))
    go true false et ed = text_short t d et (ltb-false dump_max (length d) ed)

-- the four pieces of a report, of what was counted
module _ {t d opens : List ℕ} {rows records bytes : ℕ} (r : Reportable t d rows records bytes opens) where
  lines_are : count_lines opens 0 (rows_of t) ≡ open_lines (rows_of t) (records_in d)
  lines_are =
      count-lines opens 0 (rows_of t) (records_in d)
      (λ i h. ap (λ (j : ℕ). get_or opens j 0) (zero-add i) ∙ r.counts.opens_are i (omega (arith, h, length-rows_of t)))

  pub bytes_inside : bytes ≤ length d
  bytes_inside = omega (arith, r.counts.bytes_are, lengths_add_up d)

  tail_is : length d - bytes ≡ length (tail_of d)
  tail_is = omega (arith, r.counts.bytes_are, lengths_add_up d)

  pub report_said : report_text t d ≡ line (ascii "records") records ++ (line (ascii "bytes") bytes ++ (count_lines opens 0 (rows_of t) ++ line (ascii "tail") (length d - bytes)))
  unfolding report_text
  report_said =
      rw (r.counts.records_are, tail_is, r.counts.bytes_are, lines_are)
      (ap (λ (l : List ℕ). line (ascii "records") (length (records_in d)) ++ (line (ascii "bytes") (record_bytes (records_in d)) ++ (open_lines (rows_of t) (records_in d) ++ l)))
      (append-nil (line (ascii "tail") (length (tail_of d)))))

-- ---- which text

module _ (t d : List ℕ) where
  pub number-one : table_ok t ≡ false → report_number t d ≡ 1
  unfolding report_number
  number-one e = rw e

  pub number_four : table_ok t ≡ true → dump_max < length d → report_number t d ≡ 4
  unfolding report_number
  number_four ok long = rw (ok, lt-ltb dump_max (length d) long)

  pub number-zero : table_ok t ≡ true → length d ≤ dump_max → report_number t d ≡ 0
  unfolding report_number
  number-zero ok short = rw (ok, le-ltb dump_max (length d) short)

  pub printed_report : report_number t d ≡ 0 → printed t d ≡ report_text t d
  unfolding printed
  printed_report e = rw e

  pub printed-refused : (e : Refusal) → report_number t d ≡ number_of e → printed t d ≡ refused_line (number_of e)
  unfolding printed
  printed-refused e is = rw (is, ne_eqb (number_of e) 0 (λ z. not_zero e (sym z)))
