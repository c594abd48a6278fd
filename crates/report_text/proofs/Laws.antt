-- The laws of specs/Laws.antt on the text.
-- Assumes nothing.
use mathlib.Core.Path.{◌≡◌, refl, sym, ap, ap₂, ◌∙◌}
use mathlib.Core.Bool.{true}
use mathlib.Core.List.{List, [], ◌++◌, append_assoc}
use Prim.Native.Nat.{ℕ, ◌+◌, ◌-◌, ◌*◌}
use lib.ListN.{length, replicate, length-append, length-replicate}
use borrow.Author.Tests.{lt-ltb, le-ltb}
use Rattle.octets.specs.Split.{split_by}
use Rattle.octets.specs.Tests.{all, part_of}
use Rattle.octets.proofs.Lent.{length_over}
use Rattle.octets.proofs.Tests.{part_at}
use Rattle.std.specs.Prelude.{Result}
use Rattle.refusals.specs.declared.Refusal.{Refusal}
use Rattle.refusals.proofs.Laws.{outcome_unique}
use Rattle.wording.specs.declared.text.Text.{Text}
use Rattle.wording.proofs.Told.{text_told}
use Rattle.report_text.specs.declared.Reported.{Reported}
use Rattle.wording.specs.Ascii.{ascii}
use Rattle.wording.specs.Decimal.{digits_within, decimal, value_of}
use Rattle.wording.specs.Hex.{digits_of, hex_read}
use Rattle.wording.specs.Lines.{line}
use Rattle.wording.proofs.Digits.{length-digits_of}
use Rattle.wording.proofs.Laws.{there_and_back, line_reads}
use Rattle.keytable.specs.Table.{head_ok, rows, row_parts, distinct, table_ok}
use Rattle.report_text.specs.Dump.{dump_max}
use Rattle.report_text.specs.Report.{record_bytes, open_line, open_lines, report_number, report_text, printed, report_room}
use Rattle.report_text.specs.Laws.{EmptyReport, TableRefused, DumpRefused, DumpTaken, OpenLineReads, reported_says, ReportFits, ReportUnique, ReportTestsRise}
use Rattle.report_text.proofs.Texts.{printed_short}

-- ---- the text

pub empty_report : EmptyReport
unfolding printed report_number table_ok head_ok row_parts rows all distinct report_text split_by record_bytes open_lines decimal digits_within
empty_report = refl

pub table-refused : TableRefused
unfolding printed report_number decimal digits_within
table-refused t d e = rw e

pub dump-refused : DumpRefused
unfolding printed report_number decimal digits_within
dump-refused t d ok long = rw (ok, lt-ltb dump_max (length d) long)

pub dump_taken : DumpTaken
unfolding printed report_number
dump_taken t d ok short = rw (ok, le-ltb dump_max (length d) short)

-- ---- a row's line read back

pub open-line_reads : OpenLineReads
open-line_reads name room n bytes fits = record {
  name_back = ap (λ (w : List ℕ). hex_read w room) digits_there ∙ there_and_back true name room bytes fits;
  number_back = ap (λ (k : ℕ). value_of (part_of (open_line name n) (k + 1) (length (open_line name n) - (k + 2)))) (sym long) ∙ line_reads word n;
}
  where
    word : List ℕ
    word = ascii "open " ++ digits_of true name

    long : length word ≡ 5 + 2 * length name
    long = length-append (ascii "open ") (digits_of true name) ∙ ap (λ (k : ℕ). 5 + k) (length-digits_of true name)

    digits_there : part_of (open_line name n) 5 (2 * length name) ≡ digits_of true name
    digits_there =
        ap (λ (l : List ℕ). part_of l 5 (2 * length name)) (append_assoc (ascii "open ") (digits_of true name) (line [] n))
        ∙ part_at (ascii "open ") (digits_of true name) (line [] n) 5 (2 * length name) refl (length-digits_of true name)

-- ---- by value

pub report_fits : ReportFits
report_fits t d x e = record {
  room = sym (ap (λ (a : ℕ × ℕ × List ℕ). length a.2) e) ∙ length_over (printed t d) (replicate report_room 0) ∙ length-replicate {A = ℕ} report_room 0;
  size = rw (← ap (λ (a : ℕ × ℕ × List ℕ). a.1) e) (printed_short t d);
}

-- an outcome is told by its number, and a text by its size and bytes
pub report_unique : ReportUnique
report_unique t d x y p q = ap₂ made (outcome_unique x.outcome y.outcome (ap (λ a. a.0) e)) (text_told x.text y.text (ap (λ a. (a.1, a.2)) e))
  where
    made : Result (Unit {0}) Refusal → Text report_room → Reported
    made outcome text = record { outcome = outcome; text = text }

    e : reported_says x ≡ reported_says y
    e = p ∙ sym q

pub report_tests_rise : ReportTestsRise
report_tests_rise t d = refl
