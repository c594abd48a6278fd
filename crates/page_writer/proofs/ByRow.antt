-- Wrapping a key into a page by a row: the tests and the page are those of writing the KEY part that the row makes of the key; and what 0 tells.
-- Assumes nothing.
use mathlib.Core.Path.{◌≡◌, refl, sym, ap, ap₂, ◌∙◌}
use mathlib.Core.Bool.{Bool, true, false, not, ◌||◌, false≢true}
use mathlib.Core.List.{List}
use mathlib.Core.Option.{Option, some, none}
use Prim.Native.Nat.{ℕ, ◌≤◌}
use native.Mathlib.Omega.{arith}
use borrow.Author.Tests.{eqb-true, eqb-false, eq-eqb, ne_eqb, le-ltb, not-false}
use lib.Dec.{eqb, ltb}
use lib.ListN.{length}
use Rattle.octets.specs.Lent.{is_not, answer, kept}
use Rattle.octets.proofs.Lent.{is_not-false, is_not_right, test_at, none_applies}
use Rattle.octets.proofs.Tests.{or_left, or_right}
use Rattle.keytable.specs.Row.{name_max, is_kek_type, Row}
use Rattle.keytable.specs.Table.{table_ok, row_for}
use Rattle.keytable.specs.Calls.{missing}
use Rattle.keywrap.specs.Wrap as wrap
use Rattle.keywrap.specs.Calls.{key_size_lem, wrapped_size}
use Rattle.keywrap.proofs.Laws.{wrapped-length}
use Rattle.keypage.specs.Layout.{page_max}
use Rattle.keypage.specs.Page.{page_list_ok}
use Rattle.keypage.specs.KeyPart.{wrapped_format, wrapped_of}
use Rattle.keypage.proofs.KeyPart.{kek-type, PartPassed, of-wrapped}
use Rattle.page_writer.specs.Written.{page_size, page_of, wrapped_part_size}
use Rattle.page_writer.specs.Write.{format_given, fields_good, write_broken, write_refused, write_long, not_carried, write_number, write_answer}
use Rattle.page_writer.specs.Write.{wrapped_page_size, wrapping_broken, wrapping_refused, wrapping_long, part_by}
use Rattle.page_writer.specs.Write.{write_wrapped_tests, write_wrapped_number, write_wrapped_row}
use Rattle.page_writer.specs.Laws.{PartBack, Wrappable, WrapsAsWrites, WrapsAndWrites}
use Rattle.page_writer.proofs.Parts.{length-wrapped_part}
use Rattle.page_writer.proofs.PartBack.{parts_back, part-passes}
use Rattle.page_writer.proofs.WriteNumbers.{name_short}

-- tests that do not apply, beside one that may
two_none : (a : Bool) → ((a || false) || false) ≡ (a || false)
two_none true = refl
two_none false = refl

other_side : (a : Bool) → (false || a) ≡ (a || false)
other_side true = refl
other_side false = refl

-- ---- the tests of both calls

module _ (v : List ℕ) (type : ℕ) (identifier key l : List ℕ) (h : Wrappable v type identifier key) (row : Row) where
  abbrev s : List ℕ
  s = part_by (some row) type identifier key

  abbrev w : List ℕ
  w = wrap.wrapped row.row_key key

  forty : length w ≡ wrapped_size
  forty = wrapped-length row.row_key key

  kind : (1 ≤ type) × (type ≤ 2)
  kind = kek-type type h.kek-type

  pub part_made : PartBack type identifier w s
  part_made = parts_back type identifier w (omega (arith, kind.1)) (omega (arith, h.named_short))

  sized : length s ≡ wrapped_part_size (length identifier)
  sized = length-wrapped_part type identifier w forty

  passes : PartPassed wrapped_format s
  passes = part-passes type identifier w kind.0 kind.1 h.named h.named_short forty

  broken-same : wrapping_broken identifier key l ≡ write_broken v s l
  broken-same =
      rw (is_not_right key_size_lem key h.key_size, ne_eqb (length identifier) 0 (λ e. omega (arith, h.named, e)), h.format, passes.whole) (two_none (not (page_list_ok l)))

  refused-same : wrapping_refused v type ≡ write_refused v s
  refused-same = rw (eq-eqb (format_given v) wrapped_format h.format, h.kek-type, h.format, passes.permitted) (two_none (not (fields_good v)))

  long_same : wrapping_long identifier l ≡ write_long v s l
  long_same =
      rw (le-ltb name_max (length identifier) h.named_short, sized, h.format, passes.short) (other_side (ltb page_max (wrapped_page_size identifier l)))

  carried : not_carried v s ≡ false
  carried =
      of-wrapped (format_given v) false false (is_not wrapped_size (wrapped_of s)) false h.format
      ∙ is_not_right wrapped_size (wrapped_of s) (ap length part_made.wrapped_back ∙ forty)

  size_same : wrapped_page_size identifier l ≡ page_size (length s) (length l)
  size_same = ap (λ (n : ℕ). page_size n (length l)) (sym sized)

  numbers-same : (room : ℕ) → write_wrapped_number true (some row) v type identifier key l room ≡ write_number v s l room
  unfolding write_wrapped_number write_number
  numbers-same room = rw (broken-same, refused-same, long_same, size_same, carried)

  pub answers-same : (out : List ℕ) (n : ℕ) → write_wrapped_row true (some row) v type identifier key l out n ≡ write_answer v s l out n
  unfolding write_wrapped_row write_answer
  answers-same out n =
      ap₂ (λ (k size : ℕ). (answer k (page_of v s l) out, kept k size n)) (numbers-same (length out)) size_same

pub wraps_as_writes : WrapsAsWrites
wraps_as_writes t v type identifier key list out n row accepted has h =
    ap₂ (λ (ok : Bool) (o : Option Row). write_wrapped_row ok o v type identifier key list out n) accepted has ∙ answers-same v type identifier key list h row out n

-- ---- the answer was 0

-- a row that is not missing
there_is : (o : Option Row) → missing o ≡ false → (row : Row) × (o ≡ some row)
there_is none e = absurd (false≢true (sym e))
there_is (some row) e = (row, refl)

pub wraps_and_writes : WrapsAndWrites
unfolding write_wrapped_row write_wrapped_number
wraps_and_writes t v type identifier key list out after n m e =
    let (row, has) = there_is (row_for t type identifier) (none_of 5) in (
      row,
      not-false (table_ok t) (none_of 0),
      has,
      record {
        format = eqb-true (format_given v) wrapped_format (not-false (eqb (format_given v) wrapped_format) (or_right (not (fields_good v)) (not (eqb (format_given v) wrapped_format)) fields_first));
        kek-type = not-false (is_kek_type type) (or_right (not (fields_good v) || not (eqb (format_given v) wrapped_format)) (not (is_kek_type type)) (none_of 2));
        named = omega (arith, eqb-false (length identifier) 0 (or_right (not (page_list_ok list) || is_not key_size_lem key) (eqb (length identifier) 0) (none_of 1)));
        named_short = name_short identifier list (none_of 3);
        key_size = is_not-false key_size_lem key (or_right (not (page_list_ok list)) (is_not key_size_lem key)
            (or_left (not (page_list_ok list) || is_not key_size_lem key) (eqb (length identifier) 0) (none_of 1)));
      },
    )
  where
    none_of : (i : ℕ) → test_at (write_wrapped_tests (table_ok t) (row_for t type identifier) v type identifier key list (length out)) i ≡ false
    none_of i =
        none_applies (write_wrapped_tests (table_ok t) (row_for t type identifier) v type identifier key list (length out)) i refl (ap (λ (x : (ℕ × List ℕ) × ℕ). x.0.0) e)

    fields_first : (not (fields_good v) || not (eqb (format_given v) wrapped_format)) ≡ false
    fields_first = or_left (not (fields_good v) || not (eqb (format_given v) wrapped_format)) (not (is_kek_type type)) (none_of 2)
