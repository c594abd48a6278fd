-- The text of an input, by the tests that led there; and that each text fits its room.
-- Assumes nothing.
use mathlib.Core.Path.{◌≡◌, refl, sym, ap, ◌∙◌}
use mathlib.Core.List.{List, [], ◌∷◌, ◌++◌, append_assoc, append-nil}
use Prim.Native.Nat.{ℕ, suc, ◌+◌, ◌^◌, ◌≤◌, ◌<◌}
use native.Mathlib.Numerals.{add-one}
use native.Mathlib.Omega.{arith}
use lib.ListN.{length, get_or, take, drop, length-append, take-append-drop}
use lib.Seq.{take-suc, drop-cons}
use borrow.Author.Tests.{lt-ltb, le-ltb, ne_eqb}
use Rattle.wording.specs.Decimal.{decimal}
use lib.Dec.{lit<}
use Rattle.refusals.specs.Numbers.{number_of}
use Rattle.refusals.specs.declared.Refusal.{Refusal}
use Rattle.refusals.specs.declared.Refusal.TheVariants.{TableLayout, Layout, NotPermitted, PastMaximum, NoRoom, NoRow, OtherUse, WrappedLength, WrongTag, SessionSpent, CounterRunsOver}
use Rattle.std.specs.Borrow.{Bor}
use Rattle.wording.specs.Lines.{line, refused_line}
use Rattle.wording.proofs.DecimalDigits.{length_decimal64}
use Rattle.keypage.specs.Layout.{page_max}
use Rattle.keypage.specs.Page.{fields_of}
use Rattle.keypage.specs.Read.{page_read_number, page_read_answer}
use Rattle.page_text.specs.Listing.{lines_in, lines_said, field_lines, listing_number, listing, listing_max}

-- ---- which text

pub listing-long : (p : List ℕ) → page_max < length p → listing p ≡ refused_line 4
unfolding listing listing_number
listing-long p long = rw (lt-ltb page_max (length p) long)

-- what reading answered
module _ (p before : List ℕ) (short : length p ≤ page_max) {after : List ℕ} {n : ℕ} (reads : page_read_answer p before ≡ (n, after)) where
  number : page_read_number p ≡ n
  unfolding page_read_answer
  number = ap (λ (a : ℕ × List ℕ). a.0) reads

  list-number : listing_number p ≡ n
  unfolding listing_number
  list-number = rw (le-ltb page_max (length p) short) number

  pub listing-refused : (n ≡ 0 → ⊥) → listing p ≡ refused_line n
  unfolding listing
  listing-refused none = rw (list-number, ne_eqb n 0 none)

  fields : n ≡ 0 → after ≡ fields_of p
  unfolding page_read_answer
  fields done = sym (ap (λ (a : ℕ × List ℕ). a.1) reads) ∙ rw (number, done)

  pub listing-fields : n ≡ 0 → listing p ≡ lines_in after
  unfolding listing field_lines fields_of
  listing-fields done = rw (list-number, done, fields done)

-- ---- lines one after the other: those before i, the one at i, and those after it

abbrev Line : Type 0
Line = Bor (List ℕ) × ℕ

lines_both : (ls ms : List Line) → lines_said (ls ++ ms) ≡ lines_said ls ++ lines_said ms
lines_both [] ms = refl
lines_both (l ∷ ls) ms =
    ap (λ (s : List ℕ). line l.0.now l.1 ++ s) (lines_both ls ms) ∙ sym (append_assoc (line l.0.now l.1) (lines_said ls) (lines_said ms))

-- what reading past the end of a list of lines is said to give
abbrev pub no_line : Line
no_line = (record { ref_ptr = (0, 0); now = [] }, 0)

module _ (ls : List Line) (i : ℕ) (h : i < length ls) {word : List ℕ} (is : word ≡ (get_or ls i no_line).0.now) where
  pub lines_turn : lines_said (take (i + 1) ls) ≡ lines_said (take i ls) ++ line word (get_or ls i no_line).1
  lines_turn =
      rw (is, add-one, take-suc ls i no_line h)
      (lines_both (take i ls) (get_or ls i no_line ∷ []) ∙ ap (λ (s : List ℕ). lines_said (take i ls) ++ s) (append-nil (line (get_or ls i no_line).0.now (get_or ls i no_line).1)))

  pub lines_parted : lines_said ls ≡ lines_said (take i ls) ++ (line word (get_or ls i no_line).1 ++ lines_said (drop (suc i) ls))
  lines_parted =
      rw is
      (ap lines_said (sym (take-append-drop i ls)) ∙ lines_both (take i ls) (drop i ls)
      ∙ ap (λ (ms : List Line). lines_said (take i ls) ++ lines_said ms) (drop-cons ls i no_line h))

-- ---- a number of 64 bits has at most 20 digits

pub refused_fits : (n : ℕ) → n < 2 ^ 64 → length (refused_line n) ≤ listing_max
refused_fits n h = simp length-append (omega (arith, length_decimal64 n h))

pub lines_fit : (f : List ℕ) → ((k : ℕ) → get_or f k 0 < 2 ^ 64) → length (lines_in f) ≤ listing_max
lines_fit f h = simp length-append (omega (
  arith,
  digits 0,
  digits 1,
  digits 8,
  digits 9,
  digits 10,
  digits 11,
  digits 12,
  digits 13,
))
  where
    digits : (k : ℕ) → length (decimal (get_or f k 0)) ≤ 20
    digits k = length_decimal64 (get_or f k 0) (h k)

pub number_small : (e : Refusal) → number_of e < 2 ^ 64
number_small TableLayout = lit< tt
number_small Layout = lit< tt
number_small NotPermitted = lit< tt
number_small PastMaximum = lit< tt
number_small NoRoom = lit< tt
number_small NoRow = lit< tt
number_small OtherUse = lit< tt
number_small WrappedLength = lit< tt
number_small WrongTag = lit< tt
number_small SessionSpent = lit< tt
number_small CounterRunsOver = lit< tt
