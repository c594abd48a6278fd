-- The newlines of a text: one for the count, and one for each descriptor.
-- Assumes nothing.
use mathlib.Core.Path.{◌≡◌, refl, ◌∙◌}
use mathlib.Core.Bool.{Bool, true, false}
use mathlib.Core.List.{List, [], ◌∷◌, ◌++◌}
use Prim.Native.Nat.{ℕ, ◌+◌, ◌-◌, ◌/◌, ◌%◌, ◌≤◌}
use native.Mathlib.Omega.{arith}
use lib.Dec.{eqb, leb, ltb}
use lib.ListN.{length}
use borrow.Author.Tests.{ne_eqb, leb-true}
use Rattle.octets.specs.Lent.{when}
use Rattle.octets.specs.Tests.{all}
use Rattle.octets.proofs.Tests.{and_left, and_right}
use Rattle.wording.specs.Ascii.{ascii}
use Rattle.wording.specs.Decimal.{is_decimal_digit, decimal}
use Rattle.wording.specs.Hex.{digit_of, digits_of, digits_shown}
use Rattle.wording.specs.Lines.{newline, line}
use Rattle.wording.proofs.Laws.{decimal_digits}
use Rattle.descriptors.specs.Parse.{split}
use Rattle.descriptors.specs.Tested.{unreserved, count_of}
use Rattle.descriptor_text.specs.Lines.{descriptor_line, descriptor_lines, list_text}
use Rattle.descriptor_text.specs.Laws.{newlines_in, CountsLines}

newlines_append : (s t : List ℕ) → newlines_in (s ++ t) ≡ newlines_in s + newlines_in t
unfolding newlines_in
newlines_append [] t = omega arith
newlines_append (b ∷ s) t = rw (newlines_append s t) (omega arith)

-- a digit is no newline
other : (b : ℕ) (s : List ℕ) → 48 ≤ b → newlines_in (b ∷ s) ≡ newlines_in s
unfolding newlines_in
other b s h = rw (ne_eqb b 10 (λ e. absurd (omega (arith, e, h)))) (omega arith)

digit_large : (d : ℕ) → 48 ≤ digit_of true d
unfolding digit_of
digit_large d = go (ltb d 10)
  where
    go : (b : Bool) → 48 ≤ when b (48 + d) (65 + (d - 10))
    go true = omega arith
    go false = omega arith

newlines_hex : (s : List ℕ) → newlines_in (digits_of true s) ≡ 0
unfolding newlines_in digits_of
newlines_hex [] = refl
newlines_hex (b ∷ s) =
    other (digit_of true (b / 16)) (digit_of true (b % 16) ∷ digits_of true s) (digit_large (b / 16))
    ∙ other (digit_of true (b % 16)) (digits_of true s) (digit_large (b % 16))
    ∙ newlines_hex s

newlines_digits : (s : List ℕ) → all is_decimal_digit s ≡ true → newlines_in s ≡ 0
unfolding newlines_in all
newlines_digits [] e = refl
newlines_digits (b ∷ s) e =
    let digit = and_left (is_decimal_digit b) (all is_decimal_digit s) e in
    other b s (leb-true 48 b (and_left (leb 48 b) (leb b 57) digit)) ∙ newlines_digits s (and_right (is_decimal_digit b) (all is_decimal_digit s) e)

newlines_bytes : (s : List ℕ) → newlines_in (digits_shown true s) ≡ 0
unfolding newlines_in digits_shown
newlines_bytes s = go (eqb (length s) 0)
  where
    go : (b : Bool) → newlines_in (when b (ascii "-") (digits_of true s)) ≡ 0
    go true = refl
    go false = newlines_hex s

newlines-line : (d : List ℕ) → newlines_in (descriptor_line d) ≡ 1
unfolding newlines_in descriptor_line
newlines-line d = simp (newlines_append, newlines_hex, newlines_bytes)

newlines_lines : (ds : List (List ℕ)) → newlines_in (descriptor_lines ds) ≡ length ds
unfolding newlines_in descriptor_lines
newlines_lines [] = refl
newlines_lines (d ∷ ds) = newlines_append (descriptor_line d) (descriptor_lines ds) ∙ rw (newlines-line d, newlines_lines ds) (omega arith)

newlines_count : (n : ℕ) → newlines_in (line (ascii "descriptors") n) ≡ 1
unfolding newlines_in
newlines_count n = rw (newlines_append (decimal n) (newline ∷ []), newlines_digits (decimal n) (decimal_digits n)) refl

pub counts_lines : CountsLines
unfolding list_text
counts_lines label s =
    newlines_append (line (ascii "descriptors") (count_of label s)) (descriptor_lines (unreserved label (split s).0))
    ∙ rw (newlines_count (count_of label s), newlines_lines (unreserved label (split s).0)) refl
