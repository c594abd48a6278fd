-- A string written over the front of another, and what the answer of a call tells.
-- Assumes nothing.
use mathlib.Core.Path.{◌≡◌, refl, sym, ap, ap₂, subst, ◌∙◌}
use mathlib.Core.Bool.{Bool, true, false, ◌||◌}
use mathlib.Core.List.{List, [], ◌∷◌, ◌++◌, append-nil}
use Prim.Native.Nat.{ℕ, zero, suc, ◌+◌, ◌-◌, ◌≤◌, ◌<◌, min}
use native.Mathlib.Nat.{add-zero, zero-min, min-zero, suc-min-suc}
use native.Mathlib.Numerals.{add-one}
use native.Mathlib.Omega.{arith}
use lib.Dec.{eqb, ltb}
use lib.ListN.{length, get_or, set, take, drop, replicate, length-replicate, length-append, length-take, length-drop, drop_of_length-le}
use lib.Seq.{get_or-drop, take_all, take-nil, take-suc, drop-cons, set_at, append_snoc, length-take-le, take_at, drop_at}
use borrow.Rule.Slice.PartMut.{put_mid}
use borrow.Author.Tests.{eqb-true, eq-eqb, ltb-true, not-false}
use Rattle.octets.specs.Tests.{part_of}
use Rattle.octets.specs.Values.{values, bytes_at}
use Rattle.octets.specs.Lent.{Tests, when, is_not, lowest, over, answer}
use Rattle.octets.specs.Lowest.{rises_above, rises}
use Rattle.octets.proofs.Values.{cons_equal, values-later, values-from, values_same, values_list}
use Rattle.octets.proofs.Tests.{and_left, and_right, or_left, or_right, rest_all}

-- ---- lengths

pub is_not-false : (n : ℕ) (s : List ℕ) → is_not n s ≡ false → length s ≡ n
is_not-false n s right = eqb-true (length s) n (not-false (eqb (length s) n) right)

pub is_not_right : (n : ℕ) (s : List ℕ) → length s ≡ n → is_not n s ≡ false
is_not_right n s e = rw (eq-eqb (length s) n e)

-- two strings whose lengths are tested together
module _ (m n : ℕ) (s t : List ℕ) (right : (is_not m s || is_not n t) ≡ false) where
  pub first_right : length s ≡ m
  first_right = is_not-false m s (or_left (is_not m s) (is_not n t) right)

  pub second_right : length t ≡ n
  second_right = is_not-false n t (or_right (is_not m s) (is_not n t) right)

-- ---- over

pub over_fits : (s d : List ℕ) → length s ≤ length d → over s d ≡ s ++ drop (length s) d
over_fits s d h = ap (λ (l : List ℕ). l ++ drop (length s) d) (take_all (length d) s h)

pub over-whole : (s d : List ℕ) → length s ≡ length d → over s d ≡ s
over-whole s d e = over_fits s d (omega arith) ∙ ap (λ (l : List ℕ). s ++ l) (drop_of_length-le d {i = length s} (omega arith)) ∙ append-nil s

-- a string copied over as many zeros
pub over_zeros : (s : List ℕ) (n : ℕ) → length s ≡ n → over s (replicate n 0) ≡ s
over_zeros s n e = over-whole s (replicate n 0) (e ∙ sym (length-replicate n 0))

pub over_empty : (d : List ℕ) → over [] d ≡ d
over_empty d = ap (λ (l : List ℕ). l ++ d) (take-nil (length d))

pub length_over : (s d : List ℕ) → length (over s d) ≡ length d
length_over s d = simp (length-append, length-take, length-drop) (omega arith)

-- two strings end to end, the first of which fits
pub over_append : (s t d : List ℕ) → length s ≤ length d → over (s ++ t) d ≡ s ++ over t (drop (length s) d)
over_append [] t d fits = refl
over_append (x ∷ s) t [] fits = absurd (omega arith)
over_append (x ∷ s) t (y ∷ d) fits = ap (λ (l : List ℕ). x ∷ l) (over_append s t d (omega arith))

-- and of which nothing but the first has room
pub over_first : (s t d : List ℕ) → length d ≤ length s → over (s ++ t) d ≡ over s d
over_first s t [] full = nothing (s ++ t) ∙ sym (nothing s)
  where
    nothing : (l : List ℕ) → over l [] ≡ []
    nothing l = drop_of_length-le [] {i = length l} (omega arith)
over_first [] t (y ∷ d) full = absurd (omega arith)
over_first (x ∷ s) t (y ∷ d) full = ap (λ (l : List ℕ). x ∷ l) (over_first s t d (omega arith))

-- ---- the loop that writes: after i bytes

pub over_turn : (s d : List ℕ) (i : ℕ) → i < length s → i < length d → set (take i s ++ drop i d) i (get_or s i 0) ≡ take (i + 1) s ++ drop (i + 1) d
over_turn s d i hs hd =
    rw (add-one, take-suc s i 0 hs, drop-cons d i 0 hd)
    (set_at (take i s) (get_or d i 0) (drop (suc i) d) (get_or s i 0) i (length-take-le i s (omega arith)) ∙ sym (append_snoc (take i s) (get_or s i 0) (drop (suc i) d)))

over_shorter : (s d : List ℕ) → take (min (length s) (length d)) s ++ drop (min (length s) (length d)) d ≡ over s d
over_shorter [] d = rw (zero-min (length d)) (sym (over_empty d))
over_shorter (x ∷ s) [] = rw (min-zero (suc (length s)))
over_shorter (x ∷ s) (y ∷ d) = rw (suc-min-suc (length s) (length d)) (ap (λ (l : List ℕ). x ∷ l) (over_shorter s d))

pub over_end : (s d : List ℕ) (i : ℕ) → i ≡ min (length s) (length d) → take i s ++ drop i d ≡ over s d
over_end s d i e = rw e (over_shorter s d)

-- ---- the first n bytes of a string, with zeros where it is shorter

none-values : (i n : ℕ) → replicate {A = ℕ} n 0 ≡ values (λ k. get_or [] k 0) i n
none-values i zero = refl
none-values i (suc n) = cons_equal refl (none-values (suc i) n)

front_values : (n : ℕ) (s : List ℕ) → over (take n s) (replicate n 0) ≡ values (λ k. get_or s k 0) 0 n
front_values zero s = refl
front_values (suc n) [] = over_empty (replicate (suc n) 0) ∙ none-values 0 (suc n)
front_values (suc n) (x ∷ s) = cons_equal refl (front_values n s ∙ sym (values-later (λ k. get_or (x ∷ s) k 0) 0 n))

-- as they are read from place i on
pub over_part : (n : ℕ) (s : List ℕ) (i : ℕ) → bytes_at n s i ≡ over (part_of s i n) (replicate n 0)
over_part n s i =
    sym (ap (λ (k : ℕ). bytes_at n s k) (add-zero i))
    ∙ values-from (λ k. get_or s k 0) i 0 n
    ∙ sym (front_values n (drop i s) ∙ values_same _ _ 0 n (λ k lo hi. get_or-drop i s k 0))

-- ---- answers

pub answer-refused : (n : ℕ) (result before : List ℕ) → eqb n 0 ≡ false → answer n result before ≡ (n, before)
answer-refused n result before e = rw e

pub answer-done : (n : ℕ) (result before : List ℕ) → n ≡ 0 → answer n result before ≡ (0, over result before)
answer-done n result before e = rw e

-- a statement that is an equation has one answer
pub one_answer : {A : Type 0} {x a b : A} → x ≡ a → x ≡ b → a ≡ b
one_answer p q = sym p ∙ q

-- ---- where 0 is given, no test of the list applies

abbrev pub test_at : Tests → ℕ → Bool
test_at [] i = false
test_at (n ∷ ns) zero = n.1
test_at (n ∷ ns) (suc i) = test_at ns i

none_above : (least : ℕ) (ns : Tests) (i : ℕ) → rises_above least ns ≡ true → lowest ns ≡ 0 → test_at ns i ≡ false
none_above least [] i h e = refl
none_above least (n ∷ ns) i h e =
    go n.1 refl e i (λ (j : ℕ) (q : lowest ns ≡ 0). none_above n.0 ns j (and_right (ltb least n.0) (rises_above n.0 ns) h) q)
  where
    above : least < n.0
    above = ltb-true least n.0 (and_left (ltb least n.0) (rises_above n.0 ns) h)

    go : (t : Bool) → n.1 ≡ t → when t n.0 (lowest ns) ≡ 0 → (i : ℕ) → ((j : ℕ) → lowest ns ≡ 0 → test_at ns j ≡ false) → test_at (n ∷ ns) i ≡ false
    go true p q i ih = absurd (omega (arith, above))
    go false p q zero ih = p
    go false p q (suc i) ih = ih i q

pub none_applies : (ns : Tests) (i : ℕ) → rises ns ≡ true → lowest ns ≡ 0 → test_at ns i ≡ false
none_applies = none_above 0

-- ---- a result that fits, over the front of an output

module _ (s d : List ℕ) (n : ℕ) (size : length s ≡ n) (fits : n ≤ length d) where
  pub take-over : take n (over s d) ≡ s
  take-over = ap (take n) (over_fits s d (omega arith)) ∙ take_at s (drop (length s) d) n size

  pub drop-over : drop n (over s d) ≡ drop n d
  drop-over = ap (drop n) (over_fits s d (omega arith)) ∙ drop_at s (drop (length s) d) n size ∙ ap (λ (k : ℕ). drop k d) size

pub over_injective : (s t d : List ℕ) → length s ≡ length t → length t ≤ length d → over s d ≡ over t d → s ≡ t
over_injective s t d size fits e = sym (take-over s d (length t) size fits) ∙ ap (take (length t)) e ∙ take-over t d (length t) refl fits

-- ---- a string written over the front of an output, and another after it in the part that is lent from there: the two written as one

-- the front is then the string
pub over_front : (s d d₁ : List ℕ) (n : ℕ) → length s ≡ n → n ≤ length d → d₁ ≡ over s d → take n d₁ ≡ s
over_front s d d₁ n size fits first = ap (take n) first ∙ take-over s d n size fits

module _ (s t d d₁ ys : List ℕ) (n : ℕ) (size : length s ≡ n) (fits : n ≤ length d) (first : d₁ ≡ over s d) where
  rest : drop n d₁ ≡ drop n d
  rest = ap (drop n) first ∙ drop-over s d n size fits

  pub over_then : ys ≡ over t (take (length d₁ - n) (drop n d₁)) → take n d₁ ++ (ys ++ drop (length d₁ - n) (drop n d₁)) ≡ over (s ++ t) d
  over_then second =
      ap₂ (λ (x y : List ℕ). x ++ y) (over_front s d d₁ n size fits first) (ap₂ (λ (x y : List ℕ). x ++ y) written none ∙ append-nil (over t (drop n d)))
      ∙ ap (λ (k : ℕ). s ++ over t (drop k d)) (sym size)
      ∙ sym (over_append s t d (omega arith))
    where
      none : drop (length d₁ - n) (drop n d₁) ≡ []
      none = drop_of_length-le (drop n d₁) {i = length d₁ - n} (omega (arith, length-drop n d₁))

      written : ys ≡ over t (drop n d)
      written = second ∙ ap (over t) (rest_all d₁ n ∙ rest)

-- ---- eight bytes copied into sixteen zeros, and eight after them

module _ (s t : List ℕ) (size : length s ≡ 8) where
  pub over_eights : (x y : List ℕ) → x ≡ s → y ≡ t → put_mid 8 8 (x ++ replicate 8 0) y ≡ s ++ t
  over_eights x y first second =
      ap₂ (λ (a b : List ℕ). put_mid 8 8 (a ++ replicate 8 0) b) first second
      ∙ subst (λ (l : List ℕ). put_mid 8 8 (l ++ replicate 8 0) t ≡ l ++ t) (values_list s 0 8 size)
      (ap (λ (l : List ℕ). values (λ k. get_or s k 0) 0 8 ++ l) (append-nil t))
