-- The number of a word of digits: one digit at a time, and the greatest of 64 bits where that is larger.
-- Assumes nothing.
use mathlib.Core.Path.{◌≡◌, refl, sym, ap, ◌∙◌}
use mathlib.Core.Bool.{Bool, true, false, not, and-false}
use mathlib.Core.List.{List, [], ◌∷◌}
use Prim.Native.Nat.{ℕ, suc, ◌+◌, ◌*◌, ◌≤◌, ◌<◌, min}
use native.Mathlib.Numerals.{add-one}
use native.Mathlib.Omega.{arith}
use lib.Dec.{eqb, leb}
use lib.ListN.{length, get_or, drop, drop_of_length-le}
use lib.Seq.{drop-cons}
use borrow.Author.Tests.{eq-eqb, ne_eqb, leb-true, leb-false}
use Rattle.std.specs.Prelude.{Some, None}
use Rattle.octets.specs.Tests.{all}
use Rattle.octets.proofs.Tests.{all-stop, all_turn, all_end}
use Rattle.wording.specs.Decimal.{is_decimal_digit, decimal_counts, value_after, value_of}
use Rattle.wording.specs.Number.{greatest, is_decimal, number_read}

-- ---- more digits make no smaller number, so that what is cut off at the greatest may be cut off before they come

value_grows : (v : ℕ) (s : List ℕ) → v ≤ value_after v s
value_grows v [] = omega arith
value_grows v (d ∷ s) = omega (arith, value_grows (v * 10 + decimal_counts d) s)

pub value-cut : (v : ℕ) (s : List ℕ) → min (value_after (min v greatest) s) greatest ≡ min (value_after v s) greatest
value-cut v s = go (leb v greatest) refl
  where
    go : (t : Bool) → leb v greatest ≡ t → min (value_after (min v greatest) s) greatest ≡ min (value_after v s) greatest
    go true e = let small : v ≤ greatest = leb-true v greatest e in let same : min v greatest ≡ v = omega arith in rw same
    go false e =
        let large : greatest < v = leb-false v greatest e in
        let cut : min v greatest ≡ greatest = omega arith in
        rw cut (omega (arith, value_grows greatest s, value_grows v s))

-- ---- the answers

module _ (word : List ℕ) where
  pub read_empty : length word ≡ 0 → number_read word ≡ None
  unfolding number_read is_decimal
  read_empty e = rw (eq-eqb (length word) 0 e)

  read_other : all is_decimal_digit word ≡ false → number_read word ≡ None
  unfolding number_read is_decimal
  read_other e = rw (e, and-false (not (eqb (length word) 0)))

  pub read_number : (length word ≡ 0 → ⊥) → all is_decimal_digit word ≡ true → number_read word ≡ Some (min (value_of word) greatest)
  unfolding number_read is_decimal
  read_number long e = rw (ne_eqb (length word) 0 long, e)

-- ---- along a word by an index: what is left at i decides, with the number v of the digits before it

pub record ReadTo (word : List ℕ) (i v : ℕ) : Type 0 where
  pub long : length word ≡ 0 → ⊥
  pub within : i ≤ length word
  pub small : v ≤ greatest
  pub digits : all is_decimal_digit word ≡ all is_decimal_digit (drop i word)
  pub value : min (value_after v (drop i word)) greatest ≡ min (value_of word) greatest

pub read_none : (word : List ℕ) → (length word ≡ 0 → ⊥) → ReadTo word 0 0
read_none word long = record { long = long; within = omega arith; small = omega arith; digits = refl; value = refl }

module _ {word : List ℕ} {i v : ℕ} (r : ReadTo word i v) where
  pub read-stop : i < length word → is_decimal_digit (get_or word i 0) ≡ false → number_read word ≡ None
  read-stop h e = read_other word (r.digits ∙ all-stop is_decimal_digit word i 0 h e)

  pub read_turn : (d w : ℕ) → i < length word → is_decimal_digit (get_or word i 0) ≡ true → d ≡ decimal_counts (get_or word i 0) → w ≡ min (v * 10 + d) greatest
      → ReadTo word (i + 1) w
  read_turn d w h e counts is = record {
    long = r.long;
    within = omega arith;
    small = omega (arith, is);
    digits = r.digits ∙ all_turn is_decimal_digit word i 0 h e;
    value =
        rw (is, counts, add-one)
        (value-cut (v * 10 + decimal_counts (get_or word i 0)) (drop (suc i) word) ∙ (rw (drop-cons word i 0 h) at r.value));
  }

  pub read_end : length word ≤ i → number_read word ≡ Some v
  read_end h =
      read_number word r.long (r.digits ∙ all_end is_decimal_digit word i h)
      ∙ ap Some (sym (rw (drop_of_length-le word h) at r.value) ∙ omega (arith, r.small))
