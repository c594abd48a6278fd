-- Marks: rows of one name that keep to the layout have one mark, so a row whose mark no later row has is the last of its pair; and sets of marks.
-- Assumes nothing.
use mathlib.Core.Path.{◌≡◌, refl, sym, ap, ◌∙◌}
use mathlib.Core.Bool.{Bool, true, false, false≢true}
use mathlib.Core.List.{List, [], ◌∷◌, ◌++◌}
use Prim.Native.Nat.{ℕ, ◌+◌, ◌-◌, ◌*◌, ◌/◌, ◌%◌, ◌^◌, ◌≤◌, ◌<◌}
use native.Mathlib.Nat.{mod-lt}
use native.Mathlib.Omega.{arith}
use borrow.Author.Tests.{eqb-true, eqb-false, eq-eqb}
use lib.Bits.{bit_or, bit_xor, or_add_and, and_le_r, or_comm, or_lt, or_shr, or_mod}
use lib.Dec.{eqb}
use lib.ListN.{length, get_or, set, drop, take, replicate, length-drop}
use lib.Pow.{shl_exact, shl-shr}
use lib.Seq.{get_or-drop, get_or-set_same, get_or-set_other, take-add, drop-drop}
use Rattle.octets.specs.BigEndian.{number_at}
use Rattle.octets.specs.Tests.{all, zeros, part_of}
use Rattle.octets.proofs.Tests.{and_left, and_right, every_at, length_part}
use Rattle.octets.proofs.Values.{cons_equal}
use Rattle.keytable.specs.Row.{name_max, row_name_at, row_size, name_length, name_of, row_in, row_ok, row_tests, Row, matches}
use Rattle.keytable.specs.Table.{row_place, row_count, row_parts, rows_of, no_row, row_number}
use Rattle.keytable.specs.Marks.{mark_count, turned_right, mark_from, name_mark, row_mark, has_mark, last_of_its_pair}
use Rattle.keytable.proofs.Accepted.{length-rows_of, rows_of_at, row_kept, part_ok}
use Rattle.keytable.proofs.Lookup.{unmatched, absent-each}

-- ---- one name, one mark

-- the mark, by four words that were read, and turned
abbrev pub mark_by : ℕ → ℕ → ℕ → ℕ → ℕ
mark_by a b c d =
    let mix = bit_xor (bit_xor (bit_xor a b) c) d in
    (mix / 0x100000000 % 0x100000000 * 0x297A2D39 + mix % 0x100000000 * 0x1E3779B1) / 0x4000000 % mark_count

pub mark_words : (s : List ℕ) (a b c d : ℕ)
    → a ≡ number_at 8 s 0 → b ≡ turned_right 4 (number_at 8 s 8) → c ≡ turned_right 20 (number_at 8 s 16) → d ≡ turned_right 36 (number_at 8 s 24)
    → mark_by a b c d ≡ name_mark s
unfolding mark_from
mark_words s a b c d is-a is_b is_c is-d = cc

zeros_are : (s : List ℕ) → zeros s ≡ true → s ≡ replicate (length s) 0
unfolding all
zeros_are [] e = refl
zeros_are (b ∷ s) e = cons_equal (eqb-true b 0 (and_left (eqb b 0) (zeros s) e)) (zeros_are s (and_right (eqb b 0) (zeros s) e))

-- the bytes in which the name of a row stands are the name and zeros
name-whole : (s : List ℕ) → length s ≡ row_size → row_ok s ≡ true → part_of s row_name_at name_max ≡ name_of s ++ replicate (name_max - length (name_of s)) 0
unfolding row_ok
name-whole s size ok =
    let k = name_length s in
    let short : k ≤ name_max = (row_kept s ok).name_short in
    let left = part_of s (row_name_at + k) (name_max - k) in
    let blank : left ≡ replicate (length left) 0 = zeros_are left (every_at (row_tests s) 6 ok) in
    let rest : length left ≡ name_max - length (name_of s) =
    length_part s (row_name_at + k) (name_max - k) (omega arith) ∙ ap (λ (n : ℕ). name_max - n) (sym (length_part s row_name_at k (omega arith))) in
    let whole : name_max ≡ k + (name_max - k) = omega arith in
    ap (λ (n : ℕ). take n (drop row_name_at s)) whole
    ∙ take-add k (name_max - k) (drop row_name_at s)
    ∙ ap (λ (l : List ℕ). name_of s ++ l) (ap (take (name_max - k)) (drop-drop k row_name_at s) ∙ blank ∙ ap (λ (n : ℕ). replicate n 0) rest)

mark-same : (s u : List ℕ) → length s ≡ row_size → length u ≡ row_size → row_ok s ≡ true → row_ok u ≡ true → name_of s ≡ name_of u → row_mark s ≡ row_mark u
mark-same s u size-s size-u ok-s ok-u e =
    ap name_mark (name-whole s size-s ok-s ∙ ap (λ (n : List ℕ). n ++ replicate (name_max - length n) 0) e ∙ sym (name-whole u size-u ok-u))

-- ---- a set of marks: one is put in

abbrev with_mark : List ℕ → ℕ → List ℕ
with_mark seen m = set seen (m / 64) (bit_or (get_or seen (m / 64) 0) (1 * 2 ^ (m % 64) % 2 ^ 64))

-- a bit that one of two numbers has is in both together
either-bit : (a b k : ℕ) → bit_or a b / 2 ^ k % 2 ≡ bit_or (a / 2 ^ k % 2) (b / 2 ^ k % 2)
either-bit a b k = ap (λ (n : ℕ). n % 2) (or_shr a b k) ∙ or_mod (a / 2 ^ k) (b / 2 ^ k) 1

or-one : (a b : ℕ) → a ≡ 1 → b < 2 → bit_or a b ≡ 1
or-one a b e h = omega (arith, or_add_and a b, and_le_r a b, or_lt 1 a b (omega arith) h)

first_bit : (a b k : ℕ) → a / 2 ^ k % 2 ≡ 1 → bit_or a b / 2 ^ k % 2 ≡ 1
first_bit a b k e = either-bit a b k ∙ or-one (a / 2 ^ k % 2) (b / 2 ^ k % 2) e (mod-lt _ (omega arith))

own-bit : (a k : ℕ) → k < 64 → bit_or a (1 * 2 ^ k % 2 ^ 64) / 2 ^ k % 2 ≡ 1
own-bit a k h =
    let b = 1 * 2 ^ k % 2 ^ 64 in
    let one : b / 2 ^ k % 2 ≡ 1 = ap (λ (n : ℕ). n / 2 ^ k % 2) (shl_exact 1 k 64 (omega arith) (omega arith)) ∙ ap (λ (n : ℕ). n % 2) (shl-shr 1 k) in
    ap (λ (n : ℕ). n / 2 ^ k % 2) (or_comm a b) ∙ first_bit b a k one

module _ (seen : List ℕ) (m : ℕ) (within : m / 64 < length seen) where
  -- the word that holds a mark, once it is put in
  word : get_or (with_mark seen m) (m / 64) 0 ≡ bit_or (get_or seen (m / 64) 0) (1 * 2 ^ (m % 64) % 2 ^ 64)
  word = get_or-set_same seen (m / 64) (bit_or (get_or seen (m / 64) 0) (1 * 2 ^ (m % 64) % 2 ^ 64)) 0 within

  pub has_own : has_mark (with_mark seen m) m ≡ true
  has_own = eq-eqb _ 1 (rw word (own-bit (get_or seen (m / 64) 0) (m % 64) (mod-lt m (omega arith))))

  pub has_still : (k : ℕ) → has_mark seen k ≡ true → has_mark (with_mark seen m) k ≡ true
  has_still k e = eq-eqb _ 1 (go (eqb (k / 64) (m / 64)) refl)
    where
      had : get_or seen (k / 64) 0 / 2 ^ (k % 64) % 2 ≡ 1
      had = eqb-true _ 1 e

      go : (t : Bool) → eqb (k / 64) (m / 64) ≡ t → get_or (with_mark seen m) (k / 64) 0 / 2 ^ (k % 64) % 2 ≡ 1
      go true is =
          let one_word : k / 64 ≡ m / 64 = eqb-true (k / 64) (m / 64) is in
          rw (one_word, word) (first_bit (get_or seen (m / 64) 0) (1 * 2 ^ (m % 64) % 2 ^ 64) (k % 64) (rw one_word at had))
      go false other = rw (get_or-set_other seen (m / 64) (k / 64) _ 0 (eqb-false (k / 64) (m / 64) other)) had

-- ---- along the rows, from the last to the first

module _ (t : List ℕ) where
  abbrev pub mark_at : ℕ → ℕ
  mark_at i = row_mark (part_of t (row_place i) row_size)

  -- the set has the marks of the rows from number i on
  pub record Marked (seen : List ℕ) (i : ℕ) : Type 0 where
    pub each : (j : ℕ) → i ≤ j → j < row_count t → has_mark seen (mark_at j) ≡ true

  pub marked_end : (seen : List ℕ) (i : ℕ) → row_count t ≤ i → Marked seen i
  marked_end seen i h = record { each = λ j from below. absurd (omega arith) }

  module _ (seen : List ℕ) (i m : ℕ) (is : m ≡ mark_at i) (later : Marked seen (i + 1)) where
    pub marked_turn : (more : List ℕ) → has_mark more m ≡ true → ((k : ℕ) → has_mark seen k ≡ true → has_mark more k ≡ true) → Marked more i
    marked_turn more own others = record { each = λ j from below. go j below (eqb j i) refl from }
      where
        go : (j : ℕ) → j < row_count t → (b : Bool) → eqb j i ≡ b → i ≤ j → has_mark more (mark_at j) ≡ true
        go j below true this from = rw (eqb-true j i this, ← is) own
        go j below false other from =
            let differ = eqb-false j i other in
            others (mark_at j) (later.each j (omega (arith, differ)) below)

    -- where all rows keep to the layout, a row whose mark no later row has is the last of its pair
    pub marked_last : length t ≡ row_place (row_count t) → all row_ok (row_parts t) ≡ true → i < row_count t → has_mark seen m ≡ false → last_of_its_pair t i ≡ true
    marked_last total ok h none = absent-each this.row_type this.row_name (drop (i + 1) (rows_of t)) each
      where
        this : Row
        this = row_in (part_of t (row_place i) row_size)

        size : (j : ℕ) → j < row_count t → length (part_of t (row_place j) row_size) ≡ row_size
        size j below = length_part t (row_place j) row_size (omega (arith, total))

        other : (j : ℕ) → i < j → j < row_count t → name_of (part_of t (row_place j) row_size) ≡ this.row_name → ⊥
        other j from below e =
            let one-mark = mark-same _ _ (size j below) (size i h) (part_ok t j ok below) (part_ok t i ok h) e in
            false≢true (sym none ∙ rw (is, ← one-mark) (later.each j (omega arith) below))

        each : (k : ℕ) → k < length (drop (i + 1) (rows_of t)) → matches this.row_type this.row_name (row_number (drop (i + 1) (rows_of t)) k) ≡ false
        each k below =
            let j : ℕ = i + 1 + k in
            let inside : j < row_count t = omega (arith, length-drop (i + 1) (rows_of t), length-rows_of t) in
            let found : row_number (drop (i + 1) (rows_of t)) k ≡ row_in (part_of t (row_place j) row_size) =
            get_or-drop (i + 1) (rows_of t) k no_row ∙ rows_of_at t j inside in
            ap (matches this.row_type this.row_name) found
            ∙ unmatched this.row_type this.row_name (row_in (part_of t (row_place j) row_size)) (λ kind e. other j (omega arith) inside e)
