-- The layout of a key table: what an accepted header and an accepted row say, and the rows by their number.
-- Assumes nothing.
use mathlib.Core.Path.{◌≡◌, refl, sym, ap, ◌∙◌}
use mathlib.Core.Bool.{Bool, true, false}
use mathlib.Core.List.{List, [], ◌∷◌}
use Prim.Native.Nat.{ℕ, zero, suc, ◌+◌, ◌*◌, ◌≤◌, ◌<◌}
use native.Mathlib.Nat.{le_of_suc-le-suc, not-suc-le-zero}
use native.Mathlib.Omega.{arith}
use borrow.Author.Tests.{leb-true, eqb-true}
use lib.ListN.{length, get_or, take, drop, get_or-map, length-map}
use lib.Seq.{drop-drop}
use Rattle.std.specs.Prelude.{MatchBool}
use Rattle.std.specs.List.{AllWithin, HoldsAt, range_with_len}
use Rattle.std.proofs.lemmas.List.FromFn.{length-range_with_len, get_or-range_with_len}
use Rattle.octets.specs.Tests.{all, part_of}
use Rattle.keytable.specs.Row.{row_size, name_max, use_max, name_length, use_of, type_in, type_fits, row_ok, row_tests, row_in}
use Rattle.keytable.specs.Table.{table_head_size, row_place, head_ok, head_tests, table_ok, table_tests, rows, row_parts, rows_of, row_number, row_count, distinct}
use Rattle.octets.proofs.Tests.{all_at, every_at}

-- ---- the header

pub head_total : (t : List ℕ) → head_ok t ≡ true → length t ≡ row_place (row_count t)
unfolding head_ok
head_total t e = eqb-true (length t) (row_place (row_count t)) (every_at (head_tests t) 4 e)

-- ---- an accepted table

pub accepted_head : (t : List ℕ) → table_ok t ≡ true → head_ok t ≡ true
unfolding table_ok
accepted_head t e = every_at (table_tests t) 0 e

pub accepted-rows : (t : List ℕ) → table_ok t ≡ true → all row_ok (row_parts t) ≡ true
unfolding table_ok
accepted-rows t e = every_at (table_tests t) 1 e

pub accepted-distinct : (t : List ℕ) → table_ok t ≡ true → distinct (rows_of t) ≡ true
unfolding table_ok
accepted-distinct t e = every_at (table_tests t) 2 e

-- ---- rows

length-rows : (n : ℕ) (s : List ℕ) → length (rows n s) ≡ n
unfolding rows
length-rows zero s = refl
length-rows (suc n) s = ap suc (length-rows n (drop row_size s))

length-parts : (t : List ℕ) → length (row_parts t) ≡ row_count t
unfolding row_parts
length-parts t = length-rows (row_count t) (drop table_head_size t)

-- a table has as many rows as its header says
pub length-rows_of : (t : List ℕ) → length (rows_of t) ≡ row_count t
length-rows_of t = length-map (row_parts t) row_in ∙ length-parts t

rows_at : (n i : ℕ) (s : List ℕ) → i < n → get_or (rows n s) i [] ≡ take row_size (drop (row_size * i) s)
unfolding rows
rows_at zero i s h = absurd (not-suc-le-zero h)
rows_at (suc n) zero s h = refl
rows_at (suc n) (suc i) s h =
    let next : row_size + row_size * i ≡ row_size * suc i = omega arith in
    rows_at n i (drop row_size s) (le_of_suc-le-suc h) ∙ rw (drop-drop, next)

pub rows_of_more : (t : List ℕ) (i : ℕ) → i < row_count t → i < length (rows_of t)
rows_of_more t i h = simp length-rows_of h

pub rows_of-done : (t : List ℕ) (i : ℕ) → row_count t ≤ i → length (rows_of t) ≤ i
rows_of-done t i h = simp length-rows_of h

-- row i of a table is its part from place 8 + 72 i
pub parts_at : (t : List ℕ) (i : ℕ) → i < row_count t → get_or (row_parts t) i [] ≡ part_of t (row_place i) row_size
unfolding row_parts
parts_at t i h = rows_at (row_count t) i (drop table_head_size t) h ∙ rw drop-drop

pub rows_of_at : (t : List ℕ) (i : ℕ) → i < row_count t → row_number (rows_of t) i ≡ row_in (part_of t (row_place i) row_size)
rows_of_at t i h = get_or-map row_in (row_parts t) i [] ∙ ap row_in (parts_at t i h)

-- ---- all rows, by their numbers

all_each : (p : List ℕ → Bool) (s : List (List ℕ)) → ((i : ℕ) → i < length s → p (get_or s i []) ≡ true) → all p s ≡ true
unfolding all
all_each p [] each = refl
all_each p (x ∷ s) each = rw (each 0 (omega arith)) (all_each p s (λ i h. each (suc i) (omega (arith, h))))

module _ (p : List ℕ → Bool) (t : List ℕ) where
  abbrev passes_at : ℕ → Bool
  passes_at i = p (part_of t (row_place i) row_size)

  -- whether each row passes, by what a walk along their numbers found: that each passes, or one that does not
  pub rows_all : (n : ℕ) (b : Bool) → n ≡ row_count t
      → let numbers = range_with_len 0 n in
      MatchBool b (AllWithin (λ i. passes_at i ≡ true) numbers 0 (length numbers))
      ((k : ℕ) × (k < length numbers) × HoldsAt (λ i. passes_at i ≡ false) numbers k)
      → b ≡ all p (row_parts t)
  rows_all n true count each = sym (all_each p (row_parts t) (λ i h. each_at i (omega (arith, h, length-parts t))))
    where
      each_at : (i : ℕ) → i < n → p (get_or (row_parts t) i []) ≡ true
      each_at i below =
          let here : i ≡ get_or (range_with_len 0 n) i 0 = omega (arith, get_or-range_with_len 0 n i 0 below) in
          ap p (parts_at t i (omega arith)) ∙ ap passes_at here ∙ each i 0 (omega arith) (omega (arith, length-range_with_len 0 n))
  rows_all n false count one = go (all p (row_parts t)) refl
    where
      go : (b : Bool) → all p (row_parts t) ≡ b → false ≡ b
      go true e =
          let (i, inside, fails) = one in
          let below : i < row_count t = omega (arith, inside, length-range_with_len 0 n) in
          let here : i ≡ get_or (range_with_len 0 n) i 0 = omega (arith, get_or-range_with_len 0 n i 0 (omega arith)) in
          sym (fails 0) ∙ ap passes_at (sym here) ∙ ap p (sym (parts_at t i below)) ∙ all_at p (row_parts t) i [] e (omega (arith, length-parts t))
      go false e = refl

-- ---- an accepted row

pub record RowKept (s : List ℕ) : Type 0 where
  pub name_short : name_length s ≤ name_max
  pub use_low : 1 ≤ use_of s
  pub use_high : use_of s ≤ use_max
  pub use_fits : type_fits (use_of s) (type_in s) ≡ true

pub row_kept : (s : List ℕ) → row_ok s ≡ true → RowKept s
unfolding row_ok
row_kept s e =
    record {
      name_short = leb-true (name_length s) name_max (every_at (row_tests s) 1 e);
      use_low = leb-true 1 (use_of s) (every_at (row_tests s) 2 e);
      use_high = leb-true (use_of s) use_max (every_at (row_tests s) 3 e);
      use_fits = every_at (row_tests s) 4 e;
    }

-- row i where all are accepted, and so of an accepted table
pub part_ok : (t : List ℕ) (i : ℕ) → all row_ok (row_parts t) ≡ true → i < row_count t → row_ok (part_of t (row_place i) row_size) ≡ true
part_ok t i ok h = ap row_ok (sym (parts_at t i h)) ∙ all_at row_ok (row_parts t) i [] ok (simp length-parts h)

pub part-kept : (t : List ℕ) (i : ℕ) → table_ok t ≡ true → i < row_count t → RowKept (part_of t (row_place i) row_size)
part-kept t i ok h = row_kept (part_of t (row_place i) row_size) (part_ok t i (accepted-rows t ok) h)
