-- The lookup of a type and a name along the rows of a table: its place, its row, and that no two rows have one type and name.
-- Assumes nothing.
use mathlib.Core.Path.{◌≡◌, refl, sym, ap, ap₂, ◌∙◌}
use mathlib.Core.Bool.{Bool, true, false, ◌&&◌, not, false≢true, and-false}
use mathlib.Core.List.{List, [], ◌∷◌, ◌++◌, map}
use mathlib.Core.Option.{Option, some, none}
use Rattle.std.specs.Prelude.{Ok, Err, is_err}
use Prim.Native.Nat.{ℕ, zero, suc, ◌+◌, ◌*◌, ◌≤◌, ◌<◌}
use native.Mathlib.Nat.{le_of_suc-le-suc, not-suc-le-zero}
use native.Mathlib.Numerals.{add-one}
use native.Mathlib.Omega.{arith}
use borrow.Author.Tests.{eqb-true, eq-eqb, le-leb, lt-leb, not-true}
use lib.Dec.{eqb}
use lib.ListN.{length, take, drop, drop_of_length-le}
use lib.Seq.{drop-cons, drop-drop}
use Rattle.octets.specs.Same.{same}
use Rattle.octets.specs.Lent.{when}
use Rattle.octets.proofs.Tests.{and_left, and_right}
use Rattle.octets.proofs.Same.{same_equal, same_refl}
use Rattle.octets.specs.Tests.{all, part_of}
use Rattle.keytable.specs.Row.{row_size, row_name_at, name_length, name_of, Row, row_in, matches}
use Rattle.keytable.specs.Table.{table_head_size, row_place, head_ok, rows, row_parts, rows_of, no_row, row_number, row_count, absent, distinct, holders, lookup, row_size_at, row_at}
use Rattle.keytable.specs.Find.{place_from, place_of}
use Rattle.keytable.specs.Marks.{last_of_its_pair}
use Rattle.refusals.specs.declared.Refusal.{Refusal}
use Rattle.refusals.specs.declared.Refusal.TheVariants.{TableLayout, NoRow}
use Rattle.octets.proofs.Tests.{all_at}
use Rattle.keytable.proofs.Accepted.{head_total, rows_of_more, rows_of-done, rows_of_at}

-- ---- matches

-- a match is of the row's own type and of its whole name
module _ (type : ℕ) (name : List ℕ) (row : Row) where
  pub matches_both : matches type name row ≡ true → (row.row_type ≡ type) × (row.row_name ≡ name)
  unfolding matches
  matches_both e = (
    eqb-true row.row_type type (and_left (eqb row.row_type type) (same row.row_name name) e),
    same_equal row.row_name name (and_right (eqb row.row_type type) (same row.row_name name) e),
  )

  pub both_match : row.row_type ≡ type → row.row_name ≡ name → matches type name row ≡ true
  unfolding matches
  both_match kind is = rw (eq-eqb row.row_type type kind, is) (same_refl name)

  -- and a row that does not have both does not match
  pub unmatched : (row.row_type ≡ type → row.row_name ≡ name → ⊥) → matches type name row ≡ false
  unmatched never = go (matches type name row) refl
    where
      go : (b : Bool) → matches type name row ≡ b → b ≡ false
      go true e = let (kind, is) = matches_both e in absurd (never kind is)
      go false e = refl

-- a row's name is as many of its bytes from the name's place on as it is long
pub name_part : (s name : List ℕ) → name_of s ≡ name → part_of s row_name_at (length name) ≡ name
name_part s name e = ap (λ (l : List ℕ). part_of s row_name_at (length l)) (sym e) ∙ go (name_length s) (drop row_name_at s) ∙ e
  where
    go : (k : ℕ) (l : List ℕ) → take (length (take k l)) l ≡ take k l
    go zero l = refl
    go (suc k) [] = refl
    go (suc k) (x ∷ l) = ap (λ (m : List ℕ). x ∷ m) (go k l)

-- ---- place_from

-- along the rows: what is left at row i decides
module _ (t : List ℕ) (type : ℕ) (name : List ℕ) (i : ℕ) where
  pub place_from_here : i < row_count t → matches type name (row_in (part_of t (row_place i) row_size)) ≡ true
      → place_from (row_place i) type name (drop i (rows_of t)) ≡ Ok (row_place i)
  unfolding place_from
  place_from_here h e = rw (drop-cons (rows_of t) i no_row (rows_of_more t i h), rows_of_at t i h, e)

  pub place_from_turn : i < row_count t → matches type name (row_in (part_of t (row_place i) row_size)) ≡ false
      → place_from (row_place i) type name (drop i (rows_of t)) ≡ place_from (row_place (i + 1)) type name (drop (i + 1) (rows_of t))
  unfolding place_from
  place_from_turn h e =
      let next : row_place i + row_size ≡ row_place (i + 1) = omega arith in
      rw (drop-cons (rows_of t) i no_row (rows_of_more t i h), rows_of_at t i h, e, next, add-one)

  pub place_from_end : row_count t ≤ i → place_from (row_place i) type name (drop i (rows_of t)) ≡ Err NoRow
  unfolding place_from
  place_from_end h = rw (drop_of_length-le (rows_of t) (rows_of-done t i h))

-- there is no place exactly where no row has the type and the name
pub place_from-absent : (at type : ℕ) (name : List ℕ) (xs : List Row) → is_err (place_from at type name xs) ≡ absent type name xs
unfolding all place_from
place_from-absent at type name [] = refl
place_from-absent at type name (x ∷ xs) = go (matches type name x) (place_from-absent (at + row_size) type name xs)
  where
    go : (t : Bool) → is_err (place_from (at + row_size) type name xs) ≡ absent type name xs
        → is_err (when t (Ok at) (place_from (at + row_size) type name xs)) ≡ (not t && absent type name xs)
    go true ih = refl
    go false ih = ih

-- ---- distinct

-- along the rows: what is left at row i decides
module _ (t : List ℕ) (i : ℕ) where
  pub distinct-stop : i < row_count t → last_of_its_pair t i ≡ false → distinct (drop i (rows_of t)) ≡ false
  unfolding distinct
  distinct-stop h e = rw (drop-cons (rows_of t) i no_row (rows_of_more t i h), rows_of_at t i h, ← add-one i, e)

  pub distinct_turn : i < row_count t → last_of_its_pair t i ≡ true → distinct (drop i (rows_of t)) ≡ distinct (drop (i + 1) (rows_of t))
  unfolding distinct
  distinct_turn h e = rw (drop-cons (rows_of t) i no_row (rows_of_more t i h), rows_of_at t i h, ← add-one i, e) (rw add-one)

  pub distinct_end : row_count t ≤ i → distinct (drop i (rows_of t)) ≡ true
  unfolding distinct
  distinct_end h = rw (drop_of_length-le (rows_of t) (rows_of-done t i h))

-- rows of which some last ones do not differ do not differ
pub distinct-not : (xs : List Row) (i : ℕ) → distinct (drop i xs) ≡ false → distinct xs ≡ false
unfolding distinct
distinct-not xs zero e = e
distinct-not [] (suc i) e = e
distinct-not (x ∷ xs) (suc i) e = rw (distinct-not xs i e) (and-false (absent x.row_type x.row_name xs))

-- what a list of rows without two of one type and name says of its first
abbrev others : Row → List Row → Bool
others x xs = absent x.row_type x.row_name xs

module _ (type : ℕ) (name : List ℕ) where
  -- a row that the first row's type and name match does not come later
  distinct-later : (x : Row) (xs : List Row) (j : ℕ) → others x xs ≡ true → j < length xs
      → matches type name x ≡ true → matches type name (row_number xs j) ≡ true → ⊥
  distinct-later x xs j e h a b =
      let (kind, is) = matches_both type name x a in
      let other = not-true (matches x.row_type x.row_name (row_number xs j))
      (all_at (λ (row : Row). not (matches x.row_type x.row_name row)) xs j no_row e h) in
      false≢true (sym other ∙ ap₂ (λ (k : ℕ) (n : List ℕ). matches k n (row_number xs j)) kind is ∙ b)

  -- two rows of one type and name are one
  pub distinct-one : (xs : List Row) (i j : ℕ) → distinct xs ≡ true → i < length xs → j < length xs
      → matches type name (row_number xs i) ≡ true → matches type name (row_number xs j) ≡ true → i ≡ j
  unfolding distinct
  distinct-one [] i j e hi hj a b = absurd (not-suc-le-zero hi)
  distinct-one (x ∷ xs) zero zero e hi hj a b = refl
  distinct-one (x ∷ xs) zero (suc j) e hi hj a b = absurd (distinct-later x xs j (and_left (others x xs) (distinct xs) e) (le_of_suc-le-suc hj) a b)
  distinct-one (x ∷ xs) (suc i) zero e hi hj a b = absurd (distinct-later x xs i (and_left (others x xs) (distinct xs) e) (le_of_suc-le-suc hi) b a)
  distinct-one (x ∷ xs) (suc i) (suc j) e hi hj a b =
      ap suc (distinct-one xs i j (and_right (others x xs) (distinct xs) e) (le_of_suc-le-suc hi) (le_of_suc-le-suc hj) a b)

-- no row has this type and this name where none of them matches
pub absent-each : (type : ℕ) (name : List ℕ) (xs : List Row) → ((j : ℕ) → j < length xs → matches type name (row_number xs j) ≡ false) → absent type name xs ≡ true
unfolding all
absent-each type name [] each = refl
absent-each type name (x ∷ xs) each = rw (each 0 (omega arith)) (absent-each type name xs (λ j h. each (suc j) (omega (arith, h))))

-- rows that have both one type and one name only where they are one row
abbrev pub Apart : List Row → Type 0
Apart xs =
    (i j : ℕ) → i < length xs → j < length xs → (row_number xs i).row_type ≡ (row_number xs j).row_type → (row_number xs i).row_name ≡ (row_number xs j).row_name → i ≡ j

pub distinct_apart : (xs : List Row) → distinct xs ≡ true → Apart xs
distinct_apart xs e i j hi hj kind is =
    let row = row_number xs i in
    distinct-one row.row_type row.row_name xs i j e hi hj (both_match row.row_type row.row_name row refl refl)
    (both_match row.row_type row.row_name (row_number xs j) (sym kind) (sym is))

pub apart_distinct : (xs : List Row) → Apart xs → distinct xs ≡ true
unfolding distinct
apart_distinct [] apart = refl
apart_distinct (x ∷ xs) apart = rw (absent-each x.row_type x.row_name xs other) (apart_distinct xs later)
  where
    other : (j : ℕ) → j < length xs → matches x.row_type x.row_name (row_number xs j) ≡ false
    other j h = unmatched x.row_type x.row_name (row_number xs j) (λ kind is. absurd (omega (arith, apart 0 (suc j) (omega arith) (omega (arith, h)) (sym kind) (sym is))))

    later : Apart xs
    later i j hi hj kind is = omega (arith, apart (suc i) (suc j) (omega (arith, hi)) (omega (arith, hj)) kind is)

-- ---- lookup

-- the row found is one of the rows, and has the type and the name
pub record OneOf (type : ℕ) (name : List ℕ) (row : Row) (xs : List Row) : Type 0 where
  pub number : ℕ
  pub below : number < length xs
  pub is : row_number xs number ≡ row
  pub has : matches type name row ≡ true

module _ (type : ℕ) (name : List ℕ) where
  pub lookup-one : (row : Row) (xs : List Row) → lookup type name xs ≡ some row → OneOf type name row xs
  unfolding lookup
  lookup-one row [] f = let z : ◌≡◌ {A = ℕ} 0 1 = cc in absurd (omega arith)
  lookup-one row (x ∷ xs) f = go (matches type name x) refl (lookup-one row xs) f
    where
      go : (t : Bool) → matches type name x ≡ t → (lookup type name xs ≡ some row → OneOf type name row xs)
          → when t (some x) (lookup type name xs) ≡ some row → OneOf type name row (x ∷ xs)
      go true hit ih h =
          let first : x ≡ row = cc in
          record { number = 0; below = omega arith; is = first; has = ap (matches type name) (sym first) ∙ hit }
      go false hit ih h =
          let later = ih h in
          record { number = suc later.number; below = omega (arith, later.below); is = later.is; has = later.has }

  -- and some row is found where one of them has both
  pub lookup-some : (xs : List Row) (i : ℕ) → i < length xs → matches type name (row_number xs i) ≡ true → (row : Row) × (lookup type name xs ≡ some row)
  unfolding lookup
  lookup-some [] i h e = absurd (not-suc-le-zero h)
  lookup-some (x ∷ xs) zero h e = (x, rw e)
  lookup-some (x ∷ xs) (suc i) h e =
      let (row, is) = lookup-some xs i (le_of_suc-le-suc h) e in
      go (matches type name x) row is
    where
      go : (t : Bool) (row : Row) → lookup type name xs ≡ some row → (r : Row) × (when t (some x) (lookup type name xs) ≡ some r)
      go true row is = (x, refl)
      go false row is = (row, is)

  -- a row that does not match changes nothing, wherever it stands
  pub lookup_skips : (xs ys : List Row) (row : Row) → matches type name row ≡ false → lookup type name (xs ++ (row ∷ ys)) ≡ lookup type name (xs ++ ys)
  unfolding lookup
  lookup_skips [] ys row e = rw e
  lookup_skips (x ∷ xs) ys row e = ap (when (matches type name x) (some x)) (lookup_skips xs ys row e)

  -- the row at the place found is the row of the type and the name, and lies within the rows
  place-row : (n at p : ℕ) (s : List ℕ) → place_from at type name (map row_in (rows n (drop at s))) ≡ Ok p
      → (lookup type name (map row_in (rows n (drop at s))) ≡ some (row_in (part_of s p row_size))) × (p + row_size ≤ at + row_size * n)
  unfolding rows place_from lookup
  place-row zero at p s e = let z : ◌≡◌ {A = ℕ} 0 1 = cc in absurd (omega arith)
  place-row (suc n) at p s e =
      rw (drop-drop row_size at s) (go (matches type name (row_in (part_of s at row_size))) (place-row n (at + row_size) p s) (rw (drop-drop row_size at s) at e))
    where
      later : List Row
      later = map row_in (rows n (drop (at + row_size) s))

      go : (t : Bool)
          → (place_from (at + row_size) type name later ≡ Ok p
          → (lookup type name later ≡ some (row_in (part_of s p row_size))) × (p + row_size ≤ at + row_size + row_size * n))
          → when t (Ok at) (place_from (at + row_size) type name later) ≡ Ok p
          → (when t (some (row_in (part_of s at row_size))) (lookup type name later) ≡ some (row_in (part_of s p row_size))) × (p + row_size ≤ at + row_size * suc n)
      go true ih h = let here : at ≡ p = cc in (ap (λ (k : ℕ). some (row_in (part_of s k row_size))) here, omega arith)
      go false ih h = let (is, within) = ih h in (is, omega arith)

  -- and it is that of a row by its number
  place-number : (at p : ℕ) (xs : List Row) → place_from at type name xs ≡ Ok p → (i : ℕ) × (i < length xs) × (p ≡ at + row_size * i)
  unfolding place_from
  place-number at p [] e = let z : ◌≡◌ {A = ℕ} 0 1 = cc in absurd (omega arith)
  place-number at p (x ∷ xs) e = go (matches type name x) (place-number (at + row_size) p xs) e
    where
      go : (t : Bool) → (place_from (at + row_size) type name xs ≡ Ok p → (i : ℕ) × (i < length xs) × (p ≡ at + row_size + row_size * i))
          → when t (Ok at) (place_from (at + row_size) type name xs) ≡ Ok p → (i : ℕ) × (i < length (x ∷ xs)) × (p ≡ at + row_size * i)
      go true ih h = let here : at ≡ p = cc in (0, omega arith, omega (arith, here))
      go false ih h = let (i, below, is) = ih h in (suc i, omega (arith, below), omega (arith, is))

  -- where none is found no row has both, and that is all that a lookup along rows can be refused for
  place_none : (at : ℕ) (e : Refusal) (xs : List Row) → place_from at type name xs ≡ Err e → (e ≡ NoRow) × (lookup type name xs ≡ none)
  unfolding place_from lookup
  place_none at e [] h = (cc, refl)
  place_none at e (x ∷ xs) h = go (matches type name x) (place_none (at + row_size) e xs) h
    where
      go : (t : Bool) → (place_from (at + row_size) type name xs ≡ Err e → (e ≡ NoRow) × (lookup type name xs ≡ none))
          → when t (Ok at) (place_from (at + row_size) type name xs) ≡ Err e → (e ≡ NoRow) × (when t (some x) (lookup type name xs) ≡ none)
      go true ih h = let z : ◌≡◌ {A = ℕ} 0 1 = cc in absurd (omega arith)
      go false ih h = ih h

-- ---- row_at

pub size_within : (t : List ℕ) (p : ℕ) → p + row_size ≤ length t → row_size_at t p ≡ row_size
unfolding row_size_at
size_within t p h = rw (le-leb (p + row_size) (length t) h)

pub size_past : (t : List ℕ) (p : ℕ) → length t < p + row_size → row_size_at t p ≡ 0
unfolding row_size_at
size_past t p h = rw (lt-leb (p + row_size) (length t) h)

pub row_at_within : (t : List ℕ) (p : ℕ) → p + row_size ≤ length t → row_at t p ≡ row_in (part_of t p row_size)
row_at_within t p h = ap (λ (n : ℕ). row_in (part_of t p n)) (size_within t p h)

-- ---- place_of

module _ (t : List ℕ) (type : ℕ) (name : List ℕ) where
  pub place_of_broken : head_ok t ≡ false → place_of t type name ≡ Err TableLayout
  unfolding place_of
  place_of_broken e = rw e

  pub place_of_looked : head_ok t ≡ true → place_of t type name ≡ place_from table_head_size type name (rows_of t)
  unfolding place_of
  place_of_looked e = rw e

  pub broken_head : place_of t type name ≡ Err TableLayout → head_ok t ≡ false
  unfolding place_of
  broken_head e = go (head_ok t) e
    where
      go : (head : Bool) → when head (place_from table_head_size type name (rows_of t)) (Err TableLayout) ≡ Err TableLayout → head ≡ false
      go true h = let (other, _) = place_none type name table_head_size TableLayout (rows_of t) h in absurd (let z : ◌≡◌ {A = ℕ} 0 1 = cc in omega arith)
      go false h = refl

  -- a place is found in a table whose header keeps to the layout alone
  pub placed_head : (p : ℕ) → place_of t type name ≡ Ok p → head_ok t ≡ true
  unfolding place_of
  placed_head p e = go (head_ok t) e
    where
      go : (head : Bool) → when head (place_from table_head_size type name (rows_of t)) (Err TableLayout) ≡ Ok p → head ≡ true
      go true h = refl
      go false h = let z : ◌≡◌ {A = ℕ} 0 1 = cc in absurd (omega arith)

  pub place_of-number : (p : ℕ) → place_of t type name ≡ Ok p → (i : ℕ) × (i < length (rows_of t)) × (p ≡ row_place i)
  place_of-number p e = place-number type name table_head_size p (rows_of t) (sym (place_of_looked (placed_head p e)) ∙ e)

  module _ (head : head_ok t ≡ true) where
    pub place_of-row : (p : ℕ) → place_of t type name ≡ Ok p → (lookup type name (rows_of t) ≡ some (row_at t p)) × (p + row_size ≤ length t)
    unfolding row_parts
    place_of-row p e =
        let (is, within) = place-row type name (row_count t) table_head_size p t (sym (place_of_looked head) ∙ e) in
        let inside : p + row_size ≤ length t = omega (arith, head_total t head) in
        (is ∙ ap some (sym (row_at_within t p inside)), inside)

    pub place_of-nothing : (e : Refusal) → place_of t type name ≡ Err e → (e ≡ NoRow) × (lookup type name (rows_of t) ≡ none)
    place_of-nothing e h = place_none type name table_head_size e (rows_of t) (sym (place_of_looked head) ∙ h)

-- ---- holders

-- a row, or none, as a list
abbrev pub as_list : Option Row → List Row
as_list none = []
as_list (some row) = row ∷ []

pub as_list_injective : (a b : Option Row) → as_list a ≡ as_list b → a ≡ b
as_list_injective none none e = refl
as_list_injective none (some y) e = cc
as_list_injective (some x) none e = cc
as_list_injective (some x) (some y) e = cc

module _ (type : ℕ) (name : List ℕ) where
  absent_none : (xs : List Row) → absent type name xs ≡ true → holders type name xs ≡ []
  unfolding all holders
  absent_none [] e = refl
  absent_none (x ∷ xs) e = go (matches type name x) (absent_none xs) e
    where
      go : (t : Bool) → (absent type name xs ≡ true → holders type name xs ≡ []) → (not t && absent type name xs) ≡ true
          → when t (x ∷ holders type name xs) (holders type name xs) ≡ []
      go true ih h = absurd (false≢true h)
      go false ih h = ih h

  -- among rows no two of which have one type and name, those that do are the one that the lookup finds, or none
  pub distinct-holders : (xs : List Row) → distinct xs ≡ true → holders type name xs ≡ as_list (lookup type name xs)
  unfolding distinct holders lookup
  distinct-holders [] e = refl
  distinct-holders (x ∷ xs) e = go (matches type name x) refl (distinct-holders xs (and_right (others x xs) (distinct xs) e))
    where
      alone : matches type name x ≡ true → holders type name xs ≡ []
      alone h =
          let (kind, is) = matches_both type name x h in
          absent_none xs (ap₂ (λ (k : ℕ) (n : List ℕ). absent k n xs) (sym kind) (sym is) ∙ and_left (others x xs) (distinct xs) e)

      go : (t : Bool) → matches type name x ≡ t → holders type name xs ≡ as_list (lookup type name xs)
          → when t (x ∷ holders type name xs) (holders type name xs) ≡ as_list (when t (some x) (lookup type name xs))
      go true h ih = ap (λ (l : List Row). x ∷ l) (alone h)
      go false h ih = ih
