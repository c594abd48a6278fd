-- The laws of specs/Laws.antt.
-- Assumes nothing.
use mathlib.Core.Path.{◌≡◌, refl, sym, ap, ◌∙◌}
use mathlib.Core.Logic.{◌↔◌}
use mathlib.Core.Bool.{Bool, true, false, false≢true}
use mathlib.Core.List.{List, [], ◌∷◌}
use mathlib.Core.Option.{Option, some, none}
use Prim.Native.Nat.{ℕ, suc, ◌+◌, ◌≤◌, ◌<◌}
use native.Mathlib.Omega.{arith}
use borrow.Author.Tests.{eqb-true, eq-eqb}
use lib.Dec.{eqb}
use lib.ListN.{length, length-append}
use lib.Seq.{get_or-append_seam}
use Rattle.octets.proofs.Unique.{unique}
use Rattle.octets.specs.Lent.{when}
use Rattle.octets.specs.Tests.{all, part_of}
use Rattle.keytable.specs.Row.{row_size, kek_use, row_name_at, row_key_at, row_key_size, name_length, placed_name, placed_key, data_type, is_kek_type, type_fits, Row, row_in, matches}
use Rattle.keytable.specs.Table.{row_place, head_ok, table_ok, rows, row_parts, rows_of, no_row, row_number, row_count, distinct, holders, lookup, row_for, row_at, placed_row}
use Rattle.keytable.specs.Calls.{table_number, table_answer, find_use}
use Rattle.keytable.specs.Find.{found_says, place_of, found_answer, row_found}
use Rattle.std.specs.Prelude.{Result, Ok, Err}
use Rattle.refusals.specs.declared.Refusal.{Refusal}
use Rattle.refusals.specs.declared.Refusal.TheVariants.{TableLayout, NoRow}
use Rattle.keytable.specs.Laws.{MatchesExactly, NameRead, OtherLength, OtherType, DifferExactly, OneRow, AtMostOne, FindsRow}
use Rattle.keytable.specs.Laws.{FoundRow, NumberBack, FoundNumbered, FoundKey, RowAtNumber, FindsExactly, ElseNothing, FindsBroken, RowForGood, KekByType, OwnRow}
use Rattle.keytable.specs.Laws.{OtherRows, HoldersRow, RowMore, OtherTypeRow, KekRowMore, DataRowMore, EmptyTable}
use Rattle.keytable.specs.Laws.{CheckTestsRise, UseTestsRise, TableCheckUnique, FindUnique, FindUseUnique, RowAtUnique, NameAtUnique, UseAtUnique, KeyAtUnique}
use Rattle.octets.proofs.Tests.{length_part, part_short}
use Rattle.keytable.proofs.Accepted.{head_total, accepted_head, accepted-distinct, length-rows_of, rows_of_more, rows_of_at, row_kept, part-kept}
use Rattle.keytable.proofs.Lookup.{matches_both, both_match, unmatched, distinct-one, distinct_apart, apart_distinct, distinct-holders, as_list}
use Rattle.keytable.proofs.Lookup.{as_list_injective, lookup-one, lookup-some, lookup_skips, placed_head, place_of-number, place_of-row, place_of-nothing, place_of_broken, broken_head, row_at_within}
use Rattle.keytable.proofs.Places.{says_same}

-- ---- matches

pub matches_exactly : MatchesExactly
matches_exactly type name row = (matches_both type name row, λ both. both_match type name row both.0 both.1)

pub name_read : NameRead
name_read s size ok = length_part s row_name_at (name_length s) (omega (arith, (row_kept s ok).name_short))

pub other_length : OtherLength
other_length type name row n = unmatched type name row (λ kind is. n (ap length is))

pub other_type : OtherType
other_type type name row n = unmatched type name row (λ kind is. n kind)

pub differ_exactly : DifferExactly
differ_exactly xs = (distinct_apart xs, apart_distinct xs)

pub one-row : OneRow
one-row t type name i j ok hi hj =
    distinct-one type name (rows_of t) i j (accepted-distinct t ok) (simp length-rows_of hi) (simp length-rows_of hj)

the_row : (t : List ℕ) (type : ℕ) (name : List ℕ) → table_ok t ≡ true → holders type name (rows_of t) ≡ as_list (row_for t type name)
the_row t type name ok = distinct-holders type name (rows_of t) (accepted-distinct t ok)

pub at_most_one : AtMostOne
at_most_one t type name ok = rw (the_row t type name ok) (go (row_for t type name))
  where
    go : (o : Option Row) → length (as_list o) ≤ 1
    go none = omega arith
    go (some row) = omega arith

-- ---- the lookup

pub row_for_good : RowForGood
row_for_good t type name row ok e =
    let one = lookup-one type name row (rows_of t) e in
    let (kind, is-named) = matches_both type name row one.has in
    let below : one.number < row_count t = rw (length-rows_of t) at one.below in
    let s = part_of t (row_place one.number) row_size in
    let within : row_place one.number + row_size ≤ length t = omega (arith, head_total t (accepted_head t ok)) in
    let size : length s ≡ row_size = length_part t (row_place one.number) row_size within in
    let read : row_in s ≡ row = sym (rows_of_at t one.number below) ∙ one.is in
    let kept = part-kept t one.number ok below in
    record {
      type_is = kind;
      name_is = is-named;
      name_short = rw (← is-named, ← read) (omega (arith, part_short s row_name_at (name_length s), kept.name_short));
      use_low = rw (← read) kept.use_low;
      use_high = rw (← read) kept.use_high;
      use_fits = rw (← kind, ← read) kept.use_fits;
      key_size = rw (← read) (length_part s row_key_at row_key_size (omega arith));
    }

-- a use goes with a type exactly where both are a key-encrypting key's, or neither is
fits_kek : (u type : ℕ) → type_fits u type ≡ true → (u ≡ kek_use) ↔ (is_kek_type type ≡ true)
fits_kek u type fits = (λ e. rw (eq-eqb u kek_use e) at fits, λ kek. go (eqb u kek_use) refl fits kek)
  where
    go : (b : Bool) → eqb u kek_use ≡ b → when b (is_kek_type type) (eqb type data_type) ≡ true → is_kek_type type ≡ true → u ≡ kek_use
    go true e h kek = eqb-true u kek_use e
    go false e h kek = absurd (false≢true (rw (eqb-true type data_type h) at kek))

pub kek-by_type : KekByType
kek-by_type type name row good = fits_kek row.row_use type good.use_fits

pub own_row : OwnRow
own_row t i ok h =
    let row = row_number (rows_of t) i in
    let own = both_match row.row_type row.row_name row refl refl in
    let (other, is) = lookup-some row.row_type row.row_name (rows_of t) i (rows_of_more t i h) own in
    let one = lookup-one row.row_type row.row_name other (rows_of t) is in
    let same_place = distinct-one row.row_type row.row_name (rows_of t) one.number i (accepted-distinct t ok) one.below (rows_of_more t i h)
    (ap (matches row.row_type row.row_name) one.is ∙ one.has) own in
    is ∙ ap some (sym one.is ∙ ap (row_number (rows_of t)) same_place)

module _ (t : List ℕ) (type : ℕ) (name : List ℕ) (ok : table_ok t ≡ true) where
  found : (p : ℕ) → place_of t type name ≡ Ok p → (row_for t type name ≡ some (row_at t p)) × (p + row_size ≤ length t)
  found = place_of-row t type name (accepted_head t ok)

  absent-row : (e : Refusal) → place_of t type name ≡ Err e → (e ≡ NoRow) × (row_for t type name ≡ none)
  absent-row = place_of-nothing t type name (accepted_head t ok)

pub finds-row : FindsRow
finds-row t type name f ok e = go f (sym (says_same f (place_of t type name) e))
  where
    go : (g : Result ℕ Refusal) → place_of t type name ≡ g → row_for t type name ≡ row_found t g
    go (Ok p) is = (found t type name ok p is).0
    go (Err e) is = (absent-row t type name ok e is).1

-- ---- the place that was found

pub number_back : NumberBack
number_back i = omega arith

pub found_numbered : FoundNumbered
found_numbered t type name place e =
    let (i, below, is) = place_of-number t type name place (sym (says_same (Ok place) (place_of t type name) (sym e))) in
    record { below = omega (arith, below, is, length-rows_of t); is = omega (arith, is) }

pub found_key : FoundKey
found_key t type name place e =
    let is = sym (says_same (Ok place) (place_of t type name) (sym e)) in
    let (row, within) = place_of-row t type name (placed_head t type name place is) place is in
    ap (λ (x : Row). length x.row_key) (row_at_within t place within)
    ∙ length_part (part_of t place row_size) row_key_at row_key_size (omega (arith, length_part t place row_size within))

pub row_at-number : RowAtNumber
row_at-number t i head below =
    row_at_within t (row_place i) (omega (arith, head_total t head)) ∙ sym (rows_of_at t i below)

pub finds_exactly : FindsExactly
finds_exactly t type name row ok = (to, λ e. from (place_of t type name) refl e)
  where
    to : FoundRow t type name row → row_for t type name ≡ some row
    to h = finds-row t type name (Ok h.place) ok (sym h.answers) ∙ ap some h.is

    from : (f : Result ℕ Refusal) → place_of t type name ≡ f → row_for t type name ≡ some row → FoundRow t type name row
    from (Ok p) given e =
        let (there, inside) = found t type name ok p given in
        let is_row : row_at t p ≡ row = cc in
        record { place = p; answers = ap found_says given; is = is_row; within = inside }
    from (Err x) given e =
        let (_, nowhere) = absent-row t type name ok x given in
        let z : ◌≡◌ {A = ℕ} 0 1 = cc in absurd (omega arith)

pub else-nothing : ElseNothing
else-nothing t type name ok = (λ e. finds-row t type name (Err NoRow) ok (sym e), from (place_of t type name) refl)
  where
    from : (f : Result ℕ Refusal) → place_of t type name ≡ f → row_for t type name ≡ none → found_answer t type name ≡ (6, [])
    from (Ok p) given e =
        let (there, inside) = found t type name ok p given in
        let z : ◌≡◌ {A = ℕ} 0 1 = cc in absurd (omega arith)
    from (Err x) given e = ap found_says (given ∙ ap Err (absent-row t type name ok x given).0)

pub finds-broken : FindsBroken
finds-broken t type name =
    (λ e. broken_head t type name (says_same (place_of t type name) (Err TableLayout) e), λ e. ap found_says (place_of_broken t type name e))

-- ---- other rows

pub other-rows : OtherRows
other-rows t u type name before ok-t ok-u e = rw (ok-t, ok-u, e)

pub holders-row : HoldersRow
holders-row t u type name ok-t ok-u e = as_list_injective _ _ (sym (the_row t type name ok-t) ∙ e ∙ the_row u type name ok-u)

pub other_type-row : OtherTypeRow
other_type-row t u row type name more other =
    ap (lookup type name) more.has
    ∙ lookup_skips type name more.before more.after row (other_type type name row other)
    ∙ ap (lookup type name) (sym more.without)

-- the row more keeps to the layout: its use goes with its type
more_fits : (t u : List ℕ) (row : Row) → table_ok u ≡ true → RowMore t u row → type_fits row.row_use row.row_type ≡ true
more_fits t u row ok more =
    let i = length more.before in
    let rest = length more.after in
    let long : length (rows_of u) ≡ i + suc rest = ap length more.has ∙ length-append more.before (row ∷ more.after) in
    let below : i < row_count u = omega (arith, length-rows_of u) in
    let is : row_in (part_of u (row_place i) row_size) ≡ row =
    sym (rows_of_at u i below) ∙ ap (λ (l : List Row). row_number l i) more.has ∙ get_or-append_seam more.before row more.after no_row in
    rw (← is) (part-kept u i ok below).use_fits

pub kek-row_more : KekRowMore
kek-row_more t u row name ok more kek =
    let kek-type = (fits_kek row.row_use row.row_type (more_fits t u row ok more)).0 kek in
    other_type-row t u row data_type name more (λ zero-type. false≢true (rw zero-type at kek-type))

pub data-row_more : DataRowMore
data-row_more t u row type name ok more other kek-type =
    other_type-row t u row type name more
    (λ same. other ((fits_kek row.row_use row.row_type (more_fits t u row ok more)).1 (ap is_kek_type same ∙ kek-type)))

-- ---- the lowest

pub check_tests_rise : CheckTestsRise
check_tests_rise t = refl

pub use_tests_rise : UseTestsRise
use_tests_rise ok row type name = refl

-- ---- the empty table

pub empty-table : EmptyTable
unfolding all head_ok rows row_parts distinct table_ok table_number table_answer
empty-table = refl

-- ---- one answer

pub table_check_unique : TableCheckUnique
table_check_unique t x y p q = says_same x y (p ∙ sym q)

pub find_unique : FindUnique
find_unique t type name x y p q = says_same x y (p ∙ sym q)

pub row_at_unique : RowAtUnique
row_at_unique t at = unique (placed_row t at)

pub name_at_unique : NameAtUnique
name_at_unique t at = unique (placed_name (placed_row t at))

pub use_at_unique : UseAtUnique
use_at_unique t at = unique (row_at t at).row_use

pub key_at_unique : KeyAtUnique
key_at_unique t at = unique (placed_key (placed_row t at))

pub find_use_unique : FindUseUnique
find_use_unique t type name before = unique (find_use t type name before)
