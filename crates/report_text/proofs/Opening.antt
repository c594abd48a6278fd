-- Which row a record opens by: exactly the one of its name by which verification gives 0, and so one row at most.
-- Assumes nothing.
use mathlib.Core.Path.{◌≡◌, refl, sym, ap₂, ◌∙◌}
use mathlib.Core.Bool.{Bool, true, false, false≢true}
use mathlib.Core.List.{List, [], ◌∷◌}
use mathlib.Core.Option.{some}
use Prim.Native.Nat.{ℕ, ◌+◌, ◌≤◌}
use native.Mathlib.Omega.{arith}
use borrow.Author.Tests.{eqb-true}
use lib.Dec.{eqb}
use lib.ListN.{length}
use Rattle.octets.specs.Lent.{when}
use Rattle.octets.proofs.Tests.{and_left, and_right}
use Rattle.keytable.specs.Row.{data_type, is_kek_type, Row, matches}
use Rattle.keytable.specs.Table.{rows_of, row_number, table_ok, row_for, data_row}
use Rattle.keytable.proofs.Laws.{own_row, row_for_good, kek-by_type, one-row}
use Rattle.keytable.proofs.Lookup.{matches_both, unmatched, lookup-one}
use Rattle.record.specs.Record.{count_in, name_in}
use Rattle.record.specs.Open.{open_number, verify_answer}
use Rattle.record.proofs.VerifyLaws.{verify_exactly}
use Rattle.report_text.specs.Opens.{opens_with, opens_by}
use Rattle.report_text.specs.Laws.{OpensByExactly, OpensSealed, OpensByOne, KekOpensNone, OpensFew}

-- ---- one record

module _ (row : Row) (r : List ℕ) where
  pub opens_both : opens_with row r ≡ true → (matches data_type (name_in r) row ≡ true) × (open_number true (some row) r [] (count_in r) ≡ 0)
  unfolding opens_with
  opens_both e = (
    and_left (matches data_type (name_in r) row) (eqb (open_number true (some row) r [] (count_in r)) 0) e,
    eqb-true (open_number true (some row) r [] (count_in r)) 0 (and_right (matches data_type (name_in r) row) (eqb (open_number true (some row) r [] (count_in r)) 0) e),
  )

  pub both_open : matches data_type (name_in r) row ≡ true → open_number true (some row) r [] (count_in r) ≡ 0 → opens_with row r ≡ true
  unfolding opens_with
  both_open m e = rw (m, e)

  pub opens_not : matches data_type (name_in r) row ≡ false → opens_with row r ≡ false
  unfolding opens_with
  opens_not e = rw e

module _ (t r : List ℕ) (row : Row) (ok : table_ok t ≡ true) where
  -- by the row of the record's name, opening's number is verification's
  by_its-row : data_row t (name_in r) ≡ some row → verify_answer t r [] ≡ open_number true (some row) r [] (count_in r)
  by_its-row has = ap₂ (λ o x. open_number o x r [] (count_in r)) ok has

  pub row_opens : data_row t (name_in r) ≡ some row → verify_answer t r [] ≡ 0 → opens_with row r ≡ true
  row_opens has e = both_open row r (lookup-one data_type (name_in r) row (rows_of t) has).has (sym (by_its-row has) ∙ e)

pub opens-by_exactly : OpensByExactly
opens-by_exactly t i r ok below = (to, λ h. row_opens t r row ok h.0 h.1)
  where
    row : Row
    row = row_number (rows_of t) i

    to : opens_with row r ≡ true → (data_row t (name_in r) ≡ some row) × (verify_answer t r [] ≡ 0)
    to e =
        let (match, number) = opens_both row r e in
        let (kind, is) = matches_both data_type (name_in r) row match in
        let has : data_row t (name_in r) ≡ some row = ap₂ (row_for t) (sym kind) (sym is) ∙ own_row t i ok below in
        (has, by_its-row t r row ok has ∙ number)

pub opens-sealed : OpensSealed
opens-sealed t i r table-bytes bytes ok below =
    let (to, from) = opens-by_exactly t i r ok below in
    let (seals, verifies) = verify_exactly t r [] table-bytes bytes in
    (λ e. let (has, zero_number) = to e in (has, seals zero_number), λ h. from (h.0, verifies h.1))

pub opens-by-one : OpensByOne
opens-by-one t i j r ok hi hj a b =
    one-row t data_type (name_in r) i j ok hi hj (opens_both (row_number (rows_of t) i) r a).0 (opens_both (row_number (rows_of t) j) r b).0

-- ---- any number of records

opens-none : (row : Row) (rs : List (List ℕ)) → ((r : List ℕ) → opens_with row r ≡ false) → opens_by row rs ≡ 0
unfolding opens_by
opens-none row [] never = refl
opens-none row (r ∷ rs) never = rw (never r, opens-none row rs never)

pub kek-opens-none : KekOpensNone
kek-opens-none t i rs ok below kek = opens-none row rs (λ r. opens_not row r (unmatched data_type (name_in r) row (λ kind is. not_data kind)))
  where
    row : Row
    row = row_number (rows_of t) i

    kek_typed : is_kek_type row.row_type ≡ true
    kek_typed = (kek-by_type row.row_type row.row_name row (row_for_good t row.row_type row.row_name row ok (own_row t i ok below))).0 kek

    not_data : row.row_type ≡ data_type → ⊥
    not_data e = false≢true (rw e at kek_typed)

pub opens_few : OpensFew
unfolding opens_by
opens_few row [] = omega arith
opens_few row (r ∷ rs) = let more = opens_few row rs in go (opens_with row r) more
  where
    go : (b : Bool) → opens_by row rs ≤ length rs → when b 1 0 + opens_by row rs ≤ length (r ∷ rs)
    go true h = omega (arith, h)
    go false h = omega (arith, h)
