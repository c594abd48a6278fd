-- Counting a dump: what one record adds to the counts of the rows, and what is left to count at a place.
-- Assumes nothing.
use mathlib.Core.Path.{◌≡◌, refl, sym, ap, ◌∙◌}
use mathlib.Core.Bool.{Bool, true, false}
use mathlib.Core.List.{List, [], ◌∷◌}
use mathlib.Core.Option.{some}
use Prim.Native.Nat.{ℕ, ◌+◌, ◌≤◌, ◌<◌}
use native.Mathlib.Nat.{add-zero}
use native.Mathlib.Omega.{arith}
use lib.Dec.{eqb}
use lib.ListN.{length, get_or, set, replicate, length-set, length-replicate, get_or-replicate}
use lib.Seq.{get_or-set_same, get_or-set_other}
use borrow.Author.Tests.{eqb-true, eqb-false, leb-true}
use Rattle.std.specs.Prelude.{Ok}
use Rattle.octets.specs.Lent.{when}
use Rattle.octets.proofs.Tests.{every_at}
use Rattle.keytable.specs.Row.{data_type}
use Rattle.keytable.specs.Table.{row_max, number_of_place, rows_of, row_number, row_count, head_ok, head_tests, table_ok, row_at}
use Rattle.keytable.specs.Laws.{Numbered}
use Rattle.keytable.specs.Calls.{table_says, table_answer}
use Rattle.keytable.proofs.Accepted.{accepted_head}
use Rattle.keytable.proofs.Calls.{rows_accepted}
use Rattle.keytable.proofs.Laws.{found_numbered, row_at-number}
use Rattle.record.specs.Record.{name_in}
use Rattle.record.specs.Open.{opened_at}
use Rattle.record.proofs.VerifyLaws.{opened_verifies, opened_found, opened-by-row, opened-placed}
use Rattle.report_text.specs.Dump.{dump_max, records_in}
use Rattle.report_text.specs.Opens.{opens_with, opens_by}
use Rattle.report_text.specs.Report.{record_bytes}
use Rattle.report_text.specs.Counted.{Countable, CountsOne, CountsAll}
use Rattle.report_text.proofs.Dump.{lengths_add_up, records_few}
use Rattle.report_text.proofs.Opening.{opens-by_exactly, opens-by-one, opens_few}

-- ---- rows by their number

-- a table has no more rows than it may
pub rows_few : (t : List ℕ) → table_ok t ≡ true → row_count t ≤ row_max
unfolding head_ok
rows_few t ok = leb-true (row_count t) row_max (every_at (head_tests t) 1 (accepted_head t ok))

-- the count of rows that the check answers is the table's own
pub rows-counted : (t : List ℕ) (r : ℕ) → table_says (Ok r) ≡ table_answer t → r ≡ row_count t
unfolding table_answer
rows-counted t r e =
    let listed : (table_answer t).1 ≡ row_count t ∷ [] = rw (rows_accepted t r e) in
    ap (λ (l : List ℕ). get_or l 0 0) (ap (λ (x : ℕ × List ℕ). x.1) e ∙ listed)

-- ---- one record

module _ (t r : List ℕ) (ok : table_ok t ≡ true) where
  -- one that is refused opens by no row
  pub counts-none : (n : ℕ) (opens : List ℕ) → ◌≡◌ {A = ℕ × List ℕ} (n, []) (opened_at t r []) → CountsOne t r opens opens
  counts-none n opens e = record { same_size = refl; each = λ i below. rw (none-opens i below) (omega arith) }
    where
      none-opens : (i : ℕ) → i < row_count t → opens_with (row_number (rows_of t) i) r ≡ false
      none-opens i below = go (opens_with (row_number (rows_of t) i) r) refl
        where
          go : (b : Bool) → opens_with (row_number (rows_of t) i) r ≡ b → b ≡ false
          go true h =
              absurd (opened-placed t r [] (opened_verifies t r [] ok ∙ ((opens-by_exactly t i r ok below).0 h).1) (sym (ap (λ (x : ℕ × List ℕ). x.1) e)))
          go false h = refl

  -- one that opens by the row at a place opens by the row of the place's number, and by no other
  module _ (at : ℕ) (e : ◌≡◌ {A = ℕ × List ℕ} (0, at ∷ []) (opened_at t r [])) where
    pub opened-number : Numbered t at
    opened-number = found_numbered t data_type (name_in r) at (opened_found t r [] at (sym e))

    number-opens : opens_with (row_number (rows_of t) (number_of_place at)) r ≡ true
    number-opens =
        let i = number_of_place at in
        (opens-by_exactly t i r ok opened-number.below).1 (
          opened-by-row t r [] at ok (sym e) ∙ ap some (ap (row_at t) opened-number.is ∙ row_at-number t i (accepted_head t ok) opened-number.below),
          sym (opened_verifies t r [] ok) ∙ ap (λ (x : ℕ × List ℕ). x.0) (sym e),
        )

    pub counts_more : (opens : List ℕ) (k : ℕ) → k ≡ number_of_place at → row_count t ≤ length opens → CountsOne t r opens (set opens k (get_or opens k 0 + 1))
    counts_more opens k is enough = record { same_size = length-set opens k (get_or opens k 0 + 1); each = each }
      where
        each : (i : ℕ) → i < row_count t → get_or (set opens k (get_or opens k 0 + 1)) i 0 ≡ get_or opens i 0 + when (opens_with (row_number (rows_of t) i) r) 1 0
        each i below = go (eqb i k) refl
          where
            -- the number of the row is no other row's
            not-opens : (b : Bool) → opens_with (row_number (rows_of t) i) r ≡ b → (i ≡ k → ⊥) → b ≡ false
            not-opens true h other = absurd (other (opens-by-one t i (number_of_place at) r ok below opened-number.below h number-opens ∙ sym is))
            not-opens false h other = refl

            go : (b : Bool) → eqb i k ≡ b → get_or (set opens k (get_or opens k 0 + 1)) i 0 ≡ get_or opens i 0 + when (opens_with (row_number (rows_of t) i) r) 1 0
            go true same =
                let here = eqb-true i k same in
                let opens-here = ap (λ (j : ℕ). opens_with (row_number (rows_of t) j) r) (here ∙ is) ∙ number-opens in
                ap (λ (j : ℕ). get_or (set opens k (get_or opens k 0 + 1)) j 0) here
                ∙ get_or-set_same opens k (get_or opens k 0 + 1) 0 (omega (arith, is, opened-number.below, enough))
                ∙ sym (ap (λ (j : ℕ). get_or opens j 0 + 1) here)
                ∙ sym (ap (λ (b : Bool). get_or opens i 0 + when b 1 0) opens-here)
            go false other =
                let away = eqb-false i k other in
                get_or-set_other opens k i (get_or opens k 0 + 1) 0 away
                ∙ sym (ap (λ (b : Bool). get_or opens i 0 + when b 1 0) (not-opens (opens_with (row_number (rows_of t) i) r) refl away) ∙ add-zero (get_or opens i 0))

-- ---- what is left to count, where these records are left

pub record LeftIn (t d opens : List ℕ) (records bytes : ℕ) (left : List (List ℕ)) : Type 0 where
  pub long : length opens ≡ row_max
  pub records-left : length (records_in d) ≡ records + length left
  pub bytes_left : record_bytes (records_in d) ≡ bytes + record_bytes left
  pub opens-left : (i : ℕ) → i < row_count t → opens_by (row_number (rows_of t) i) (records_in d) ≡ get_or opens i 0 + opens_by (row_number (rows_of t) i) left

pub left_first : (t d : List ℕ) → table_ok t ≡ true → LeftIn t d (replicate row_max 0) 0 0 (records_in d)
left_first t d ok = record {
  long = length-replicate {A = ℕ} row_max 0;
  records-left = omega arith;
  bytes_left = omega arith;
  opens-left = λ i below. omega (arith, get_or-replicate {A = ℕ} row_max i 0 0 (omega (arith, below, rows_few t ok)));
}

module _ {t d opens : List ℕ} {records bytes : ℕ} {left : List (List ℕ)} (so_far : LeftIn t d opens records bytes left) where
  -- no count passes the number of bytes
  pub left_countable : length d ≤ dump_max → Countable t opens
  left_countable short = record {
    enough = omega (arith, so_far.long);
    small = λ i below. omega (arith, so_far.opens-left i below, opens_few (row_number (rows_of t) i) (records_in d), records_few d, short);
  }

  pub left_few : length d ≤ dump_max → records ≤ dump_max
  left_few short = omega (arith, so_far.records-left, records_few d, short)

  -- one more is counted
  module _ {r : List ℕ} {rest : List (List ℕ)} (is : left ≡ r ∷ rest) where
    pub left_bytes : bytes + length r ≤ length d
    unfolding record_bytes
    left_bytes = omega (arith, so_far.bytes_left, ap record_bytes is, lengths_add_up d)

    pub left_turn : {after : List ℕ} → CountsOne t r opens after → LeftIn t d after (records + 1) (bytes + length r) rest
    unfolding record_bytes opens_by
    left_turn one = record {
      long = one.same_size ∙ so_far.long;
      records-left = omega (arith, so_far.records-left, ap length is);
      bytes_left = omega (arith, so_far.bytes_left, ap record_bytes is);
      opens-left = λ i below. omega (arith, so_far.opens-left i below, ap (opens_by (row_number (rows_of t) i)) is, one.each i below);
    }

  -- none is left
  pub left_last : left ≡ [] → CountsAll t d records bytes opens
  unfolding record_bytes opens_by
  left_last none = record {
    records_are = omega (arith, so_far.records-left, ap length none);
    bytes_are = omega (arith, so_far.bytes_left, ap record_bytes none);
    opens_are = λ i below. omega (arith, so_far.opens-left i below, ap (opens_by (row_number (rows_of t) i)) none);
  }
