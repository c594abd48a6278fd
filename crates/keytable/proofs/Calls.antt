-- The answers of the calls: where a test fails and where none does, and what a case of the check tells of the table.
-- Assumes nothing.
use mathlib.Core.Path.{◌≡◌, refl, sym, ap}
use mathlib.Core.Bool.{Bool, true, false, not}
use mathlib.Core.List.{List, [], ◌∷◌}
use mathlib.Core.Option.{Option, some, none}
use Prim.Native.Nat.{ℕ}
use native.Mathlib.Omega.{arith}
use lib.Dec.{eqb, ltb}
use lib.ListN.{length, get_or}
use Rattle.octets.specs.Lent.{lowest}
use Rattle.std.specs.Prelude.{Ok, Err}
use Rattle.refusals.specs.Numbers.{number_of}
use Rattle.refusals.specs.declared.Refusal.{Refusal}
use Rattle.refusals.proofs.Laws.{not_zero}
use Rattle.octets.specs.Tests.{all}
use Rattle.keytable.specs.Row.{row_ok, name_max, type_max, Row}
use Rattle.keytable.specs.Table.{head_ok, table_ok, table_tests, row_count, row_parts, rows_of, distinct}
use Rattle.keytable.specs.Calls.{table_number, table_says, table_answer, use_number, use_answer}
use Rattle.octets.proofs.Tests.{every-not}

-- ---- the check

pub table_refused : (t : List ℕ) (i : ℕ) → get_or (table_tests t) i true ≡ false → table_answer t ≡ (1, [])
unfolding table_ok table_number table_answer
table_refused t i e = rw (every-not (table_tests t) i e)

pub table_accepted : (t : List ℕ) → head_ok t ≡ true → all row_ok (row_parts t) ≡ true → distinct (rows_of t) ≡ true → table_answer t ≡ (0, row_count t ∷ [])
unfolding table_ok table_number table_answer
table_accepted t h a d = rw (h, a, d)

-- what the check's answer tells of the table
pub rows_accepted : (t : List ℕ) (r : ℕ) → table_says (Ok r) ≡ table_answer t → table_ok t ≡ true
unfolding table_number table_answer
rows_accepted t r e = go (table_ok t) (ap (λ (x : ℕ × List ℕ). x.0) e)
  where
    go : (ok : Bool) → 0 ≡ lowest ((1, not ok) ∷ []) → ok ≡ true
    go true h = refl
    go false h = absurd (omega arith)

pub broken-refused : (t : List ℕ) (e : Refusal) → table_says (Err e) ≡ table_answer t → (table_ok t ≡ false) × (number_of e ≡ 1)
unfolding table_number table_answer
broken-refused t e h = go (table_ok t) (ap (λ (x : ℕ × List ℕ). x.0) h)
  where
    go : (ok : Bool) → number_of e ≡ lowest ((1, not ok) ∷ []) → (ok ≡ false) × (number_of e ≡ 1)
    go true h = absurd (not_zero e (sym h))
    go false h = (refl, h)

-- ---- the lookup as a call of its own: each number in turn

module _ (ok : Bool) (row : Option Row) (type : ℕ) (name : List ℕ) (before : ℕ) where
  pub use-one : ok ≡ false → use_answer ok row type name before ≡ (1, before)
  unfolding use_number use_answer
  use-one e = rw e

  module _ (accepted : ok ≡ true) where
    pub use_two : eqb (length name) 0 ≡ true → use_answer ok row type name before ≡ (2, before)
    unfolding use_number use_answer
    use_two empty = rw (accepted, empty)

    module _ (named : eqb (length name) 0 ≡ false) where
      pub use_three : ltb type_max type ≡ true → use_answer ok row type name before ≡ (3, before)
      unfolding use_number use_answer
      use_three unknown = rw (accepted, named, unknown)

      module _ (known : ltb type_max type ≡ false) where
        pub use_four : ltb name_max (length name) ≡ true → use_answer ok row type name before ≡ (4, before)
        unfolding use_number use_answer
        use_four long = rw (accepted, named, known, long)

        module _ (short : ltb name_max (length name) ≡ false) where
          pub use_six : row ≡ none → use_answer ok row type name before ≡ (6, before)
          unfolding use_number use_answer
          use_six nowhere = rw (accepted, named, known, short, nowhere)

          pub use-done : (r : Row) → row ≡ some r → use_answer ok row type name before ≡ (0, r.row_use)
          unfolding use_number use_answer
          use-done r found = rw (accepted, named, known, short, found)
