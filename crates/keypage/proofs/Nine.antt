-- What the number 9 tells by itself: no test before its own applied, so that table and page are accepted, there is room, and the KEK's row is matched.
-- Assumes nothing.
use mathlib.Core.Path.{◌≡◌, refl, sym, ◌∙◌}
use mathlib.Core.Bool.{Bool, true, false, not}
use mathlib.Core.List.{List}
use mathlib.Core.Option.{Option}
use Prim.Native.Nat.{ℕ, ◌<◌}
use native.Mathlib.Omega.{arith}
use borrow.Author.Tests.{ltb-false, not-false}
use lib.Dec.{eqb, ltb}
use lib.ListN.{length, get_or}
use Rattle.octets.specs.Lent.{Tests, when, lowest}
use Rattle.octets.specs.Lowest.{rises}
use Rattle.octets.proofs.Lowest.{lower-none}
use Rattle.keytable.specs.Row.{row_key_size, Row}
use Rattle.keytable.specs.Table.{table_ok}
use Rattle.keytable.specs.Calls.{missing, use_in}
use Rattle.keypage.specs.Page.{algorithm_in, format_in, key_part_of}
use Rattle.keypage.specs.KeyPart.{plain_format, reference_format, wrapped_format}
use Rattle.keypage.specs.Read.{broken, refused, long}
use Rattle.keypage.specs.Load.{part_tests, load_tests, load_number, load_row, load_answer}
use Rattle.keypage.specs.Laws.{Given, KekMatched}
use Rattle.keypage.proofs.KeyPart.{Known, known, third_format}
use Rattle.keypage.proofs.Page.{passed_read, read_part}
use Rattle.keypage.proofs.Load.{part_number, row_given, number_in, load-left}
use Rattle.keypage.proofs.Matched.{matched-row}

-- tests that give 9: one of a lower number did not apply
not_before : (ts : Tests) → rises ts ≡ true → lowest ts ≡ 9 → (i m : ℕ) (b : Bool) → get_or ts i (0, false) ≡ (m, b) → m < 9 → b ≡ false
not_before ts h nine i m b e below = lower-none ts i m b h e (omega (arith, nine, below))

-- a reference's part gives 6, 7 or 0
not_nine : (a b : Bool) → ◌≡◌ {A = ℕ} (when a 6 (when b 7 0)) 9 → ⊥
not_nine true b e = omega arith
not_nine false true e = omega arith
not_nine false false e = omega arith

-- only a wrapped key's part gives it
nine-wrapped : (o : Option Row) (algorithm f : ℕ) (s : List ℕ) → Known f → part_number o algorithm f s ≡ 9 → f ≡ wrapped_format
nine-wrapped o algorithm f s k nine = third_format f k plain reference
  where
    plain : f ≡ plain_format → ⊥
    plain e = let zero : ◌≡◌ {A = ℕ} 0 9 = rw e at nine in omega arith

    reference : f ≡ reference_format → ⊥
    reference e = not_nine (missing o) (not (eqb (use_in o) algorithm)) (rw e at nine)

module _ (t p out fields : List ℕ) (nine : (load_answer t p out fields).0.0 ≡ 9) where
  abbrev tests : Tests
  tests = load_tests (table_ok t) (row_given t p (format_in p)) p (length out)

  number : lowest tests ≡ 9
  unfolding load_row load_number
  number = nine

  abbrev no : (i m : ℕ) (b : Bool) → get_or tests i (0, false) ≡ (m, b) → m < 9 → b ≡ false
  no = not_before tests refl number

  given : Given t p out
  given =
      record {
        table_accepted = not-false (table_ok t) (no 0 1 (not (table_ok t)) refl (omega arith));
        readable =
            passed_read p (record {
              whole = no 1 2 (broken p) refl (omega arith);
              permitted = no 2 3 (refused p) refl (omega arith);
              short = no 3 4 (long p) refl (omega arith);
            });
        key_fits = ltb-false (length out) row_key_size (no 4 5 (ltb (length out) row_key_size) refl (omega arith));
      }

  part_nine : number_in t p (format_in p) ≡ 9
  unfolding load_row
  part_nine = sym (load-left t p out fields given) ∙ nine

  is : format_in p ≡ wrapped_format
  is = nine-wrapped (row_given t p (format_in p)) (algorithm_in p) (format_in p) (key_part_of p) (known (format_in p) (key_part_of p) (read_part p given.readable).permitted) part_nine

  pub nine_matched : (row : Row) × KekMatched t p out row
  nine_matched =
      let no = not_before (part_tests (row_given t p wrapped_format) (algorithm_in p) wrapped_format (key_part_of p)) refl (rw is at part_nine) in
      matched-row t p out given is (no 0 6 _ refl (omega arith)) (no 2 8 _ refl (omega arith))
