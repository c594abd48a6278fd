-- What 0 of loading tells, for an accepted table, a page that reading accepts and room: no test of the KEY part applied; and the other way.
-- Assumes nothing.
use mathlib.Core.Path.{◌≡◌, refl, sym, ap, ◌∙◌}
use mathlib.Core.Bool.{true, false, false≢true}
use mathlib.Core.List.{List}
use mathlib.Core.Option.{Option, some, none}
use Prim.Native.Nat.{ℕ}
use native.Mathlib.Omega.{arith}
use borrow.Author.Tests.{eqb-true, eq-eqb, le-ltb, not-false}
use lib.Dec.{eqb}
use lib.ListN.{length}
use Rattle.octets.specs.Lent.{lowest, over}
use Rattle.keytable.specs.Row.{row_key_size, Row}
use Rattle.keytable.specs.Table.{table_ok}
use Rattle.keypage.specs.Page.{algorithm_in, format_in, key_part_of, fields_of}
use Rattle.keypage.specs.KeyPart.{reference_format, needs_row}
use Rattle.keypage.specs.Load.{row_named, part_tests, key_loaded, load_number, load_row, load_answer}
use Rattle.keypage.specs.Laws.{Given, Loads}
use Rattle.octets.proofs.Lent.{test_at, none_applies, over_injective}
use Rattle.keypage.proofs.LoadNumbers.{load-number}

-- ---- the KEY part's own tests, 6 to 9, and what each tells that does not apply

abbrev pub part_number : Option Row → ℕ → ℕ → List ℕ → ℕ
part_number row algorithm f s = lowest (part_tests row algorithm f s)

-- where 0 is given none does
pub part_passed : (o : Option Row) (algorithm f : ℕ) (s : List ℕ) → part_number o algorithm f s ≡ 0 → (i : ℕ) → test_at (part_tests o algorithm f s) i ≡ false
part_passed o algorithm f s e i = none_applies (part_tests o algorithm f s) i refl e

-- where a row is needed and 6 does not apply there is one
pub part-row : (o : Option Row) (algorithm f : ℕ) (s : List ℕ) → needs_row f ≡ true → test_at (part_tests o algorithm f s) 0 ≡ false
    → (row : Row) × (o ≡ some row)
part-row none algorithm f s needs six = absurd (false≢true (sym six ∙ rw needs))
part-row (some row) algorithm f s needs six = (row, refl)

pub part_none : (algorithm f : ℕ) (s : List ℕ) → needs_row f ≡ true → part_number none algorithm f s ≡ 6
part_none algorithm f s needs = rw needs

-- and where a reference's 7 does not, its use is the algorithm index
pub part_use : (row : Row) (algorithm : ℕ) (s : List ℕ) → test_at (part_tests (some row) algorithm reference_format s) 1 ≡ false → row.row_use ≡ algorithm
part_use row algorithm s seven = eqb-true row.row_use algorithm (not-false (eqb row.row_use algorithm) seven)

-- of a reference nothing else is tested
pub reference_passed : (row : Row) (algorithm : ℕ) (s : List ℕ) → row.row_use ≡ algorithm → part_number (some row) algorithm reference_format s ≡ 0
reference_passed row algorithm s e = rw (eq-eqb row.row_use algorithm e)

-- ---- the whole call, by a format, the row found for it and the key it then gives

abbrev pub row_given : List ℕ → List ℕ → ℕ → Option Row
row_given t p f = row_named t f (key_part_of p)

abbrev pub number_in : List ℕ → List ℕ → ℕ → ℕ
number_in t p f = part_number (row_given t p f) (algorithm_in p) f (key_part_of p)

abbrev pub key_given : List ℕ → List ℕ → ℕ → List ℕ
key_given t p f = key_loaded (row_given t p f) f (key_part_of p)

module _ (t p out fields : List ℕ) (given : Given t p out) where
  pub load-left : load_number (table_ok t) (row_given t p (format_in p)) p (length out) ≡ number_in t p (format_in p)
  load-left = load-number (table_ok t) (row_given t p (format_in p)) p (length out) given.table_accepted given.readable (le-ltb (length out) row_key_size given.key_fits)

  module _ (f : ℕ) (is : format_in p ≡ f) where
    pub load-zero : number_in t p f ≡ 0 → load_answer t p out fields ≡ ((0, over (key_given t p f) out), fields_of p)
    unfolding load_row
    load-zero e = rw (load-left ∙ ap (number_in t p) is ∙ e) (ap (λ (g : ℕ). ((0, over (key_given t p g) out), fields_of p)) is)

    pub load_six : number_in t p f ≡ 6 → load_answer t p out fields ≡ ((6, out), fields)
    unfolding load_row
    load_six e = rw (load-left ∙ ap (number_in t p) is ∙ e)

    pub load_told : (k : List ℕ) → Loads t p out fields k → number_in t p f ≡ 0
    unfolding load_row
    load_told k h = sym (load-left ∙ ap (number_in t p) is) ∙ ap (λ (x : (ℕ × List ℕ) × List ℕ). x.0.0) h.answers

    -- and what was written is k
    pub load-written : (k : List ℕ) → Loads t p out fields k → over (key_given t p f) out ≡ over k out
    load-written k h = ap (λ (x : (ℕ × List ℕ) × List ℕ). x.0.1) (sym (load-zero (load_told k h)) ∙ h.answers)

    pub load_key : (k : List ℕ) → length (key_given t p f) ≡ row_key_size → Loads t p out fields k → key_given t p f ≡ k
    load_key k size h =
        over_injective (key_given t p f) k out (size ∙ sym h.size) (omega (arith, h.size, given.key_fits)) (load-written k h)

    pub key_loads : (k : List ℕ) → number_in t p f ≡ 0 → length k ≡ row_key_size → over (key_given t p f) out ≡ over k out → Loads t p out fields k
    key_loads k e size same =
        record { size = size; answers = load-zero e ∙ ap (λ (l : List ℕ). ((0, l), fields_of p)) same }
