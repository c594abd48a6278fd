-- What the number 0 of opening tells: every test was passed, and the output's front is the plaintext of the row's key.
-- Assumes nothing.
use mathlib.Core.Path.{◌≡◌, refl, sym, ap, ap₂, subst, ◌∙◌}
use mathlib.Core.Bool.{Bool, true, false, false≢true}
use mathlib.Core.List.{List}
use mathlib.Core.Option.{Option, some, none}
use Prim.Native.Nat.{ℕ, ◌≤◌}
use native.Mathlib.Omega.{arith}
use borrow.Author.Tests.{eqb-true, eq-eqb, ltb-false, le-ltb, not-false}
use lib.Dec.{eqb}
use lib.ListN.{length}
use Rattle.octets.specs.Bytes.{Bytes}
use Rattle.octets.specs.Lent.{over}
use Rattle.keytable.specs.Row.{name_max, Row}
use Rattle.keytable.specs.Table.{table_ok, data_row}
use Rattle.modes.specs.Calls.{text_max}
use Rattle.modes.specs.Modes.{names_mode, mode_of}
use Rattle.modes.specs.Laws.{Keyed}
use Rattle.modes.proofs.Laws.{modes_fitting}
use Rattle.record.specs.Record.{mode_in, mode_for, count_in, name_size_lem, layout_ok, name_in, iv_in, text_in}
use Rattle.record.specs.Seal.{callers_max}
use Rattle.record.specs.Open.{authentic_by, plaintext_by, open_tests, open_number, open_row, open_answer}
use Rattle.record.specs.Demand3.{Opens}
use Rattle.octets.proofs.Lent.{test_at, none_applies, over_injective}
use Rattle.record.proofs.Parts.{length-iv_in, length-text_in, permits-text_in, bytes-iv_in}
use Rattle.record.proofs.Lengths.{within_maxima, maxima-kept}
use Rattle.record.proofs.Sealed.{row_keyed}

-- ---- the tests

-- every test of opening by a row is passed
pub record Openable (ok : Bool) (row : Row) (r a : List ℕ) (room : ℕ) : Type 0 where
  pub accepted : ok ≡ true
  pub layout : layout_ok r ≡ true
  pub mode : names_mode (mode_in r) ≡ true
  pub short : name_size_lem r ≤ name_max
  pub few : count_in r ≤ text_max
  pub little : length a ≤ callers_max
  pub fits : count_in r ≤ room
  pub use_is : row.row_use ≡ mode_in r
  pub authentic : authentic_by row.row_key r a ≡ true

module _ (ok : Bool) (r a : List ℕ) (room : ℕ) where
  no_test : (row : Option Row) (i : ℕ) → open_number ok row r a room ≡ 0 → test_at (open_tests ok row r a room) i ≡ false
  unfolding open_number
  no_test row i e = none_applies (open_tests ok row r a room) i refl e

  pub open_row_lem : (o : Option Row) → open_number ok o r a room ≡ 0 → (row : Row) × (o ≡ some row)
  open_row_lem none e = absurd (false≢true (sym (no_test none 5 e)))
  open_row_lem (some row) e = (row, refl)

  pub openable : (row : Row) → open_number ok (some row) r a room ≡ 0 → Openable ok row r a room
  openable row e =
      record {
        accepted = not-false ok (no 0);
        layout = not-false (layout_ok r) (no 1);
        mode = not-false (names_mode (mode_in r)) (no 2);
        short = maxima.0;
        few = maxima.1;
        little = maxima.2;
        fits = ltb-false room (count_in r) (no 4);
        use_is = eqb-true row.row_use (mode_in r) (not-false (eqb row.row_use (mode_in r)) (no 6));
        authentic = not-false (authentic_by row.row_key r a) (no 7);
      }
    where
      no : (i : ℕ) → test_at (open_tests ok (some row) r a room) i ≡ false
      no i = no_test (some row) i e

      maxima : (name_size_lem r ≤ name_max) × (count_in r ≤ text_max) × (length a ≤ callers_max)
      maxima = within_maxima (name_size_lem r) (count_in r) a (no 3)

  pub open_passed : (row : Row) → Openable ok row r a room → open_number ok (some row) r a room ≡ 0
  unfolding open_number
  open_passed row h =
      rw (
        h.accepted,
        h.layout,
        h.mode,
        maxima-kept (name_size_lem r) (count_in r) a h.short h.few h.little,
        le-ltb room (count_in r) h.fits,
        eq-eqb row.row_use (mode_in r) h.use_is,
        h.authentic,
      )

-- ---- the plaintext is as long as the ciphertext

pub length-plaintext_by : (key r : List ℕ) → Keyed (mode_for r) key (iv_in r) → layout_ok r ≡ true → length (plaintext_by key r) ≡ count_in r
unfolding plaintext_by
length-plaintext_by key r keyed layout =
    (modes_fitting (mode_in r)).plaintext-length key (iv_in r) (text_in r) keyed (permits-text_in r layout) ∙ length-text_in r layout

-- the row's key and the record's IV
pub open_keyed : (t r a : List ℕ) (row : Row) (room : ℕ) → Bytes t → Bytes r → data_row t (name_in r) ≡ some row → Openable (table_ok t) row r a room
    → Keyed (mode_for r) row.row_key (iv_in r)
open_keyed t r a row room table-bytes bytes has h =
    subst (λ (u : ℕ). Keyed (mode_of u) row.row_key (iv_in r)) h.use_is
    (row_keyed t (name_in r) row (iv_in r) table-bytes (bytes-iv_in r bytes) h.accepted has
    (length-iv_in r h.layout ∙ ap (λ (u : ℕ). (mode_of u).iv_size) (sym h.use_is)))

-- ---- the answer 0

-- opening gives p: over its definitions
pub record OpenedAs (t r a out p : List ℕ) : Type 0 where
  pub row : Row
  pub has-row : data_row t (name_in r) ≡ some row
  pub able : Openable (table_ok t) row r a (length out)
  pub is : plaintext_by row.row_key r ≡ p

module _ (t r a out : List ℕ) (count : ℕ) where
  pub open_done : (row : Row) → data_row t (name_in r) ≡ some row → Openable (table_ok t) row r a (length out)
      → open_answer t r a out count ≡ ((0, over (plaintext_by row.row_key r) out), count_in r)
  unfolding open_row
  open_done row is h = rw (is, open_passed (table_ok t) r a (length out) row h)

  pub open-number : (open_answer t r a out count).0.0 ≡ open_number (table_ok t) (data_row t (name_in r)) r a (length out)
  unfolding open_row
  open-number = refl

  -- 0 came of a row by which every test is passed
  pub opened-row : (open_answer t r a out count).0.0 ≡ 0 → (row : Row) × (data_row t (name_in r) ≡ some row) × Openable (table_ok t) row r a (length out)
  opened-row e =
      let number = sym open-number ∙ e in
      let (row, has) = open_row_lem (table_ok t) r a (length out) (data_row t (name_in r)) number in
      (row, has, openable (table_ok t) r a (length out) row (rw has at number))

  -- so some p is opened
  pub some-opened : (open_answer t r a out count).0.0 ≡ 0 → (p : List ℕ) × OpenedAs t r a out p
  some-opened e = let (row, has, able) = opened-row e in (plaintext_by row.row_key r, record { row = row; has-row = has; able = able; is = refl })

  -- where p is what is opened: the count is its length, and there is room for it
  pub opens_size : (p : List ℕ) → Opens t r a out count p → (count_in r ≡ length p) × (length p ≤ length out)
  opens_size p h =
      let (row, has, able) = opened-row (ap (λ (x : (ℕ × List ℕ) × ℕ). x.0.0) h.answers) in
      let size : count_in r ≡ length p = ap (λ (x : (ℕ × List ℕ) × ℕ). x.1) (sym (open_done row has able) ∙ h.answers) in
      (size, omega (arith, able.fits))

  module _ (table-bytes : Bytes t) (bytes : Bytes r) where
    pub opens_as : (p : List ℕ) → Opens t r a out count p → OpenedAs t r a out p
    opens_as p h =
        let (row, has, able) = opened-row (ap (λ (x : (ℕ × List ℕ) × ℕ). x.0.0) h.answers) in
        let (size, fits) = opens_size p h in
        record {
          row = row;
          has-row = has;
          able = able;
          is =
              over_injective (plaintext_by row.row_key r) p out
              (length-plaintext_by row.row_key r (open_keyed t r a row (length out) table-bytes bytes has able) able.layout ∙ size) fits
              (ap (λ (x : (ℕ × List ℕ) × ℕ). x.0.1) (sym (open_done row has able) ∙ h.answers));
        }

    pub as-opens : (p : List ℕ) → OpenedAs t r a out p → Opens t r a out count p
    as-opens p h = record { answers = open_done h.row h.has-row h.able ∙ ap₂ (λ (l : List ℕ) (n : ℕ). ((0, over l out), n)) h.is size }
      where
        size : count_in r ≡ length p
        size =
            sym (length-plaintext_by h.row.row_key r (open_keyed t r a h.row (length out) table-bytes bytes h.has-row h.able) h.able.layout)
            ∙ ap length h.is
