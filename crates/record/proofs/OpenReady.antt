-- What the tests before the tag's tell of opening, once they are passed: then the tag decides.
-- Assumes nothing.
use mathlib.Core.Path.{◌≡◌, refl, sym, ap, ap₂, ◌∙◌}
use mathlib.Core.Bool.{true, false}
use mathlib.Core.List.{List, [], ◌∷◌}
use mathlib.Core.Option.{some}
use Prim.Native.Nat.{ℕ}
use native.Mathlib.Omega.{arith}
use borrow.Author.Tests.{eq-eqb, ne_eqb, le-ltb}
use lib.Dec.{eqb}
use lib.ListN.{length}
use Rattle.octets.specs.Lent.{over}
use Rattle.keytable.specs.Row.{row_key_size, data_type}
use Rattle.keytable.specs.Table.{table_ok, data_row, row_at}
use Rattle.keytable.specs.Find.{place_of, row_found}
use Rattle.std.specs.Prelude.{Ok}
use Rattle.keytable.proofs.Laws.{finds-row, found_key}
use Rattle.keytable.proofs.Places.{says_same}
use Rattle.record.specs.Record.{mode_in, count_in, name_in}
use Rattle.record.specs.Open.{authentic_by, plaintext_by, open_number, open_row, open_answer, row_looked, ReadyAt, verify_answer, opened_number, opened_at}
use Rattle.record.proofs.Reading.{HeaderAccepted, header_accepted}
use Rattle.record.proofs.OpenNumbers.{OpenMeasured, number_nine, number-zero, row-refused, row_done}

-- in an accepted table the row that is looked up is that of the name
pub row-looked : (t r : List ℕ) → table_ok t ≡ true → data_row t (name_in r) ≡ row_looked t r
row-looked t r ok = finds-row t data_type (name_in r) (place_of t data_type (name_in r)) ok refl

module _ {t r a : List ℕ} {room at u k n : ℕ} (ready : ReadyAt t r a room at u k n) where
  pub ready_read : HeaderAccepted r u k n
  ready_read = header_accepted r u k n (sym ready.fields)

  pub ready_key : length (row_at t at).row_key ≡ row_key_size
  ready_key = found_key t data_type (name_in r) at ready.found

  looked : row_looked t r ≡ some (row_at t at)
  looked = ap (row_found t) (sym (says_same (Ok at) (place_of t data_type (name_in r)) (sym ready.found)))

  measured : OpenMeasured true r a room
  measured =
      record {
        accepted = refl;
        layout = ready_read.layout;
        mode_ok = ready_read.mode_ok;
        maxima = rw (ready_read.short, le-ltb _ _ ready.data_fits);
        fits = le-ltb room (count_in r) (omega (arith, ready.room_fits, ready_read.count_is));
      }

  same_use : eqb (row_at t at).row_use (mode_in r) ≡ true
  same_use = eq-eqb _ _ (ready.same_use ∙ ready_read.mode_is)

  ready_nine : authentic_by (row_at t at).row_key r a ≡ false → open_number true (row_looked t r) r a room ≡ 9
  ready_nine = number_nine true (row_looked t r) r a room measured (row_at t at) looked same_use

  ready-zero : authentic_by (row_at t at).row_key r a ≡ true → open_number true (row_looked t r) r a room ≡ 0
  ready-zero = number-zero true (row_looked t r) r a room measured (row_at t at) looked same_use

-- ---- opening in an accepted table

module _ (t r a out : List ℕ) (count : ℕ) (ok : table_ok t ≡ true) where
  by_looked : open_answer t r a out count ≡ open_row true (row_looked t r) r a out count
  by_looked = ap₂ (λ o row. open_row o row r a out count) ok (row-looked t r ok)

  pub opening-refused : (n : ℕ) → open_number true (row_looked t r) r a (length out) ≡ n → (n ≡ 0 → ⊥) → open_answer t r a out count ≡ ((n, out), count)
  opening-refused n number not-zero = by_looked ∙ row-refused true (row_looked t r) r a out count number not-zero

  module _ {at u k n : ℕ} (ready : ReadyAt t r a (length out) at u k n) where
    pub opening_nine : authentic_by (row_at t at).row_key r a ≡ false → open_answer t r a out count ≡ ((9, out), count)
    opening_nine wrong = opening-refused 9 (ready_nine ready wrong) (λ z. omega arith)

    pub opening-zero : authentic_by (row_at t at).row_key r a ≡ true → open_answer t r a out count ≡ ((0, over (plaintext_by (row_at t at).row_key r) out), n)
    opening-zero right =
        by_looked
        ∙ row_done true (row_looked t r) r a out count (ready-zero ready right) refl
        ∙ rw (looked ready, (ready_read ready).count_is)

-- ---- verification

module _ (t r a : List ℕ) where
  pub opened-refused : (n : ℕ) → open_number true (row_looked t r) r a (count_in r) ≡ n → (n ≡ 0 → ⊥) → opened_at t r a ≡ (n, [])
  unfolding opened_at opened_number
  opened-refused n number not-zero = rw (number, ne_eqb n 0 not-zero)

  module _ {at u k n : ℕ} (ready : ReadyAt t r a (count_in r) at u k n) where
    pub opened_nine : authentic_by (row_at t at).row_key r a ≡ false → opened_at t r a ≡ (9, [])
    opened_nine wrong = opened-refused 9 (ready_nine ready wrong) (λ z. omega arith)

    pub opened-zero : authentic_by (row_at t at).row_key r a ≡ true → opened_at t r a ≡ (0, at ∷ [])
    unfolding opened_at opened_number
    opened-zero right = rw (ready-zero ready right, ready.found)

  -- in an accepted table it is opening's number
  pub opened_as_verified : table_ok t ≡ true → (opened_at t r a).0 ≡ verify_answer t r a
  unfolding opened_at opened_number
  opened_as_verified ok = ap₂ (λ o row. open_number o row r a (count_in r)) (sym ok) (sym (row-looked t r ok))
