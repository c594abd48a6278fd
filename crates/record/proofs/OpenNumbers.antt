-- The numbers of opening, each by the tests that led there; and the answer that a number gives.
-- Assumes nothing.
use mathlib.Core.Path.{◌≡◌, ◌∙◌}
use mathlib.Core.Bool.{Bool, true, false}
use mathlib.Core.List.{List}
use mathlib.Core.Option.{Option, some, none}
use Prim.Native.Nat.{ℕ}
use borrow.Author.Tests.{ne_eqb}
use lib.Dec.{eqb, ltb}
use lib.ListN.{length}
use Rattle.octets.specs.Lent.{over}
use Rattle.keytable.specs.Row.{Row}
use Rattle.modes.specs.Modes.{names_mode}
use Rattle.record.specs.Record.{mode_in, count_in, name_size_lem, layout_ok}
use Rattle.record.specs.Open.{authentic_by, plaintext_in, open_number, open_row}
use Rattle.record.proofs.Lengths.{too_long}

-- the tests before the row's own are passed
pub record OpenMeasured (ok : Bool) (r a : List ℕ) (room : ℕ) : Type 0 where
  pub accepted : ok ≡ true
  pub layout : layout_ok r ≡ true
  pub mode_ok : names_mode (mode_in r) ≡ true
  pub maxima : too_long (name_size_lem r) (count_in r) a ≡ false
  pub fits : ltb room (count_in r) ≡ false

module _ (ok : Bool) (row : Option Row) (r a : List ℕ) (room : ℕ) where
  pub number-one : ok ≡ false → open_number ok row r a room ≡ 1
  unfolding open_number
  number-one e = rw e

  pub number_two : ok ≡ true → layout_ok r ≡ false → open_number ok row r a room ≡ 2
  unfolding open_number
  number_two good e = rw (good, e)

  pub number_three : ok ≡ true → layout_ok r ≡ true → names_mode (mode_in r) ≡ false → open_number ok row r a room ≡ 3
  unfolding open_number
  number_three good layout e = rw (good, layout, e)

  pub number_four : ok ≡ true → layout_ok r ≡ true → names_mode (mode_in r) ≡ true → too_long (name_size_lem r) (count_in r) a ≡ true → open_number ok row r a room ≡ 4
  unfolding open_number
  number_four good layout mode_ok e = rw (good, layout, mode_ok, e)

  pub number_five : ok ≡ true → layout_ok r ≡ true → names_mode (mode_in r) ≡ true → too_long (name_size_lem r) (count_in r) a ≡ false → ltb room (count_in r) ≡ true
      → open_number ok row r a room ≡ 5
  unfolding open_number
  number_five good layout mode_ok short e = rw (good, layout, mode_ok, short, e)

  module _ (m : OpenMeasured ok r a room) where
    pub number_six : row ≡ none → open_number ok row r a room ≡ 6
    unfolding open_number
    number_six e = rw (m.accepted, m.layout, m.mode_ok, m.maxima, m.fits, e)

    module _ (found : Row) (has : row ≡ some found) where
      pub number_seven : eqb found.row_use (mode_in r) ≡ false → open_number ok row r a room ≡ 7
      unfolding open_number
      number_seven e = rw (m.accepted, m.layout, m.mode_ok, m.maxima, m.fits, has, e)

      module _ (same_use : eqb found.row_use (mode_in r) ≡ true) where
        pub number_nine : authentic_by found.row_key r a ≡ false → open_number ok row r a room ≡ 9
        unfolding open_number
        number_nine e = rw (m.accepted, m.layout, m.mode_ok, m.maxima, m.fits, has, same_use, e)

        pub number-zero : authentic_by found.row_key r a ≡ true → open_number ok row r a room ≡ 0
        unfolding open_number
        number-zero e = rw (m.accepted, m.layout, m.mode_ok, m.maxima, m.fits, has, same_use, e)

-- ---- the output and the count after a number

module _ (ok : Bool) (row : Option Row) (r a out : List ℕ) (count : ℕ) {n : ℕ} (number : open_number ok row r a (length out) ≡ n) where
  pub row-refused : (n ≡ 0 → ⊥) → open_row ok row r a out count ≡ ((n, out), count)
  unfolding open_row
  row-refused Some-number = rw (number, ne_eqb n 0 Some-number)

  pub row_done : n ≡ 0 → open_row ok row r a out count ≡ ((0, over (plaintext_in row r) out), count_in r)
  unfolding open_row
  row_done zero = rw (number ∙ zero)
