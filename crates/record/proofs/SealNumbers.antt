-- The numbers of sealing, each by the tests that led there, and 0 with the row.
-- Assumes nothing.
use mathlib.Core.Path.{◌≡◌}
use mathlib.Core.Bool.{Bool, true, false, not, ◌||◌, or-false}
use mathlib.Core.List.{List, [], ◌∷◌}
use mathlib.Core.Option.{Option, some, none}
use Prim.Native.Nat.{ℕ}
use lib.Dec.{eqb, ltb}
use lib.ListN.{length}
use Rattle.octets.specs.Lent.{is_not, lowest}
use Rattle.keytable.specs.Row.{Row}
use Rattle.keytable.specs.Calls.{missing, use_in}
use Rattle.modes.specs.Modes.{mode_of}
use Rattle.modes.proofs.Laws.{modes_permit}
use Rattle.record.specs.Seal.{sealed_size, seal_number, ready_by}
use Rattle.record.proofs.Lengths.{too_long}

-- no name, or an IV of another length than that of the row's use
abbrev pub wrong_length : Option Row → List ℕ → List ℕ → Bool
wrong_length row name iv = eqb (length name) 0 || is_not (mode_of (use_in row)).iv_size iv

-- the tests before the row's own are passed
pub record SealMeasured (ok : Bool) (row : Option Row) (name iv a : List ℕ) (n room : ℕ) : Type 0 where
  pub accepted : ok ≡ true
  pub lengths : wrong_length row name iv ≡ false
  pub maxima : too_long (length name) n a ≡ false
  pub fits : ltb room (sealed_size row name n) ≡ false

module _ (ok : Bool) (row : Option Row) (name iv a : List ℕ) (n room : ℕ) where
  -- both modes permit every count
  seal_numbers : seal_number ok row name iv a n room
      ≡ lowest
      ((1, not ok)
      ∷ (2, wrong_length row name iv)
      ∷ (4, too_long (length name) n a)
      ∷ (5, ltb room (sealed_size row name n))
      ∷ (6, missing row)
      ∷ [])
  unfolding seal_number
  seal_numbers = rw (modes_permit (use_in row) n, or-false (wrong_length row name iv))

  pub ready-one : ok ≡ false → ready_by ok row name iv a n room ≡ (1, none)
  unfolding ready_by
  ready-one e = rw (seal_numbers, e)

  pub ready_two : ok ≡ true → wrong_length row name iv ≡ true → ready_by ok row name iv a n room ≡ (2, none)
  unfolding ready_by
  ready_two good e = rw (seal_numbers, good, e)

  pub ready_four : ok ≡ true → wrong_length row name iv ≡ false → too_long (length name) n a ≡ true → ready_by ok row name iv a n room ≡ (4, none)
  unfolding ready_by
  ready_four good sized e = rw (seal_numbers, good, sized, e)

  pub ready_five : ok ≡ true → wrong_length row name iv ≡ false → too_long (length name) n a ≡ false → ltb room (sealed_size row name n) ≡ true
      → ready_by ok row name iv a n room ≡ (5, none)
  unfolding ready_by
  ready_five good sized short e = rw (seal_numbers, good, sized, short, e)

  module _ (m : SealMeasured ok row name iv a n room) where
    pub ready_six : row ≡ none → ready_by ok row name iv a n room ≡ (6, none)
    unfolding ready_by
    ready_six e = rw (seal_numbers, m.accepted, m.lengths, m.maxima, m.fits, e)

    pub ready-zero : (found : Row) → row ≡ some found → ready_by ok row name iv a n room ≡ (0, some found)
    unfolding ready_by
    ready-zero found has = rw (seal_numbers, m.accepted, m.lengths, m.maxima, m.fits, has)
