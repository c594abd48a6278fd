-- What a word stands for: what reading its digits tells of it.
-- Assumes nothing.
use mathlib.Core.Path.{◌≡◌, refl, sym, ap, ◌∙◌}
use mathlib.Core.Bool.{Bool, true, false, not, ◌&&◌, and-false}
use mathlib.Core.List.{List, [], ◌∷◌}
use Prim.Native.Nat.{ℕ, zero, suc, ◌*◌, ◌/◌, ◌%◌, ◌≤◌, ◌<◌}
use native.Mathlib.Nat.{le_of_suc-le-suc, not-suc-le-zero}
use native.Mathlib.Omega.{arith}
use lib.Dec.{eqb, ltb, leb}
use lib.ListN.{length, take}
use borrow.Author.Tests.{eq-eqb, ne_eqb, leb-true, ltb-true, ltb-false, le-leb, lt-leb}
use Rattle.std.specs.Prelude.{Some, None}
use Rattle.octets.specs.Lent.{lowest, over}
use Rattle.octets.specs.Tests.{all}
use Rattle.octets.proofs.Tests.{and_left, and_right}
use Rattle.octets.proofs.Lent.{take-over}
use Rattle.wording.specs.Decimal.{is_decimal_digit, value_of}
use Rattle.wording.specs.Hex.{is_hex, hex_bytes, hex_read}
use Rattle.wording.specs.Number.{is_decimal, number_read}
use Rattle.wording.proofs.Digits.{length-hex_bytes, hex_even, read_done}
use Rattle.wording.proofs.NumberLaws.{number_exactly}
use Rattle.cases.specs.Strings.{word_max, is_dash, is_bytes, bytes_in, is_room, lent_room}

-- ---- `-`

pub dash-reads : (w room : List ℕ) → is_dash w ≡ true → (is_bytes w ≡ true) × (take 0 room ≡ bytes_in w)
unfolding is_bytes bytes_in
dash-reads w room e = (rw e, rw e)

-- ---- digits

module _ (w room after : List ℕ) (n : ℕ) (size : length room ≡ word_max) (other : is_dash w ≡ false) (read : hex_read w room ≡ (n, after)) where
  right : is_bytes w ≡ eqb n 0
  unfolding is_bytes hex_read
  right = rw (other, ← ap (λ (p : ℕ × List ℕ). p.0) read) (go (is_hex w) refl (ltb (length room) (length w / 2)) refl)
    where
      go : (h : Bool) → is_hex w ≡ h → (t : Bool) → ltb (length room) (length w / 2) ≡ t → (h && leb (length w) (2 * word_max)) ≡ eqb (lowest ((2, not h) ∷ (5, t) ∷ [])) 0
      go true eh true e = lt-leb (length w) (2 * word_max) (omega (arith, ltb-true (length room) (length w / 2) e))
      go true eh false e = le-leb (length w) (2 * word_max) (omega (arith, hex_even w eh, ltb-false (length room) (length w / 2) e))
      go false eh t e = refl

  pub no_bytes : (n ≡ 0 → ⊥) → is_bytes w ≡ false
  no_bytes wrong = right ∙ ne_eqb n 0 wrong

  both : n ≡ 0 → (is_hex w && leb (length w) (2 * word_max)) ≡ true
  unfolding is_bytes
  both e = let is : is_bytes w ≡ true = right ∙ eq-eqb n 0 e in rw other at is

  pub bytes_fit : n ≡ 0 → length w / 2 ≤ word_max
  bytes_fit e = omega (arith, leb-true (length w) (2 * word_max) (and_right (is_hex w) (leb (length w) (2 * word_max)) (both e)))

  pub bytes_read : n ≡ 0 → (is_bytes w ≡ true) × (take (length w / 2) after ≡ bytes_in w)
  unfolding bytes_in
  bytes_read e =
      let hex = and_left (is_hex w) (leb (length w) (2 * word_max)) (both e) in
      let even : length w % 2 ≡ 0 = hex_even w hex in
      let written : after ≡ over (hex_bytes w) room = ap (λ (p : ℕ × List ℕ). p.1) (sym read ∙ read_done w room hex (omega (arith, bytes_fit e))) in (
        right ∙ eq-eqb n 0 e,
        rw (written, other) (take-over (hex_bytes w) room (length w / 2) (length-hex_bytes (length w / 2) w (omega arith)) (omega (arith, bytes_fit e))),
      )

-- ---- a room in decimal digits

pub take_room : (n m : ℕ) → n ≤ m → take n (lent_room m) ≡ lent_room n
unfolding lent_room
take_room zero m h = refl
take_room (suc n) zero h = absurd (not-suc-le-zero h)
take_room (suc n) (suc m) h = ap (λ (l : List ℕ). 0xA5 ∷ l) (take_room n m (le_of_suc-le-suc h))

pub room_empty : (w : List ℕ) → length w ≡ 0 → (is_room w ≡ true) × (0 ≡ value_of w)
unfolding is_room all
room_empty [] e = (refl, refl)
room_empty (x ∷ w) e = absurd (omega arith)

module _ (w : List ℕ) where
  module _ (n : ℕ) (reads : Some n ≡ number_read w) where
    digits : all is_decimal_digit w ≡ true
    unfolding is_decimal
    digits = and_right (not (eqb (length w) 0)) (all is_decimal_digit w) ((number_exactly w n).0 (sym reads)).0

    pub room_large : word_max < n → is_room w ≡ false
    unfolding is_room
    room_large h =
        let large : word_max < value_of w = omega (arith, ((number_exactly w n).0 (sym reads)).1) in
        rw (lt-leb (value_of w) word_max large) (and-false (all is_decimal_digit w))

    pub room_read : n ≤ word_max → (is_room w ≡ true) × (n ≡ value_of w)
    unfolding is_room
    room_read h =
        let same : n ≡ value_of w = omega (arith, ((number_exactly w n).0 (sym reads)).1) in
        (rw (digits, le-leb (value_of w) word_max (omega (arith, same))), same)

  pub room_other : (length w ≡ 0 → ⊥) → None ≡ number_read w → is_room w ≡ false
  unfolding is_room is_decimal
  room_other long e = go (all is_decimal_digit w) refl
    where
      go : (t : Bool) → all is_decimal_digit w ≡ t → is_room w ≡ false
      go true d =
          let read = (number_exactly w _).1 (rw (ne_eqb (length w) 0 long, d) refl, refl) in
          let never = e ∙ read in cc
      go false d = rw d

pub room_small : (w : List ℕ) {n : ℕ} → is_room w ≡ true → n ≡ value_of w → n ≤ word_max
unfolding is_room
room_small w e is = omega (arith, is, leb-true (value_of w) word_max (and_right (all is_decimal_digit w) (leb (value_of w) word_max) e))
