-- Hexadecimal digits and the bytes they make: each digit's value, and strings of them one pair at a time.
-- Assumes nothing.
use mathlib.Core.Path.{◌≡◌, refl, sym, ap, ◌∙◌}
use mathlib.Core.Bool.{Bool, true, false, ◌&&◌}
use mathlib.Core.List.{List, [], ◌∷◌, ◌++◌}
use Prim.Native.Nat.{ℕ, zero, suc, ◌+◌, ◌-◌, ◌*◌, ◌/◌, ◌%◌, ◌≤◌, ◌<◌}
use Prim.Native.Char.{code}
use native.Mathlib.Numerals.{add-one}
use native.Mathlib.Omega.{arith}
use lib.Dec.{eqb, leb, ltb}
use lib.ListN.{length, get_or, take}
use lib.Seq.{take-suc}
use borrow.Author.Tests.{eqb-true, leb-true, ltb-true, ltb-false, lt-ltb, le-ltb, le-leb, lt-leb}
use Rattle.std.specs.List.{list_all}
use Rattle.octets.specs.Lent.{when, over}
use Rattle.octets.specs.Tests.{all}
use Rattle.octets.proofs.Tests.{and_left, and_right}
use Rattle.wording.specs.Decimal.{between, is_decimal_digit, decimal_digit}
use Rattle.wording.specs.Hex.{is_small_digit, is_capital_digit, is_hex_digit, digit_value, digit_of, is_hex, hex_byte, hex_bytes, digits_of, hex_read}

-- ---- one digit

module _ (low high c : ℕ) (h : between low high c ≡ true) where
  pub between_low : low ≤ c
  between_low = leb-true low c (and_left (leb low c) (leb c high) h)

  pub between_high : c ≤ high
  between_high = leb-true c high (and_right (leb low c) (leb c high) h)

  bounds : (low ≤ c) × (c ≤ high)
  bounds = (between_low, between_high)

-- what each kind of digit counts, from its first on
abbrev pub Counted : ℕ → ℕ → ℕ → ℕ → Type 0
Counted low high c v = ((low ≤ c) × (c ≤ high)) × (v ≡ digit_value c)

module _ (c : ℕ) where
  pub value-decimal : is_decimal_digit c ≡ true → Counted (code "0") (code "9") c (c - code "0")
  unfolding digit_value
  value-decimal h = (bounds (code "0") (code "9") c h, rw h)

  pub value_small : is_decimal_digit c ≡ false → is_small_digit c ≡ true → Counted (code "a") (code "f") c (c - code "a" + 10)
  unfolding digit_value
  value_small h₁ h₂ = (bounds (code "a") (code "f") c h₂, rw (h₁, h₂))

  pub value_capital : is_decimal_digit c ≡ false → is_small_digit c ≡ false → is_capital_digit c ≡ true → Counted (code "A") (code "F") c (c - code "A" + 10)
  unfolding digit_value
  value_capital h₁ h₂ h₃ = (bounds (code "A") (code "F") c h₃, rw (h₁, h₂, h₃))

pub digit_low : (capital : Bool) (d : ℕ) → d < 10 → digit_of capital d ≡ decimal_digit d
unfolding digit_of
digit_low capital d h = rw (lt-ltb d 10 h)

pub digit_high : (capital : Bool) (d : ℕ) → 10 ≤ d → digit_of capital d ≡ when capital (code "A") (code "a") + (d - 10)
unfolding digit_of
digit_high capital d h = rw (le-ltb d 10 h)

-- a digit that was written is one, and counts what it was written for

between_right : (low high c : ℕ) → low ≤ c → c ≤ high → between low high c ≡ true
between_right low high c l h = rw (le-leb low c l, le-leb c high h)

between-over : (low high c : ℕ) → low ≤ high → high < c → between low high c ≡ false
between-over low high c l h = rw (lt-leb c high h, le-leb low c (omega arith))

between_under : (low high c : ℕ) → c < low → between low high c ≡ false
between_under low high c h = rw (lt-leb low c h)

abbrev Counts : ℕ → ℕ → Type 0
Counts c d = (is_hex_digit c ≡ true) × (digit_value c ≡ d)

module _ (d : ℕ) (below : d < 16) where
  counts_low : d < 10 → Counts (decimal_digit d) d
  unfolding is_hex_digit
  counts_low h =
      let range = between_right (code "0") (code "9") (decimal_digit d) (omega arith) (omega arith) in
      (rw range, sym (value-decimal (decimal_digit d) range).1 ∙ omega arith)

  counts_high : (capital : Bool) → 10 ≤ d → Counts (when capital (code "A") (code "a") + (d - 10)) d
  unfolding is_hex_digit
  counts_high true h =
      let c : ℕ = code "A" + (d - 10) in
      let no-decimal = between-over (code "0") (code "9") c (omega arith) (omega arith) in
      let no-small = between_under (code "a") (code "f") c (omega arith) in
      let range = between_right (code "A") (code "F") c (omega arith) (omega arith) in
      (rw (no-decimal, no-small, range), sym (value_capital c no-decimal no-small range).1 ∙ omega arith)
  counts_high false h =
      let c : ℕ = code "a" + (d - 10) in
      let no-decimal = between-over (code "0") (code "9") c (omega arith) (omega arith) in
      let range = between_right (code "a") (code "f") c (omega arith) (omega arith) in
      (rw (no-decimal, range), sym (value_small c no-decimal range).1 ∙ omega arith)

  pub digit_counts : (capital : Bool) → Counts (digit_of capital d) d
  digit_counts capital = go (ltb d 10) refl
    where
      go : (t : Bool) → ltb d 10 ≡ t → Counts (digit_of capital d) d
      go true t = rw (digit_low capital d (ltb-true d 10 t)) (counts_low (ltb-true d 10 t))
      go false t = rw (digit_high capital d (ltb-false d 10 t)) (counts_high capital (ltb-false d 10 t))

-- std's word for a test of every element is octets' one
pub all_list : (p : ℕ → Bool) (s : List ℕ) → all p s ≡ list_all p s
unfolding all
all_list p [] = refl
all_list p (x ∷ s) = ap (λ (t : Bool). p x && t) (all_list p s)

-- ---- bytes

pub length-hex_bytes : (k : ℕ) (s : List ℕ) → length s ≡ 2 * k → length (hex_bytes s) ≡ k
unfolding hex_bytes
length-hex_bytes zero [] e = refl
length-hex_bytes (suc k) [] e = absurd (omega arith)
length-hex_bytes k (a ∷ []) e = absurd (omega arith)
length-hex_bytes zero (a ∷ b ∷ s) e = absurd (omega arith)
length-hex_bytes (suc k) (a ∷ b ∷ s) e = ap suc (length-hex_bytes k s (omega arith))

pub get_d-hex_bytes : (s : List ℕ) (i : ℕ) → i < length s / 2 → get_or (hex_bytes s) i 0 ≡ hex_byte (get_or s (2 * i) 0) (get_or s (2 * i + 1) 0)
unfolding hex_bytes
get_d-hex_bytes [] i h = absurd (omega arith)
get_d-hex_bytes (a ∷ []) i h = absurd (omega arith)
get_d-hex_bytes (a ∷ b ∷ s) zero h = refl
get_d-hex_bytes (a ∷ b ∷ s) (suc i) h =
    let next : 2 * suc i ≡ suc (suc (2 * i)) = omega arith in
    let after : suc (suc (2 * i)) + 1 ≡ suc (suc (2 * i + 1)) = omega arith in
    rw (next, after) (get_d-hex_bytes s i (omega arith))

-- ---- digits

pub length-digits_of : (capital : Bool) (s : List ℕ) → length (digits_of capital s) ≡ 2 * length s
unfolding digits_of
length-digits_of capital [] = refl
length-digits_of capital (b ∷ s) = omega (arith, length-digits_of capital s)

digits_of_append : (capital : Bool) (s t : List ℕ) → digits_of capital (s ++ t) ≡ digits_of capital s ++ digits_of capital t
unfolding digits_of
digits_of_append capital [] t = refl
digits_of_append capital (b ∷ s) t = ap (λ (l : List ℕ). digit_of capital (b / 16) ∷ digit_of capital (b % 16) ∷ l) (digits_of_append capital s t)

-- one byte's digits more
pub digits_turn : (capital : Bool) (s : List ℕ) (i : ℕ) → i < length s
    → digits_of capital (take (i + 1) s) ≡ digits_of capital (take i s) ++ digit_of capital (get_or s i 0 / 16) ∷ digit_of capital (get_or s i 0 % 16) ∷ []
unfolding digits_of
digits_turn capital s i h = rw (add-one, take-suc s i 0 h) (digits_of_append capital (take i s) (get_or s i 0 ∷ []))

-- ---- the calls

module _ (word out : List ℕ) where
  pub read_no_hex : is_hex word ≡ false → hex_read word out ≡ (2, out)
  unfolding hex_read
  read_no_hex e = rw e

  pub read_no_room : is_hex word ≡ true → length out < length word / 2 → hex_read word out ≡ (5, out)
  unfolding hex_read
  read_no_room e h = rw (e, lt-ltb (length out) (length word / 2) h)

  pub read_done : is_hex word ≡ true → length word / 2 ≤ length out → hex_read word out ≡ (0, over (hex_bytes word) out)
  unfolding hex_read
  read_done e h = rw (e, le-ltb (length out) (length word / 2) h)

pub hex_even : (word : List ℕ) → is_hex word ≡ true → length word % 2 ≡ 0
unfolding is_hex
hex_even word e = eqb-true (length word % 2) 0 (and_left (eqb (length word % 2) 0) (all is_hex_digit word) e)
