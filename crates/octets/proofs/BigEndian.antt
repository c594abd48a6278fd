-- Big-endian numbers: for every width, writing and reading are each the other's inverse, and keep joining and exclusive or.
-- Assumes nothing.
use mathlib.Core.Path.{◌≡◌, refl, sym, ap, ap₂, ◌∙◌}
use mathlib.Core.List.{List, [], ◌∷◌, ◌++◌}
use Prim.Native.Nat.{ℕ, zero, suc, ◌+◌, ◌*◌, ◌/◌, ◌%◌, ◌^◌, ◌≤◌, ◌<◌}
use native.Mathlib.Nat.{pow-suc, add-zero, zero-add, zero-mul, add-mul, mul_assoc, mul_comm, add_assoc, mul-le-mul_right, le_of_suc-le-suc}
use native.Mathlib.Nat.{mod-lt, mod-eq_of_lt, div-one, div-eq_of_lt, div-div-eq-div-mul, div-add-mod', mul-add-div_right, mul-add-mod_self_right}
use native.Mathlib.Numerals.{add-one}
use native.Mathlib.Omega.{arith}
use lib.Bits.{bit_xor, xor_shr, xor_mod}
use lib.Dec.{lit<}
use lib.ListN.{length, get_or, take, drop, length-append, length-drop}
use lib.Pow.{pow-add}
use lib.Seq.{length-take-le}
use Rattle.octets.specs.Bytes.{Bytes}
use Rattle.octets.specs.Xor.{xors}
use Rattle.octets.specs.BigEndian.{be, number, number_at}
use Rattle.octets.proofs.Values.{cons_equal, bytes_at_part}
use Rattle.octets.proofs.Bytes.{bytes_nil, bytes_cons, bytes_head, bytes_tail, bytes_append, bytes_take, bytes_drop}

-- ---- the bytes of a number

pub length-be : (w n : ℕ) → length (be w n) ≡ w
length-be zero n = refl
length-be (suc w) n = ap suc (length-be w n)

pub bytes-be : (w n : ℕ) → Bytes (be w n)
bytes-be zero n = bytes_nil
bytes-be (suc w) n = bytes_cons (mod-lt (n / 256 ^ w) (lit< tt)) (bytes-be w n)

-- ---- powers of 256

power_pos : (w : ℕ) → 0 < 256 ^ w
power_pos zero = lit< tt
power_pos (suc w) = rw (pow-suc 256 w) (omega (arith, power_pos w))

-- a number of w + 1 digits, by its first digit
module _ (a w : ℕ) where
  power_more : a * 256 ^ suc w ≡ a * 256 * 256 ^ w
  power_more = ap (λ (p : ℕ). a * p) (pow-suc 256 w ∙ mul_comm (256 ^ w) 256) ∙ sym (mul_assoc a 256 (256 ^ w))

  divide_more : a / 256 ^ suc w ≡ a / 256 ^ w / 256
  divide_more = ap (λ (p : ℕ). a / p) (pow-suc 256 w) ∙ sym (div-div-eq-div-mul a (256 ^ w) 256)

-- ---- the number of a string

pub number_lt : {s : List ℕ} → Bytes s → number s < 256 ^ length s
number_lt {s = []} h = lit< tt
number_lt {s = b ∷ s} h =
    rw (pow-suc 256 (length s))
    (below (256 ^ length s) (b * 256 ^ length s) (number s) (mul-le-mul_right (256 ^ length s) (le_of_suc-le-suc (bytes_head h))) (number_lt (bytes_tail h)))
  where
    below : (p q y : ℕ) → q ≤ 255 * p → y < p → q + y < p * 256
    below p q y hq hy = omega arith

number_high : (w n : ℕ) → n / 256 ^ w * 256 ^ w + number (be w n) ≡ n
number_high zero n = rw (div-one n) (omega arith)
number_high (suc w) n =
    ap₂ (λ (x y : ℕ). x + (n / 256 ^ w % 256 * 256 ^ y + number (be w n))) (power_more (n / 256 ^ suc w) w) (length-be w n)
    ∙ sym (add_assoc _ _ _)
    ∙ ap (λ (x : ℕ). x + number (be w n)) (sym (add-mul _ _ _) ∙ ap (λ (x : ℕ). x * 256 ^ w) digits)
    ∙ number_high w n
  where
    digits : n / 256 ^ suc w * 256 + n / 256 ^ w % 256 ≡ n / 256 ^ w
    digits = ap (λ (x : ℕ). x * 256 + n / 256 ^ w % 256) (divide_more n w) ∙ div-add-mod' (n / 256 ^ w) 256

pub number-be : (w n : ℕ) → n < 256 ^ w → number (be w n) ≡ n
number-be w n h = sym (ap (λ (x : ℕ). x * 256 ^ w + number (be w n)) (div-eq_of_lt h) ∙ ap (λ (x : ℕ). x + number (be w n)) (zero-mul (256 ^ w)) ∙ zero-add _) ∙ number_high w n

-- what stands above the w bytes does not show in them
be_low : (w a n : ℕ) → be w (a * 256 ^ w + n) ≡ be w n
be_low zero a n = refl
be_low (suc w) a n =
    rw (power_more a w)
    (cons_equal
    (ap (λ (x : ℕ). x % 256) (mul-add-div_right (power_pos w) (a * 256) n) ∙ mul-add-mod_self_right a 256 (n / 256 ^ w)) (be_low w (a * 256) n))

pub be-number : {s : List ℕ} → Bytes s → be (length s) (number s) ≡ s
be-number {s = []} h = refl
be-number {s = b ∷ s} h =
    cons_equal (ap (λ (x : ℕ). x % 256) first ∙ mod-eq_of_lt (bytes_head h)) (be_low (length s) b (number s) ∙ be-number (bytes_tail h))
  where
    first : (b * 256 ^ length s + number s) / 256 ^ length s ≡ b
    first = mul-add-div_right (power_pos (length s)) b (number s) ∙ ap (λ (x : ℕ). b + x) (div-eq_of_lt (number_lt (bytes_tail h))) ∙ add-zero b

pub be_injective : (w : ℕ) {n m : ℕ} → n < 256 ^ w → m < 256 ^ w → be w n ≡ be w m → n ≡ m
be_injective w {n} {m} hn hm e = sym (number-be w n hn) ∙ ap number e ∙ number-be w m hm

-- ---- strings and numbers put together of two

pub number_append : (s t : List ℕ) → number (s ++ t) ≡ number s * 256 ^ length t + number t
number_append [] t = sym (ap (λ (n : ℕ). n + number t) (zero-mul (256 ^ length t)) ∙ zero-add (number t))
number_append (b ∷ s) t =
    ap₂ (λ (n m : ℕ). b * n + m) (ap (λ (n : ℕ). 256 ^ n) (length-append s t) ∙ pow-add 256 (length s) (length t)) (number_append s t)
    ∙ sym (add_assoc _ _ _)
    ∙ ap (λ (n : ℕ). n + number t)
    (ap (λ (n : ℕ). n + number s * 256 ^ length t) (sym (mul_assoc b (256 ^ length s) (256 ^ length t))) ∙ sym (add-mul _ _ _))

pub be_append : (v w a b : ℕ) → a < 256 ^ v → b < 256 ^ w → be (v + w) (a * 256 ^ w + b) ≡ be v a ++ be w b
be_append v w a b ha hb =
    sym
    (ap₂ be (length-append (be v a) (be w b) ∙ ap₂ ◌+◌ (length-be v a) (length-be w b))
    (number_append (be v a) (be w b)
    ∙ ap₂ (λ (n m : ℕ). n * 256 ^ m + number (be w b)) (number-be v a ha) (length-be w b)
    ∙ ap (λ (n : ℕ). a * 256 ^ w + n) (number-be w b hb)))
    ∙ be-number (bytes_append (bytes-be v a) (bytes-be w b))

-- the last byte apart
pub be_last : (w n : ℕ) → be (suc w) n ≡ be w (n / 256) ++ n % 256 ∷ []
be_last zero n = ap (λ (x : ℕ). x % 256 ∷ []) (div-one n)
be_last (suc w) n = cons_equal (ap (λ (x : ℕ). x % 256) first) (be_last w n)
  where
    first : n / 256 ^ suc w ≡ n / 256 / 256 ^ w
    first = ap (λ (p : ℕ). n / p) (pow-suc 256 w ∙ mul_comm (256 ^ w) 256) ∙ sym (div-div-eq-div-mul n 256 (256 ^ w))

-- ---- exclusive or

power_two : (w : ℕ) → 256 ^ w ≡ 2 ^ (8 * w)
power_two zero = refl
power_two (suc w) = pow-suc 256 w ∙ ap (λ (p : ℕ). p * 256) (power_two w) ∙ sym (pow-add 2 (8 * w) 8) ∙ ap (λ (n : ℕ). 2 ^ n) next
  where
    next : 8 * w + 8 ≡ 8 * suc w
    next = omega arith

pub be_xor : (w a b : ℕ) → be w (bit_xor a b) ≡ xors (be w a) (be w b)
be_xor zero a b = refl
be_xor (suc w) a b =
    cons_equal
    (rw (power_two w) (ap (λ (n : ℕ). n % 256) (xor_shr a b (8 * w)) ∙ xor_mod (a / 2 ^ (8 * w)) (b / 2 ^ (8 * w)) 8)) (be_xor w a b)

-- ---- at a place of a string

pub be-number_at : (w : ℕ) (s : List ℕ) (i : ℕ) → Bytes s → i + w ≤ length s → be w (number_at w s i) ≡ take w (drop i s)
be-number_at w s i h fits =
    ap (λ (l : List ℕ). be w (number l)) (bytes_at_part w s i fits)
    ∙ ap (λ (k : ℕ). be k (number (take w (drop i s)))) (sym (length-take-le w (drop i s) (omega (arith, length-drop i s))))
    ∙ be-number (bytes_take w (bytes_drop i h))

-- ---- two bytes from a place

pub number_at_two : (s : List ℕ) (i : ℕ) → number_at 2 s i ≡ get_or s (i + 0) 0 * 256 + get_or s (i + 1) 0
number_at_two s i = rw (add-zero i, add-one) (omega arith)
