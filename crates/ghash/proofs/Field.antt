-- The product over numbers: what the bits of n add, with V at the first, is linear in n and in V; two factors' bits may be taken in either order;
-- with the one for V, n itself is what its bits add; and V may be moved on by many bits at once.
-- Assumes nothing.
use mathlib.Core.Path.{◌≡◌, refl, sym, ap, ap₂, ◌∙◌}
use Prim.Native.Nat.{ℕ, zero, suc, ◌+◌, ◌*◌, ◌/◌, ◌%◌, ◌^◌, ◌<◌}
use native.Mathlib.Nat.{add-zero, zero-add, suc-add, add-suc, zero-mul, one-mul, mul-one, add-mul, mul_assoc, mul_comm, pow-suc, mod-lt, lt_of_le_of_lt}
use native.Mathlib.Numerals.{add-one, one-add}
use native.Mathlib.Omega.{arith}
use lib.Bits.{bit_xor, xor_zero_l, xor_zero_r, xor_self, xor_shr, xor_mod, xor_lt, xor_shifted, shifted_half, shifted_even}
use lib.Dec.{lit<}
use lib.Pow.{pow_pos, shl_lt, shr_le, split}
use Rattle.octets.proofs.Xor.{xor_assoc, xor_exchange, digit_lt, digit-times_xor, xor_digits-times}
use Rattle.ghash.specs.Field.{R, times_x, times_xs}
use Rattle.ghash.specs.Table.{low_bits, adds}
use Rattle.ghash.proofs.Multiply.{times_xs_add, adds_last}

-- ---- functions that keep exclusive or

abbrev pub Linear : (ℕ → ℕ) → Type 0
Linear f = (a b : ℕ) → f (bit_xor a b) ≡ bit_xor (f a) (f b)

-- a digit as a factor
linear_digit : (f : ℕ → ℕ) → Linear f → (x v : ℕ) → x < 2 → f (x * v) ≡ x * f v
linear_digit f linear zero v h = ap f (zero-mul v) ∙ linear 0 0 ∙ xor_self (f 0) ∙ sym (zero-mul (f v))
linear_digit f linear (suc zero) v h = ap f (one-mul v) ∙ sym (one-mul (f v))
linear_digit f linear (suc (suc x)) v h = absurd (omega arith)

times_x_linear : Linear times_x
unfolding times_x
times_x_linear a b =
    ap₂ (λ (m n : ℕ). bit_xor m (n * R)) (xor_shr a b 1) (xor_mod a b 1)
    ∙ ap (bit_xor (bit_xor (a / 2) (b / 2))) (xor_digits-times (a % 2) (b % 2) R (digit_lt a) (digit_lt b))
    ∙ xor_exchange (a / 2) (b / 2) (a % 2 * R) (b % 2 * R)

times_xs_linear : (k : ℕ) → Linear (times_xs k)
times_xs_linear zero a b = refl
times_xs_linear (suc k) a b = ap (times_xs k) (times_x_linear a b) ∙ times_xs_linear k (times_x a) (times_x b)

-- ---- linear in the number whose bits are taken, and in V

pub adds_linear : (b v : ℕ) → Linear (adds b v)
unfolding adds low_bits
adds_linear zero v m n = refl
adds_linear (suc b) v m n =
    adds_last b v (bit_xor m n)
    ∙ ap₂ bit_xor (ap (adds b v) (xor_shr m n 1) ∙ adds_linear b v (m / 2) (n / 2))
    (ap (λ (k : ℕ). k * times_xs b v) (xor_mod m n 1) ∙ xor_digits-times (m % 2) (n % 2) (times_xs b v) (digit_lt m) (digit_lt n))
    ∙ xor_exchange (adds b v (m / 2)) (adds b v (n / 2)) (m % 2 * times_xs b v) (n % 2 * times_xs b v)
    ∙ sym (ap₂ bit_xor (adds_last b v m) (adds_last b v n))

adds_linear_in-V : (b n : ℕ) → Linear (λ v. adds b v n)
unfolding adds low_bits
adds_linear_in-V zero n u v = refl
adds_linear_in-V (suc b) n u v =
    adds_last b (bit_xor u v) n
    ∙ ap₂ bit_xor (adds_linear_in-V b (n / 2) u v)
    (ap (λ (k : ℕ). n % 2 * k) (times_xs_linear b u v) ∙ digit-times_xor (n % 2) (times_xs b u) (times_xs b v) (digit_lt n))
    ∙ xor_exchange (adds b u (n / 2)) (adds b v (n / 2)) (n % 2 * times_xs b u) (n % 2 * times_xs b v)
    ∙ sym (ap₂ bit_xor (adds_last b u n) (adds_last b v n))

-- ---- in either order

-- a linear function that may change places with times_x may change places with what any bits add
module _ (f : ℕ → ℕ) (linear : Linear f) (places : (v : ℕ) → f (times_x v) ≡ times_x (f v)) where
  after-times_xs : (k v : ℕ) → f (times_xs k v) ≡ times_xs k (f v)
  after-times_xs zero v = refl
  after-times_xs (suc k) v = after-times_xs k (times_x v) ∙ ap (times_xs k) (places v)

  after-adds : (b v n : ℕ) → f (adds b v n) ≡ adds b (f v) n
  unfolding adds low_bits
  after-adds zero v n = linear 0 0 ∙ xor_self (f 0)
  after-adds (suc b) v n =
      ap f (adds_last b v n)
      ∙ linear (adds b v (n / 2)) (n % 2 * times_xs b v)
      ∙ ap₂ bit_xor (after-adds b v (n / 2)) (linear_digit f linear (n % 2) (times_xs b v) (digit_lt n) ∙ ap (λ (k : ℕ). n % 2 * k) (after-times_xs b v))
      ∙ sym (adds_last b (f v) n)

-- of times_x itself, of many bits of it, and so of what other bits add
times_xs-adds : (k b v n : ℕ) → times_xs k (adds b v n) ≡ adds b (times_xs k v) n
times_xs-adds k = after-adds (times_xs k) (times_xs_linear k) (λ v. sym (after-times_xs times_x times_x_linear (λ w. refl) k v))

pub adds_either_order : (a b v m n : ℕ) → adds a (adds b v n) m ≡ adds b (adds a v m) n
adds_either_order a b v m n = after-adds (λ u. adds a u m) (adds_linear_in-V a m) (λ u. sym (after-adds times_x times_x_linear (λ w. refl) a u m)) b v n

-- ---- the one

-- a number that ends in zeros goes down by as many places
times_x-shifted : (a k : ℕ) → times_x (a * 2 ^ suc k) ≡ a * 2 ^ k
unfolding times_x
times_x-shifted a k = ap₂ (λ (m n : ℕ). bit_xor m (n * R)) (shifted_half a k) (shifted_even a k) ∙ xor_zero_r (a * 2 ^ k)

times_xs-shifted : (b k a : ℕ) → times_xs b (a * 2 ^ (b + k)) ≡ a * 2 ^ k
times_xs-shifted zero k a = ap (λ (n : ℕ). a * 2 ^ n) (zero-add k)
times_xs-shifted (suc b) k a = ap (times_xs b) (ap (λ (n : ℕ). times_x (a * 2 ^ n)) (suc-add b k) ∙ times_x-shifted a (b + k)) ∙ times_xs-shifted b k a

times_xs-power : (b k : ℕ) → times_xs b (2 ^ (b + k)) ≡ 2 ^ k
times_xs-power b k = ap (times_xs b) (sym (one-mul (2 ^ (b + k)))) ∙ times_xs-shifted b k 1 ∙ one-mul (2 ^ k)

-- with V a power of two that stays one to the last bit
adds-power : (b k n : ℕ) → n < 2 ^ suc b → adds (suc b) (2 ^ (b + k)) n ≡ n * 2 ^ k
unfolding adds low_bits
adds-power zero k n lt = adds_last 0 (2 ^ (0 + k)) n ∙ xor_zero_l (n % 2 * 2 ^ (0 + k)) ∙ ap₂ (λ (m p : ℕ). m * 2 ^ p) one_digit (zero-add k)
  where
    one_digit : n % 2 ≡ n
    one_digit = omega arith
adds-power (suc b) k n lt =
    adds_last (suc b) (2 ^ (suc b + k)) n
    ∙ ap₂ bit_xor (ap (λ (p : ℕ). adds (suc b) (2 ^ p) (n / 2)) (suc-add b k ∙ sym (add-suc b k)) ∙ adds-power b (suc k) (n / 2) half)
    (ap (λ (p : ℕ). n % 2 * p) (times_xs-power (suc b) k))
    ∙ xor_shifted (n / 2) (suc k) (n % 2 * 2 ^ k) (rw one-add at (shl_lt 1 k (digit_lt n)))
    ∙ ap (λ (p : ℕ). p + n % 2 * 2 ^ k) (ap (λ (p : ℕ). n / 2 * p) (pow-suc 2 k ∙ mul_comm (2 ^ k) 2) ∙ sym (mul_assoc (n / 2) 2 (2 ^ k)))
    ∙ sym (add-mul (n / 2 * 2) (n % 2) (2 ^ k))
    ∙ ap (λ (m : ℕ). m * 2 ^ k) digits
  where
    half : n / 2 < 2 ^ suc b
    half = omega (arith, pow-suc 2 (suc b))

    digits : n / 2 * 2 + n % 2 ≡ n
    digits = omega arith

pub adds_one : (n : ℕ) → n < 2 ^ 128 → adds 128 (2 ^ 127) n ≡ n
adds_one n lt = adds-power 127 0 n lt ∙ mul-one n

-- the order of two factors of 128 bits is free
pub adds_commutes : (m n : ℕ) → m < 2 ^ 128 → n < 2 ^ 128 → adds 128 m n ≡ adds 128 n m
adds_commutes m n hm hn =
    ap (λ (v : ℕ). adds 128 v n) (sym (adds_one m hm)) ∙ adds_either_order 128 128 (2 ^ 127) n m ∙ ap (λ (v : ℕ). adds 128 v m) (adds_one n hn)

-- ---- many bits at once

times_x-one : times_x 1 ≡ R
unfolding times_x
times_x-one = refl

-- what falls out of V comes in again from R on
times_xs_out : (b z : ℕ) → times_xs (suc b) z ≡ bit_xor (z / 2 ^ suc b) (adds (suc b) R (z % 2 ^ suc b))
times_xs_out b z =
    ap (times_xs (suc b)) (sym (split z (suc b)) ∙ sym (xor_shifted (z / 2 ^ suc b) (suc b) (z % 2 ^ suc b) below))
    ∙ times_xs_linear (suc b) (z / 2 ^ suc b * 2 ^ suc b) (z % 2 ^ suc b)
    ∙ ap₂ bit_xor stays falls
  where
    below : z % 2 ^ suc b < 2 ^ suc b
    below = mod-lt z (pow_pos (suc b))

    stays : times_xs (suc b) (z / 2 ^ suc b * 2 ^ suc b) ≡ z / 2 ^ suc b
    stays =
        ap (λ (k : ℕ). times_xs (suc b) (z / 2 ^ suc b * 2 ^ k)) (sym (add-zero (suc b)))
        ∙ times_xs-shifted (suc b) 0 (z / 2 ^ suc b)
        ∙ mul-one (z / 2 ^ suc b)

    R_first : times_xs (suc b) (2 ^ (b + 0)) ≡ R
    R_first = sym (ap (λ (k : ℕ). times_xs k (2 ^ (b + 0))) (add-one b)) ∙ times_xs_add b 1 (2 ^ (b + 0)) ∙ ap times_x (times_xs-power b 0) ∙ times_x-one

    falls : times_xs (suc b) (z % 2 ^ suc b) ≡ adds (suc b) R (z % 2 ^ suc b)
    falls =
        ap (times_xs (suc b)) (sym (adds-power b 0 (z % 2 ^ suc b) below ∙ mul-one (z % 2 ^ suc b)))
        ∙ times_xs-adds (suc b) (suc b) (2 ^ (b + 0)) (z % 2 ^ suc b)
        ∙ ap (λ (v : ℕ). adds (suc b) v (z % 2 ^ suc b)) R_first

-- the bits of m by the four bits of R, of which the lowest is moved to place k
abbrev pub fourfold : (k m : ℕ) → ℕ
fourfold k m = bit_xor (bit_xor (bit_xor (m * 2 ^ (7 + k)) (m * 2 ^ (6 + k))) (m * 2 ^ (5 + k))) (m * 2 ^ k)

pub times_xs_32 : (z : ℕ) → times_xs 32 z ≡ bit_xor (z / 2 ^ 32) (fourfold 89 (z % 2 ^ 32))
times_xs_32 z =
    times_xs_out 31 z
    ∙ ap (bit_xor (z / 2 ^ 32))
    (linear (bit_xor (bit_xor (2 ^ 127) (2 ^ 126)) (2 ^ 125)) (2 ^ 120)
    ∙ ap₂ bit_xor
    (linear (bit_xor (2 ^ 127) (2 ^ 126)) (2 ^ 125) ∙ ap₂ bit_xor (linear (2 ^ 127) (2 ^ 126) ∙ ap₂ bit_xor (shifted 96) (shifted 95)) (shifted 94))
    (shifted 89))
  where
    linear : Linear (λ v. adds 32 v (z % 2 ^ 32))
    linear = adds_linear_in-V 32 (z % 2 ^ 32)

    shifted : (k : ℕ) → adds 32 (2 ^ (31 + k)) (z % 2 ^ 32) ≡ z % 2 ^ 32 * 2 ^ k
    shifted k = adds-power 31 k (z % 2 ^ 32) (mod-lt z (pow_pos 32))

-- what two parts of X add by one table: the second moved on by the bits of the first, and z by those of both
pub adds-parts : (a b v m n z : ℕ)
    → bit_xor (adds a v m) (times_xs a (bit_xor (adds b v n) (times_xs b z))) ≡ bit_xor (bit_xor (adds a v m) (adds b (times_xs a v) n)) (times_xs (b + a) z)
adds-parts a b v m n z =
    ap (bit_xor (adds a v m)) (times_xs_linear a (adds b v n) (times_xs b z) ∙ ap₂ bit_xor (times_xs-adds a b v n) (sym (times_xs_add b a z)))
    ∙ sym (xor_assoc (adds a v m) (adds b (times_xs a v) n) (times_xs (b + a) z))

pub times_xs-zero : (k : ℕ) → times_xs k 0 ≡ 0
times_xs-zero k = times_xs_linear k 0 0 ∙ xor_self (times_xs k 0)

-- ---- below 2^128

digit-times_lt : (x v : ℕ) → x < 2 → v < 2 ^ 128 → x * v < 2 ^ 128
digit-times_lt zero v h lt = rw zero-mul (lit< tt)
digit-times_lt (suc zero) v h lt = rw one-mul lt
digit-times_lt (suc (suc x)) v h lt = absurd (omega arith)

times_x_lt : (v : ℕ) → v < 2 ^ 128 → times_x v < 2 ^ 128
unfolding times_x
times_x_lt v lt = xor_lt 128 (v / 2) (v % 2 * R) (lt_of_le_of_lt (shr_le v 1) lt) (digit-times_lt (v % 2) R (digit_lt v) (lit< tt))

times_xs_lt : (k v : ℕ) → v < 2 ^ 128 → times_xs k v < 2 ^ 128
times_xs_lt zero v lt = lt
times_xs_lt (suc k) v lt = times_xs_lt k (times_x v) (times_x_lt v lt)

pub adds_lt : (b v n : ℕ) → v < 2 ^ 128 → adds b v n < 2 ^ 128
unfolding adds low_bits
adds_lt zero v n lt = lit< tt
adds_lt (suc b) v n lt =
    rw (adds_last b v n)
    (xor_lt 128 (adds b v (n / 2)) (n % 2 * times_xs b v) (adds_lt b v (n / 2) lt) (digit-times_lt (n % 2) (times_xs b v) (digit_lt n) (times_xs_lt b v lt)))
