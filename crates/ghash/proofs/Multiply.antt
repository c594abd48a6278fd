-- Algorithm 1 in parts: Z is a sum of what each bit adds, so the bits may be taken in windows of any width.
-- Assumes nothing.
use mathlib.Core.Path.{◌≡◌, refl, sym, ap, ap₂, ◌∙◌}
use mathlib.Core.List.{List, [], ◌∷◌, ◌++◌, append_assoc, append-nil}
use Prim.Native.Nat.{ℕ, zero, suc, ◌+◌, ◌*◌, ◌/◌, ◌%◌, ◌^◌, ◌<◌}
use native.Mathlib.Nat.{add-zero, add-suc, zero-add, suc-add, zero-mul, one-mul, mul-suc, pow-suc}
use native.Mathlib.Omega.{arith}
use lib.Bits.{bit_xor, xor_zero_l, xor_zero_r, xor_comm}
use lib.ListN.{length, length-append}
use lib.Pow.{shr-shr, mod-pow-add}
use Rattle.octets.specs.BigEndian.{be}
use Rattle.octets.proofs.Values.{cons_equal}
use Rattle.octets.proofs.BigEndian.{be_last, length-be}
use Rattle.octets.proofs.Xor.{xor_assoc}
use Rattle.ghash.specs.Field.{byte_bits, bits, times_x, times_xs, multiply}
use Rattle.ghash.specs.Table.{low_bits, adds}

-- the middle of three terms comes last
xor_last : (a b c : ℕ) → bit_xor (bit_xor a b) c ≡ bit_xor (bit_xor a c) b
xor_last a b c = xor_assoc a b c ∙ ap (bit_xor a) (xor_comm b c) ∙ sym (xor_assoc a c b)

-- ---- bits in parts

pub times_xs_add : (m n v : ℕ) → times_xs (m + n) v ≡ times_xs n (times_xs m v)
times_xs_add zero n v = ap (λ (k : ℕ). times_xs k v) (zero-add n)
times_xs_add (suc m) n v = ap (λ (k : ℕ). times_xs k v) (suc-add m n) ∙ times_xs_add m n (times_x v)

-- Z apart
pub multiply_apart : (xs : List ℕ) (z v : ℕ) → multiply xs z v ≡ bit_xor z (multiply xs 0 v)
multiply_apart [] z v = sym (xor_zero_r z)
multiply_apart (x ∷ xs) z v =
    multiply_apart xs (bit_xor z (x * v)) (times_x v)
    ∙ xor_assoc z (x * v) (multiply xs 0 (times_x v))
    ∙ ap (bit_xor z) (sym (ap (λ (n : ℕ). multiply xs n (times_x v)) (xor_zero_l (x * v)) ∙ multiply_apart xs (x * v) (times_x v)))

pub multiply_append : (xs ys : List ℕ) (z v : ℕ)
    → multiply (xs ++ ys) z v ≡ bit_xor (multiply xs z v) (multiply ys 0 (times_xs (length xs) v))
multiply_append [] ys z v = multiply_apart ys z v
multiply_append (x ∷ xs) ys z v = multiply_append xs ys (bit_xor z (x * v)) (times_x v)

-- ---- the lowest bits of a number

length-low_bits : (b n : ℕ) → length (low_bits b n) ≡ b
unfolding low_bits
length-low_bits zero n = refl
length-low_bits (suc b) n = length-append (low_bits b (n / 2)) (n % 2 ∷ []) ∙ omega (arith, length-low_bits b (n / 2))

-- the last bit apart
pub adds_last : (b v n : ℕ) → adds (suc b) v n ≡ bit_xor (adds b v (n / 2)) (n % 2 * times_xs b v)
unfolding adds low_bits
adds_last b v n =
    multiply_append (low_bits b (n / 2)) (n % 2 ∷ []) 0 v
    ∙ ap (λ (l : ℕ). bit_xor (adds b v (n / 2)) (bit_xor 0 (n % 2 * times_xs l v))) (length-low_bits b (n / 2))
    ∙ ap (bit_xor (adds b v (n / 2))) (xor_zero_l (n % 2 * times_xs b v))

-- no bit is 1
pub adds_none : (b v : ℕ) → adds b v 0 ≡ 0
unfolding adds low_bits
adds_none zero v = refl
adds_none (suc b) v = adds_last b v 0 ∙ ap₂ bit_xor (adds_none b v) (zero-mul (times_xs b v))

-- a window of b bits apart
pub adds_window : (a b v n : ℕ) → adds (a + b) v n ≡ bit_xor (adds a v (n / 2 ^ b)) (adds b (times_xs a v) n)
unfolding adds low_bits
adds_window a zero v n = ap₂ (λ (k m : ℕ). adds k v m) (add-zero a) one ∙ sym (xor_zero_r (adds a v (n / 2 ^ 0)))
  where
    one : n ≡ n / 2 ^ 0
    one = omega arith
adds_window a (suc b) v n =
    ap (λ (k : ℕ). adds k v n) (add-suc a b)
    ∙ adds_last (a + b) v n
    ∙ ap₂ bit_xor (adds_window a b v (n / 2)) (ap (λ (t : ℕ). n % 2 * t) (times_xs_add a b v))
    ∙ xor_assoc (adds a v (n / 2 / 2 ^ b)) (adds b (times_xs a v) (n / 2)) (n % 2 * times_xs b (times_xs a v))
    ∙ ap₂ bit_xor (ap (adds a v) (shr-shr n 1 b ∙ ap (λ (k : ℕ). n / 2 ^ k) (suc-add 0 b ∙ ap suc (zero-add b)))) (sym (adds_last b (times_xs a v) n))

-- what stands above the bits adds nothing
pub adds_mod : (b v n : ℕ) → adds b v (n % 2 ^ b) ≡ adds b v n
unfolding adds low_bits
adds_mod zero v n = refl
adds_mod (suc b) v n =
    ap (adds (suc b) v) (ap (λ (k : ℕ). n % 2 ^ k) (sym (add-suc b 0 ∙ ap suc (add-zero b))) ∙ mod-pow-add n b 1)
    ∙ adds_last b v (n / 2 % 2 ^ b * 2 + n % 2)
    ∙ ap₂ (λ (m k : ℕ). bit_xor (adds b v m) (k * times_xs b v)) (upper (n / 2 % 2 ^ b) n) (lower (n / 2 % 2 ^ b) n)
    ∙ ap (λ (m : ℕ). bit_xor m (n % 2 * times_xs b v)) (adds_mod b v (n / 2))
    ∙ sym (adds_last b v n)
  where
    upper : (q m : ℕ) → (q * 2 + m % 2) / 2 ≡ q
    upper q m = omega arith

    lower : (q m : ℕ) → (q * 2 + m % 2) % 2 ≡ m % 2
    lower q m = omega arith

-- the highest bit that is 1, which d bits stand before and j after
pub adds_highest : (d j v n : ℕ) → n < 2 ^ j → adds (suc (d + j)) v (2 ^ j + n) ≡ bit_xor (adds (suc (d + j)) v n) (times_xs d v)
adds_highest d zero v n lt =
    ap₂ (λ (k m : ℕ). adds (suc k) v (1 + m)) (add-zero d) none
    ∙ adds_last d v 1
    ∙ ap (bit_xor (adds d v 0)) (one-mul (times_xs d v))
    ∙ ap (λ (m : ℕ). bit_xor m (times_xs d v)) (sym (ap₂ (λ (k m : ℕ). adds (suc k) v m) (add-zero d) none ∙ zero_last))
  where
    zero_last : adds (suc d) v 0 ≡ adds d v 0
    zero_last = adds_last d v 0 ∙ ap (bit_xor (adds d v 0)) (zero-mul (times_xs d v)) ∙ xor_zero_r (adds d v 0)

    none : n ≡ 0
    none = omega arith
adds_highest d (suc j) v n lt =
    ap₂ (λ (k t : ℕ). adds (suc k) v (t + n)) (add-suc d j) (pow-suc 2 j)
    ∙ adds_last (suc (d + j)) v (2 ^ j * 2 + n)
    ∙ ap₂ (λ (m k : ℕ). bit_xor (adds (suc (d + j)) v m) (k * times_xs (suc (d + j)) v)) (upper (2 ^ j) n) (lower (2 ^ j) n)
    ∙ ap (λ (m : ℕ). bit_xor m (n % 2 * times_xs (suc (d + j)) v)) (adds_highest d j v (n / 2) (below (2 ^ j) n (2 ^ suc j) (pow-suc 2 j) lt))
    ∙ xor_last (adds (suc (d + j)) v (n / 2)) (times_xs d v) (n % 2 * times_xs (suc (d + j)) v)
    ∙ ap (λ (m : ℕ). bit_xor m (times_xs d v)) (sym (ap (λ (k : ℕ). adds (suc k) v n) (add-suc d j) ∙ adds_last (suc (d + j)) v n))
  where
    upper : (t m : ℕ) → (t * 2 + m) / 2 ≡ t + m / 2
    upper t m = omega arith

    lower : (t m : ℕ) → (t * 2 + m) % 2 ≡ m % 2
    lower t m = omega arith

    below : (t m s : ℕ) → s ≡ t * 2 → m < s → m / 2 < t
    below t m s e h = omega arith

-- ---- the bits of a string

length-bits : (s : List ℕ) → length (bits s) ≡ 8 * length s
length-bits [] = refl
length-bits (b ∷ s) = omega (arith, length-bits s)

bits_append : (s t : List ℕ) → bits (s ++ t) ≡ bits s ++ bits t
bits_append [] t = refl
bits_append (b ∷ s) t = ap (λ (l : List ℕ). byte_bits b ++ l) (bits_append s t) ∙ sym (append_assoc (byte_bits b) (bits s) (bits t))

byte-bits : (n : ℕ) → byte_bits (n % 256) ≡ low_bits 8 n
unfolding low_bits
byte-bits n =
    cons_equal (omega arith) (cons_equal (omega arith) (cons_equal (omega arith) (cons_equal (omega arith)
    (cons_equal (omega arith) (cons_equal (omega arith) (cons_equal (omega arith) (cons_equal (omega arith) refl)))))))

pub multiply-be : (w n v : ℕ) → multiply (bits (be w n)) 0 v ≡ adds (8 * w) v n
unfolding adds low_bits
multiply-be zero n v = refl
multiply-be (suc w) n v =
    ap (λ (l : List ℕ). multiply l 0 v)
    (ap bits (be_last w n) ∙ bits_append (be w (n / 256)) (n % 256 ∷ [])
    ∙ ap (λ (l : List ℕ). bits (be w (n / 256)) ++ l) (append-nil (byte_bits (n % 256)) ∙ byte-bits n))
    ∙ multiply_append (bits (be w (n / 256))) (low_bits 8 n) 0 v
    ∙ ap₂ (λ (m k : ℕ). bit_xor m (adds 8 (times_xs k v) n)) (multiply-be w (n / 256) v)
    (length-bits (be w (n / 256)) ∙ ap (λ (k : ℕ). 8 * k) (length-be w (n / 256)))
    ∙ sym (ap (λ (k : ℕ). adds k v n) (mul-suc 8 w) ∙ adds_window (8 * w) 8 v n)

-- two words
pub multiply-words : (a b h : ℕ) → multiply (bits (be 8 a ++ be 8 b)) 0 h ≡ bit_xor (adds 64 h a) (adds 64 (times_xs 64 h) b)
multiply-words a b h =
    ap (λ (l : List ℕ). multiply l 0 h) (bits_append (be 8 a) (be 8 b))
    ∙ multiply_append (bits (be 8 a)) (bits (be 8 b)) 0 h
    ∙ ap₂ (λ (m k : ℕ). bit_xor m (multiply (bits (be 8 b)) 0 (times_xs k h))) (multiply-be 8 a h)
    (length-bits (be 8 a) ∙ ap (λ (k : ℕ). 8 * k) (length-be 8 a))
    ∙ ap (bit_xor (adds 64 h a)) (multiply-be 8 b (times_xs 64 h))
