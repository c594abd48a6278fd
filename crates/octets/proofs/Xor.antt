-- Exclusive or of numbers and of strings: associative, commutative, its own inverse, and byte by byte.
-- Assumes nothing.
use mathlib.Core.Path.{◌≡◌, refl, sym, ap, ap₂, ◌∙◌}
use mathlib.Core.List.{List, [], ◌∷◌, ◌++◌}
use Prim.Native.Nat.{ℕ, zero, suc, ◌+◌, ◌*◌, ◌/◌, ◌%◌, ◌≤◌, ◌<◌}
use native.Mathlib.Nat.{le_of_suc-le-suc, not-suc-le-zero, mod-lt, zero-mul, one-mul}
use native.Mathlib.Omega.{arith}
use lib.Arith.{bin_ind}
use lib.Bits.{bit_xor, differ, xor_step, xor_shr, xor_mod, xor_lt, xor_comm, xor_self, xor_zero_l, xor_zero_r}
use lib.Dec.{lit<}
use lib.ListN.{length, take, replicate}
use Rattle.octets.specs.Bytes.{Bytes}
use Rattle.octets.specs.Xor.{xors}
use Rattle.octets.proofs.Values.{cons_equal}
use Rattle.octets.proofs.Bytes.{bytes_nil, bytes_cons, bytes_head, bytes_tail}

-- two sums of two, with the inner terms exchanged, of whatever may be bracketed and ordered freely
module _ {A : Type 0} (f : A → A → A) (assoc : (a b c : A) → f (f a b) c ≡ f a (f b c)) (comm : (a b : A) → f a b ≡ f b a) where
  exchange : (a b c d : A) → f (f a b) (f c d) ≡ f (f a c) (f b d)
  exchange a b c d = assoc a b (f c d) ∙ ap (f a) (sym (assoc b c d) ∙ ap (λ (x : A). f x d) (comm b c) ∙ assoc c b d) ∙ sym (assoc a c (f b d))

-- ---- numbers

-- on the digits 0 and 1
differ_assoc : (x y z : ℕ) → x < 2 → y < 2 → z < 2 → differ (differ x y) z ≡ differ x (differ y z)
differ_assoc zero y z hx hy hz = refl
differ_assoc (suc zero) zero z hx hy hz = refl
differ_assoc (suc zero) (suc zero) zero hx hy hz = refl
differ_assoc (suc zero) (suc zero) (suc zero) hx hy hz = refl
differ_assoc (suc zero) (suc zero) (suc (suc z)) hx hy hz = absurd (omega arith)
differ_assoc (suc zero) (suc (suc y)) z hx hy hz = absurd (omega arith)
differ_assoc (suc (suc x)) y z hx hy hz = absurd (omega arith)

differ_xor : (x y : ℕ) → x < 2 → y < 2 → bit_xor x y ≡ differ x y
differ_xor zero y hx hy = refl
differ_xor (suc zero) zero hx hy = refl
differ_xor (suc zero) (suc zero) hx hy = refl
differ_xor (suc zero) (suc (suc y)) hx hy = absurd (omega arith)
differ_xor (suc (suc x)) y hx hy = absurd (omega arith)

pub digit_lt : (a : ℕ) → a % 2 < 2
digit_lt a = mod-lt a (lit< tt)

xor_digit : (a b : ℕ) → bit_xor a b % 2 ≡ differ (a % 2) (b % 2)
xor_digit a b = xor_mod a b 1 ∙ differ_xor (a % 2) (b % 2) (digit_lt a) (digit_lt b)

pub xor_assoc : (a b c : ℕ) → bit_xor (bit_xor a b) c ≡ bit_xor a (bit_xor b c)
xor_assoc =
    bin_ind (λ (n : ℕ). (b c : ℕ) → bit_xor (bit_xor n b) c ≡ bit_xor n (bit_xor b c)) (λ b c. refl)
    (λ n ih b c.
    xor_step (bit_xor n b) c
    ∙ ap₂ (λ (x y : ℕ). x * 2 + y)
    (ap (λ (x : ℕ). bit_xor x (c / 2)) (xor_shr n b 1) ∙ ih (b / 2) (c / 2) ∙ ap (bit_xor (n / 2)) (sym (xor_shr b c 1)))
    (ap (λ (x : ℕ). differ x (c % 2)) (xor_digit n b) ∙ differ_assoc (n % 2) (b % 2) (c % 2) (digit_lt n) (digit_lt b) (digit_lt c)
    ∙ ap (differ (n % 2)) (sym (xor_digit b c)))
    ∙ sym (xor_step n (bit_xor b c)))

pub xor_exchange : (a b c d : ℕ) → bit_xor (bit_xor a b) (bit_xor c d) ≡ bit_xor (bit_xor a c) (bit_xor b d)
xor_exchange = exchange bit_xor xor_assoc xor_comm

pub xor_cancel : (a k : ℕ) → bit_xor (bit_xor a k) k ≡ a
xor_cancel a k = xor_assoc a k k ∙ ap (bit_xor a) (xor_self k) ∙ xor_zero_r a

-- a digit 0 or 1 times an exclusive or, and the exclusive or of two digits as a factor
pub digit-times_xor : (x a b : ℕ) → x < 2 → x * bit_xor a b ≡ bit_xor (x * a) (x * b)
digit-times_xor zero a b h = zero-mul (bit_xor a b) ∙ sym (ap₂ bit_xor (zero-mul a) (zero-mul b))
digit-times_xor (suc zero) a b h = one-mul (bit_xor a b) ∙ sym (ap₂ bit_xor (one-mul a) (one-mul b))
digit-times_xor (suc (suc x)) a b h = absurd (omega arith)

pub xor_digits-times : (x y v : ℕ) → x < 2 → y < 2 → bit_xor x y * v ≡ bit_xor (x * v) (y * v)
xor_digits-times zero y v hx hy = sym (ap (λ (n : ℕ). bit_xor n (y * v)) (zero-mul v))
xor_digits-times (suc zero) zero v hx hy = sym (ap (bit_xor (1 * v)) (zero-mul v) ∙ xor_zero_r (1 * v))
xor_digits-times (suc zero) (suc zero) v hx hy = zero-mul v ∙ sym (xor_self (1 * v))
xor_digits-times (suc zero) (suc (suc y)) v hx hy = absurd (omega arith)
xor_digits-times (suc (suc x)) y v hx hy = absurd (omega arith)

pub xor_byte : {a b : ℕ} → a < 256 → b < 256 → bit_xor a b < 256
xor_byte {a} {b} ha hb = xor_lt 8 a b ha hb

-- ---- strings

pub xors_comm : (a b : List ℕ) → xors a b ≡ xors b a
xors_comm [] [] = refl
xors_comm [] (y ∷ b) = refl
xors_comm (x ∷ a) [] = refl
xors_comm (x ∷ a) (y ∷ b) = cons_equal (xor_comm x y) (xors_comm a b)

pub xors_assoc : (a b c : List ℕ) → xors (xors a b) c ≡ xors a (xors b c)
xors_assoc [] b c = refl
xors_assoc (x ∷ a) [] c = refl
xors_assoc (x ∷ a) (y ∷ b) [] = refl
xors_assoc (x ∷ a) (y ∷ b) (z ∷ c) = cons_equal (xor_assoc x y z) (xors_assoc a b c)

pub xors_exchange : (a b c d : List ℕ) → xors (xors a b) (xors c d) ≡ xors (xors a c) (xors b d)
xors_exchange = exchange xors xors_assoc xors_comm

pub xors_cancel : (a k : List ℕ) → length a ≤ length k → xors (xors a k) k ≡ a
xors_cancel [] k h = refl
xors_cancel (x ∷ a) [] h = absurd (not-suc-le-zero h)
xors_cancel (x ∷ a) (y ∷ k) h = cons_equal (xor_cancel x y) (xors_cancel a k (le_of_suc-le-suc h))

pub xors-zeros : (l : List ℕ) (n : ℕ) → length l ≡ n → xors l (replicate n 0) ≡ l
xors-zeros [] n h = refl
xors-zeros (x ∷ l) zero h = absurd (omega arith)
xors-zeros (x ∷ l) (suc n) h = cons_equal (xor_zero_r x) (xors-zeros l n (omega arith))

pub zeros-xors : (n : ℕ) (l : List ℕ) → n ≤ length l → xors (replicate n 0) l ≡ take n l
zeros-xors zero l h = refl
zeros-xors (suc n) [] h = absurd (not-suc-le-zero h)
zeros-xors (suc n) (y ∷ l) h = cons_equal (xor_zero_l y) (zeros-xors n l (le_of_suc-le-suc h))

pub xors_append : (a b c d : List ℕ) → length a ≡ length c → xors (a ++ b) (c ++ d) ≡ xors a c ++ xors b d
xors_append [] b [] d e = refl
xors_append [] b (z ∷ c) d e = absurd (omega arith)
xors_append (x ∷ a) b [] d e = absurd (omega arith)
xors_append (x ∷ a) b (z ∷ c) d e = cons_equal refl (xors_append a b c d (omega arith))

pub length-xors : (p s : List ℕ) → length p ≤ length s → length (xors p s) ≡ length p
length-xors [] s h = refl
length-xors (x ∷ p) [] h = absurd (not-suc-le-zero h)
length-xors (x ∷ p) (y ∷ s) h = ap suc (length-xors p s (le_of_suc-le-suc h))

pub bytes-xors : {a b : List ℕ} → Bytes a → Bytes b → Bytes (xors a b)
bytes-xors {a = []} ha hb = bytes_nil
bytes-xors {a = x ∷ a} {b = []} ha hb = bytes_nil
bytes-xors {a = x ∷ a} {b = y ∷ b} ha hb = bytes_cons (xor_byte (bytes_head ha) (bytes_head hb)) (bytes-xors (bytes_tail ha) (bytes_tail hb))
