-- The field's product is linear in its first factor, on bytes.
-- Assumes nothing.
use mathlib.Core.Path.{◌≡◌, refl, sym, ap, ap₂, ◌∙◌}
use mathlib.Core.Bool.{Bool, true, false}
use Prim.Native.Nat.{ℕ, zero, suc, ◌*◌, ◌/◌, ◌%◌, ◌<◌}
use native.Mathlib.Nat.{add-zero}
use native.Mathlib.Omega.{arith}
use lib.Dec.{eqb, lit<}
use lib.Bits.{bit_xor, xor_shr, xor_mod, xor_block}
use Rattle.octets.specs.Lent.{when}
use Rattle.octets.proofs.Xor.{xor_byte, xor_exchange, xor_digits-times}
use Rattle.aes_field.specs.Field.{xtime, sum_of_shifts, times}
use Rattle.aes_field.specs.Words.{sum4}

xor_double : (a b : ℕ) → bit_xor a b * 2 ≡ bit_xor (a * 2) (b * 2)
xor_double a b =
    sym (add-zero (bit_xor a b * 2)) ∙ sym (xor_block 1 a b 0 0 (lit< tt) (lit< tt)) ∙ ap₂ bit_xor (add-zero (a * 2)) (add-zero (b * 2))

pub xtime_byte : {a : ℕ} → a < 256 → xtime a < 256
unfolding xtime
xtime_byte {a} ha = xor_byte {a = a * 2 % 256} {b = a / 128 * 27} (omega arith) (omega arith)

pub xtime_linear : {a b : ℕ} → a < 256 → b < 256 → xtime (bit_xor a b) ≡ bit_xor (xtime a) (xtime b)
unfolding xtime
xtime_linear {a} {b} ha hb =
    ap₂ bit_xor (ap (λ (x : ℕ). x % 256) (xor_double a b) ∙ xor_mod (a * 2) (b * 2) 8)
    (ap (λ (x : ℕ). x * 27) (xor_shr a b 7) ∙ xor_digits-times (a / 128) (b / 128) 27 (omega arith) (omega arith))
    ∙ xor_exchange (a * 2 % 256) (b * 2 % 256) (a / 128 * 27) (b / 128 * 27)

when_byte : {s a : ℕ} (t : Bool) → s < 256 → a < 256 → when t (bit_xor s a) s < 256
when_byte true hs ha = xor_byte hs ha
when_byte false hs ha = hs

when_linear : (t : Bool) (s s' a a' : ℕ) → when t (bit_xor (bit_xor s s') (bit_xor a a')) (bit_xor s s') ≡ bit_xor (when t (bit_xor s a) s) (when t (bit_xor s' a') s')
when_linear true s s' a a' = xor_exchange s s' a a'
when_linear false s s' a a' = refl

shifts_byte : (n : ℕ) {a s : ℕ} (b : ℕ) → a < 256 → s < 256 → sum_of_shifts n a b s < 256
shifts_byte zero b ha hs = hs
shifts_byte (suc n) b ha hs = shifts_byte n (b / 2) (xtime_byte ha) (when_byte (eqb (b % 2) 1) hs ha)

shifts_linear : (n : ℕ) {a a' : ℕ} (b s s' : ℕ) → a < 256 → a' < 256
    → sum_of_shifts n (bit_xor a a') b (bit_xor s s') ≡ bit_xor (sum_of_shifts n a b s) (sum_of_shifts n a' b s')
shifts_linear zero b s s' ha ha' = refl
shifts_linear (suc n) {a} {a'} b s s' ha ha' =
    ap₂ (λ (x y : ℕ). sum_of_shifts n x (b / 2) y) (xtime_linear ha ha') (when_linear (eqb (b % 2) 1) s s' a a')
    ∙ shifts_linear n (b / 2) (when (eqb (b % 2) 1) (bit_xor s a) s) (when (eqb (b % 2) 1) (bit_xor s' a') s') (xtime_byte ha) (xtime_byte ha')

pub times_byte : {a : ℕ} (b : ℕ) → a < 256 → times a b < 256
unfolding times
times_byte b ha = shifts_byte 8 {s = 0} b ha (lit< tt)

pub times_linear : {a a' : ℕ} (b : ℕ) → a < 256 → a' < 256 → times (bit_xor a a') b ≡ bit_xor (times a b) (times a' b)
unfolding times
times_linear b ha ha' = shifts_linear 8 b 0 0 ha ha'

-- sums of four

pub sum4_byte : (f : ℕ → ℕ) → ((i : ℕ) → f i < 256) → sum4 f < 256
sum4_byte f h = xor_byte (xor_byte (xor_byte (h 0) (h 1)) (h 2)) (h 3)

pub times-sum4 : (f : ℕ → ℕ) (b : ℕ) → ((i : ℕ) → f i < 256) → times (sum4 f) b ≡ sum4 (λ i. times (f i) b)
times-sum4 f b h =
    times_linear b (xor_byte (xor_byte (h 0) (h 1)) (h 2)) (h 3)
    ∙ ap (λ (x : ℕ). bit_xor x (times (f 3) b)) (times_linear b (xor_byte (h 0) (h 1)) (h 2)
    ∙ ap (λ (x : ℕ). bit_xor x (times (f 2) b)) (times_linear b (h 0) (h 1)))

pub sum4_add : (f g : ℕ → ℕ) → bit_xor (sum4 f) (sum4 g) ≡ sum4 (λ i. bit_xor (f i) (g i))
sum4_add f g =
    xor_exchange (bit_xor (bit_xor (f 0) (f 1)) (f 2)) (f 3) (bit_xor (bit_xor (g 0) (g 1)) (g 2)) (g 3)
    ∙ ap (λ (x : ℕ). bit_xor x (bit_xor (f 3) (g 3)))
    (xor_exchange (bit_xor (f 0) (f 1)) (f 2) (bit_xor (g 0) (g 1)) (g 2)
    ∙ ap (λ (x : ℕ). bit_xor x (bit_xor (f 2) (g 2))) (xor_exchange (f 0) (f 1) (g 0) (g 1)))

pub sum4_swap : (f : ℕ → ℕ → ℕ) → sum4 (λ j. sum4 (λ i. f j i)) ≡ sum4 (λ i. sum4 (λ j. f j i))
sum4_swap f =
    ap (λ (x : ℕ). bit_xor (bit_xor x (sum4 (f 2))) (sum4 (f 3))) (sum4_add (f 0) (f 1))
    ∙ ap (λ (x : ℕ). bit_xor x (sum4 (f 3))) (sum4_add (λ i. bit_xor (f 0 i) (f 1 i)) (f 2))
    ∙ sum4_add (λ i. bit_xor (bit_xor (f 0 i) (f 1 i)) (f 2 i)) (f 3)
