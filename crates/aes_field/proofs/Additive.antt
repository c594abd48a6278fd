-- Functions that keep sums of bytes: two that agree on 1, 2, 4, .., 128 agree on all bytes.
-- Assumes nothing.
use mathlib.Core.Path.{◌≡◌, refl, sym, ap, ap₂, ◌∙◌}
use mathlib.Core.Bool.{Bool, true, false}
use Prim.Native.Nat.{ℕ, zero, suc, ◌-◌, ◌^◌, ◌≤◌, ◌<◌}
use native.Mathlib.Nat.{one-mul, two-pow-succ}
use native.Mathlib.Omega.{arith}
use lib.Dec.{lit<, lit≤, ltb}
use lib.Bits.{bit_xor, xor_self, xor_shifted}
use borrow.Author.Tests.{ltb-true, ltb-false}
use Rattle.aes_field.proofs.Computed.{below_at}

abbrev pub Adds : (ℕ → ℕ) → Type 0
Adds f = (a b : ℕ) → a < 256 → b < 256 → f (bit_xor a b) ≡ bit_xor (f a) (f b)

adds-zero : (f : ℕ → ℕ) → Adds f → f 0 ≡ 0
adds-zero f adds = adds 0 0 (lit< tt) (lit< tt) ∙ xor_self (f 0)

power_byte : (n : ℕ) → n < 8 → 2 ^ n < 256
power_byte n h = ltb-true (2 ^ n) 256 (below_at (λ k. ltb (2 ^ k) 256) 8 tt n h)

-- the top bit and the rest
rest_less : (n x : ℕ) → x < 2 ^ suc n → 2 ^ n ≤ x → x - 2 ^ n < 2 ^ n
rest_less n x lt le = omega (arith, two-pow-succ n)

top_and-rest : (n x : ℕ) → x < 2 ^ suc n → 2 ^ n ≤ x → bit_xor (2 ^ n) (x - 2 ^ n) ≡ x
top_and-rest n x lt le =
    ap (λ (p : ℕ). bit_xor p (x - 2 ^ n)) (sym (one-mul (2 ^ n))) ∙ xor_shifted 1 n (x - 2 ^ n) (rest_less n x lt le) ∙ omega (arith, one-mul (2 ^ n))

module _ (f g : ℕ → ℕ) (f-adds : Adds f) (g-adds : Adds g) (bits : (k : ℕ) → k < 8 → f (2 ^ k) ≡ g (2 ^ k)) where
  bits_agree : (n : ℕ) → n ≤ 8 → (x : ℕ) → x < 2 ^ n → f x ≡ g x
  bits_agree zero h x lt = let none : x ≡ 0 = omega arith in rw none (adds-zero f f-adds ∙ sym (adds-zero g g-adds))
  bits_agree (suc n) h x lt = go (ltb x (2 ^ n)) refl (bits_agree n (omega arith))
    where
      go : (t : Bool) → ltb x (2 ^ n) ≡ t → ((y : ℕ) → y < 2 ^ n → f y ≡ g y) → f x ≡ g x
      go true e below = below x (ltb-true x (2 ^ n) e)
      go false e below =
          let le : 2 ^ n ≤ x = ltb-false x (2 ^ n) e in
          let top : 2 ^ n < 256 = power_byte n (omega arith) in
          let low : x - 2 ^ n < 2 ^ n = rest_less n x lt le in
          let rest : x - 2 ^ n < 256 = omega arith in
          rw (← top_and-rest n x lt le)
          (f-adds (2 ^ n) (x - 2 ^ n) top rest ∙ ap₂ bit_xor (bits n (omega arith)) (below (x - 2 ^ n) low) ∙ sym (g-adds (2 ^ n) (x - 2 ^ n) top rest))

  pub bytes_agree : (x : ℕ) → x < 256 → f x ≡ g x
  bytes_agree = bits_agree 8 (lit≤ tt)
