-- Equality of whole strings: the test and the equation say the same, and how a loop along two strings gathers their differences.
-- Assumes nothing.
use mathlib.Core.Path.{◌≡◌, refl, sym, ap}
use mathlib.Core.Bool.{Bool, true, false, ◌&&◌, false≢true, and_assoc, and-true}
use mathlib.Core.List.{List, [], ◌∷◌}
use Prim.Native.Nat.{ℕ}
use native.Mathlib.Omega.{arith}
use borrow.Author.Tests.{eqb-true, eqb-false, eq-eqb, ne_eqb}
use lib.Bits.{bit_or, bit_xor, or_add_and, xor_add_and, and_le_l, and_le_r, xor_self}
use lib.Dec.{eqb}
use lib.ListN.{length}
use Rattle.octets.specs.Same.{same}
use Rattle.octets.proofs.Values.{cons_equal}
use Rattle.octets.proofs.Tests.{and_left, and_right}

pub same_equal : (s t : List ℕ) → same s t ≡ true → s ≡ t
unfolding same
same_equal [] [] e = refl
same_equal [] (b ∷ t) e = absurd (false≢true e)
same_equal (a ∷ s) [] e = absurd (false≢true e)
same_equal (a ∷ s) (b ∷ t) e =
    cons_equal (eqb-true a b (and_left (eqb a b) (same s t) e)) (same_equal s t (and_right (eqb a b) (same s t) e))

pub same_refl : (s : List ℕ) → same s s ≡ true
unfolding same
same_refl [] = refl
same_refl (a ∷ s) = rw (eq-eqb a a refl) (same_refl s)

pub same-differ : (s t : List ℕ) → (s ≡ t → ⊥) → same s t ≡ false
same-differ s t n = go (same s t) refl
  where
    go : (r : Bool) → same s t ≡ r → same s t ≡ false
    go true e = absurd (n (same_equal s t e))
    go false e = e

pub same_lengths : (s t : List ℕ) → (length s ≡ length t → ⊥) → same s t ≡ false
same_lengths s t n = same-differ s t (λ e. n (ap length e))

-- ---- bits gathered by or: none exactly where there were none before and the two numbers are equal

or-none : (a b : ℕ) → bit_or a b ≡ 0 → (a ≡ 0) × (b ≡ 0)
or-none a b e = (omega (arith, or_add_and a b, and_le_r a b), omega (arith, or_add_and a b, and_le_l a b))

xor-none : (a b : ℕ) → bit_xor a b ≡ 0 → a ≡ b
xor-none a b e = omega (arith, xor_add_and a b, and_le_l a b, and_le_r a b)

gather : (d x y : ℕ) → eqb (bit_or d (bit_xor x y)) 0 ≡ (eqb d 0 && eqb x y)
gather d x y = go (eqb d 0) (eqb x y) refl refl
  where
    go : (s t : Bool) → eqb d 0 ≡ s → eqb x y ≡ t → eqb (bit_or d (bit_xor x y)) 0 ≡ (s && t)
    go true true p q = rw (eqb-true d 0 p, eqb-true x y q, xor_self)
    go true false p q = ne_eqb _ _ (λ e. eqb-false x y q (xor-none x y (or-none d (bit_xor x y) e).1))
    go false t p q = ne_eqb _ _ (λ e. eqb-false d 0 p (or-none d (bit_xor x y) e).0)

-- ---- along two strings: what was gathered and what is left decide together

pub same_more : {s t : List ℕ} {x y : ℕ} {u v : List ℕ} (d : ℕ) → s ≡ x ∷ u → t ≡ y ∷ v
    → (eqb d 0 && same s t) ≡ (eqb (bit_or d (bit_xor x y)) 0 && same u v)
unfolding same
same_more {x} {y} d e f = rw (e, f, gather d x y) (sym (and_assoc (eqb d 0) _ _))

pub same_none : (s t : List ℕ) (d : ℕ) → s ≡ [] → t ≡ [] → (eqb d 0 && same s t) ≡ eqb d 0
unfolding same
same_none s t d e f = rw (e, f) (and-true (eqb d 0))
