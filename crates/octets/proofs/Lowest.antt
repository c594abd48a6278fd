-- `lowest` of tests whose numbers rise is the lowest number that applies; and where tests come after others, these decide first.
-- Assumes nothing.
use mathlib.Core.Path.{◌≡◌, refl, ap, ◌∙◌}
use mathlib.Core.Logic.{◌⊎◌, inl, inr, ⊎_elim}
use mathlib.Core.Bool.{Bool, true, false, false≢true}
use mathlib.Core.List.{[], ◌∷◌, ◌++◌}
use Prim.Native.Nat.{ℕ, zero, suc, ◌≤◌, ◌<◌}
use native.Mathlib.Omega.{arith}
use borrow.Author.Tests.{eq-eqb, ne_eqb, ltb-true}
use lib.Dec.{eqb, ltb}
use lib.ListN.{get_or}
use Rattle.octets.specs.Lent.{Tests, when, lowest}
use Rattle.octets.specs.Lowest.{rises_above, rises, AppliesAt, LowestIs}
use Rattle.octets.proofs.Tests.{and_left, and_right}

abbrev Given : Tests → ℕ → Type 0
Given ts n = (n ≡ 0) ⊎ ((i : ℕ) × AppliesAt ts i n)

abbrev Least : ℕ → Tests → ℕ → Type 0
Least least ts n = (i m : ℕ) → AppliesAt ts i m → (least < n) × (n ≤ m)

lowest-given : (ts : Tests) → Given ts (lowest ts)
lowest-given [] = inl refl
lowest-given (t ∷ ts) = go t.1 refl (lowest-given ts)
  where
    go : (b : Bool) → t.1 ≡ b → Given ts (lowest ts) → Given (t ∷ ts) (when b t.0 (lowest ts))
    go true e given = inr (0, ap (λ (b : Bool). (t.0, b)) e)
    go false e given = ⊎_elim (λ z. inl z) (λ w. inr (suc w.0, w.1)) given

lowest_least : (least : ℕ) (ts : Tests) → rises_above least ts ≡ true → Least least ts (lowest ts)
lowest_least least [] h i m e = absurd (false≢true (ap (λ (t : ℕ × Bool). t.1) e))
lowest_least least (t ∷ ts) h i m e =
    go t.1 refl i e (ltb-true least t.0 (and_left (ltb least t.0) (rises_above t.0 ts) h))
    (lowest_least t.0 ts (and_right (ltb least t.0) (rises_above t.0 ts) h))
  where
    go : (b : Bool) → t.1 ≡ b → (i : ℕ) → AppliesAt (t ∷ ts) i m → least < t.0 → Least t.0 ts (lowest ts)
        → (least < when b t.0 (lowest ts)) × (when b t.0 (lowest ts) ≤ m)
    go true p zero e above later = let is : t.0 ≡ m = ap (λ (t : ℕ × Bool). t.0) e in (above, omega arith)
    go true p (suc j) e above later = let l = later j m e in (above, omega (arith, l.0, l.1))
    go false p zero e above later = absurd (false≢true (cc (p, ap (λ (t : ℕ × Bool). t.1) e)))
    go false p (suc j) e above later = let l = later j m e in (omega (arith, l.0), l.1)

pub lowest_is : LowestIs
lowest_is ts h = record { applies = lowest-given ts; least = λ i m e. lowest_least 0 ts h i m e }

-- a test of a lower number than the one given does not apply
pub lower-none : (ts : Tests) (i m : ℕ) (b : Bool) → rises ts ≡ true → get_or ts i (0, false) ≡ (m, b) → m < lowest ts → b ≡ false
lower-none ts i m true h e below = absurd (omega (arith, below, (lowest_least 0 ts h i m e).1))
lower-none ts i m false h e below = refl

-- ---- tests after others: the first list decides, unless it gives 0

pub lowest_then : (ns ms : Tests) → rises ns ≡ true → lowest (ns ++ ms) ≡ when (eqb (lowest ns) 0) (lowest ms) (lowest ns)
lowest_then = after 0
  where
    after : (least : ℕ) (ns ms : Tests) → rises_above least ns ≡ true → lowest (ns ++ ms) ≡ when (eqb (lowest ns) 0) (lowest ms) (lowest ns)
    after least [] ms h = refl
    after least (n ∷ ns) ms h = go n.1 (after n.0 ns ms (and_right (ltb least n.0) (rises_above n.0 ns) h))
      where
        above : least < n.0
        above = ltb-true least n.0 (and_left (ltb least n.0) (rises_above n.0 ns) h)

        go : (t : Bool) → lowest (ns ++ ms) ≡ when (eqb (lowest ns) 0) (lowest ms) (lowest ns)
            → when t n.0 (lowest (ns ++ ms)) ≡ when (eqb (when t n.0 (lowest ns)) 0) (lowest ms) (when t n.0 (lowest ns))
        go true e = rw (ne_eqb n.0 0 (λ z. omega (arith, above)))
        go false e = e

module _ (ns ms : Tests) (h : rises ns ≡ true) where
  pub lowest-refused : (lowest ns ≡ 0 → ⊥) → lowest (ns ++ ms) ≡ lowest ns
  lowest-refused some = lowest_then ns ms h ∙ ap (λ (t : Bool). when t (lowest ms) (lowest ns)) (ne_eqb (lowest ns) 0 some)

  pub lowest_passed : lowest ns ≡ 0 → lowest (ns ++ ms) ≡ lowest ms
  lowest_passed none = lowest_then ns ms h ∙ ap (λ (t : Bool). when t (lowest ms) (lowest ns)) (eq-eqb (lowest ns) 0 none)
