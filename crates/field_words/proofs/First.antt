-- The place of the first element that passes a test.
-- Assumes nothing.
use mathlib.Core.Path.{◌≡◌, refl, sym, ap, subst, ◌∙◌}
use mathlib.Core.Bool.{Bool, true, false, not, cond}
use mathlib.Core.List.{List, [], ◌∷◌, ◌++◌}
use Prim.Native.Nat.{ℕ, suc, ◌+◌, ◌≤◌, ◌<◌}
use native.Mathlib.Omega.{arith}
use lib.Dec.{ltb}
use lib.ListN.{length, get_or}
use borrow.Author.Tests.{not-true, ltb-true, ltb-false}
use Rattle.std.specs.Prelude.{Option, Some, None, unwrap_or}
use Rattle.std.specs.List.{position, position_or_len}
use Rattle.octets.specs.Lent.{when}
use Rattle.octets.specs.Tests.{all}
use Rattle.octets.proofs.Tests.{and_left, and_right}
use Rattle.field_words.specs.Words.{first_place}

pub first_within : {A : Type 0} (p : A → Bool) (s : List A) → first_place p s ≤ length s
unfolding first_place
first_within p [] = omega arith
first_within p (x ∷ s) = go (p x) (first_within p s)
  where
    go : (t : Bool) → first_place p s ≤ length s → when t 0 (suc (first_place p s)) ≤ suc (length s)
    go true h = omega arith
    go false h = omega arith

-- what stands there passes
pub first_found : {A : Type 0} (p : A → Bool) (s : List A) (d : A) → first_place p s < length s → p (get_or s (first_place p s) d) ≡ true
unfolding first_place
first_found p [] d h = absurd (omega arith)
first_found p (x ∷ s) d h = go (p x) refl h (first_found p s d)
  where
    go : (t : Bool) → p x ≡ t → when t 0 (suc (first_place p s)) < suc (length s) → (first_place p s < length s → p (get_or s (first_place p s) d) ≡ true)
        → p (get_or (x ∷ s) (when t 0 (suc (first_place p s))) d) ≡ true
    go true e h later = e
    go false e h later = later (omega arith)

-- after elements that do not
pub first_after : {A : Type 0} (p : A → Bool) (s : List A) (x : A) (t : List A) → all (λ y. not (p y)) s ≡ true → p x ≡ true → first_place p (s ++ x ∷ t) ≡ length s
unfolding first_place all
first_after p [] x t e h = rw h
first_after p (y ∷ s) x t e h =
    rw (not-true (p y) (and_left (not (p y)) (all (λ z. not (p z)) s) e)) (ap suc (first_after p s x t (and_right (not (p y)) (all (λ z. not (p z)) s) e) h))

-- ---- by std's words

or-len : {A : Type 0} (p : A → Bool) (s : List A) → position_or_len p s ≡ first_place p s
unfolding first_place
or-len p [] = refl
or-len p (x ∷ s) = go (p x) (or-len p s)
  where
    go : (t : Bool) → position_or_len p s ≡ first_place p s → cond (not t) (1 + position_or_len p s) 0 ≡ when t 0 (suc (first_place p s))
    go true h = refl
    go false h = omega (arith, h)

module _ {A : Type 0} (p : A → Bool) (s : List A) where
  -- std's answer, with the place for it
  placed : position p s ≡ cond (ltb (first_place p s) (length s)) (Some (first_place p s)) None
  placed = ap (λ (k : ℕ). cond (ltb k (length s)) (Some k) None) (or-len p s)

  abbrev Answers : Option ℕ → Type 0
  Answers None = length s ≡ first_place p s
  Answers (Some i) = (i ≡ first_place p s) × (i < length s)

  answers : (o : Option ℕ) → o ≡ position p s → Answers o
  answers o e = subst Answers (sym (e ∙ placed)) (go (ltb (first_place p s) (length s)) refl)
    where
      go : (t : Bool) → ltb (first_place p s) (length s) ≡ t → Answers (cond t (Some (first_place p s)) None)
      go true h = (refl, ltb-true (first_place p s) (length s) h)
      go false h = omega (arith, ltb-false (first_place p s) (length s) h, first_within p s)

  pub place_some : {i : ℕ} → Some i ≡ position p s → (i ≡ first_place p s) × (i < length s)
  place_some e = answers (Some _) e

  pub place_none : None ≡ position p s → length s ≡ first_place p s
  place_none e = answers None e

  pub place_or : (o : Option ℕ) → o ≡ position p s → unwrap_or o (length s) ≡ first_place p s
  place_or None e = place_none e
  place_or (Some i) e = (place_some e).0
