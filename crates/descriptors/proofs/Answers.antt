-- The answers of the calls: where a test fails and where none does.
-- Assumes nothing.
use mathlib.Core.Path.{◌≡◌, refl, sym, ap, ◌∙◌}
use mathlib.Core.Bool.{Bool, true, false, not, ◌&&◌, and-false, false≢true}
use lib.Pointwise.{pointwise}
use Rattle.std.specs.List.{list_all}
use mathlib.Core.List.{List, [], ◌∷◌}
use Prim.Native.Nat.{ℕ, ◌≤◌, ◌<◌}
use native.Mathlib.Omega.{arith}
use borrow.Author.Tests.{lt-ltb, le-ltb, le-leb}
use lib.Dec.{eqb, leb}
use lib.ListN.{length, get_or, take}
use Rattle.octets.specs.Lent.{lowest, kept}
use Rattle.octets.specs.Tests.{every, all, zeros}
use Rattle.descriptors.specs.Tested.{list_ok, list_number, list_answer, count_of}
use Rattle.descriptors.specs.Steps.{cursor_at_start, begun_of}
use Rattle.descriptors.specs.Labels.{label_max, list_of, holds, label_shape, label_strict, label_ok, label_number, label_answer}

-- 0 and one value that comes with it
zero-counted : (m k n : ℕ) → ◌≡◌ {A = ℕ × List ℕ} (m, kept m (k ∷ []) []) (0, n ∷ []) → (m ≡ 0) × (n ≡ k)
zero-counted m k n e =
    let none : m ≡ 0 = ap (λ (a : ℕ × List ℕ). a.0) e in
    (none, ap (λ (a : ℕ × List ℕ). get_or a.1 0 0) (sym e ∙ ap (λ (x : ℕ). (x, kept x (k ∷ []) [])) none))

module _ (label strict : Bool) (s : List ℕ) where
  pub list-refused : list_ok label strict s ≡ false → list_answer label strict s ≡ (2, [])
  list-refused e = rw e

  pub list_accepted : (n : ℕ) → list_ok label strict s ≡ true → n ≡ count_of label s → list_answer label strict s ≡ (0, n ∷ [])
  list_accepted n e f = rw (e, f)

  pub number_ok : list_number label strict s ≡ 0 → list_ok label strict s ≡ true
  number_ok e = go (list_ok label strict s) e
    where
      go : (ok : Bool) → lowest ((2, not ok) ∷ []) ≡ 0 → ok ≡ true
      go true h = refl
      go false h = absurd (omega arith)

  pub ok-counted : (n : ℕ) → list_answer label strict s ≡ (0, n ∷ []) → (list_ok label strict s ≡ true) × (n ≡ count_of label s)
  ok-counted n e = let (none, is) = zero-counted _ _ n e in (number_ok none, is)

  -- so opening
  pub begun-counted : (n : ℕ) → list_ok label strict s ≡ true → n ≡ count_of label s → record { number = 0; count = n; place = cursor_at_start label strict } ≡ begun_of s label strict
  begun-counted n ok is = rw (ok, is)

-- ---- a label

-- the first two bytes are zeros, as they are compared
starts_zero : (s : List ℕ) → (leb 2 (length s) && zeros (take 2 s)) ≡ pointwise eqb (take 2 s) (0 ∷ 0 ∷ [])
unfolding all
starts_zero [] = refl
starts_zero (x ∷ []) = sym (and-false (eqb x 0))
starts_zero (x ∷ y ∷ s) = rw (le-leb 2 (length (x ∷ y ∷ s)) (omega arith))

module _ (s : List ℕ) where
  pub unshaped : pointwise eqb (take 2 s) (0 ∷ 0 ∷ []) ≡ false → every (label_shape s) ≡ false
  unshaped e = go (leb 2 (length s)) (zeros (take 2 s)) (starts_zero s ∙ e)
    where
      go : (a b : Bool) → (a && b) ≡ false
          → every (a ∷ b ∷ holds 0x00 (list_of s) ∷ holds 0x01 (list_of s) ∷ holds 0x03 (list_of s) ∷ holds 0x04 (list_of s) ∷ []) ≡ false
      go true true h = absurd (false≢true (sym h))
      go true false h = refl
      go false b h = refl

  pub shaped : pointwise eqb (take 2 s) (0 ∷ 0 ∷ []) ≡ true → every (label_shape s) ≡ list_all (λ (t : ℕ). holds t (list_of s)) (0x00 ∷ 0x01 ∷ 0x03 ∷ 0x04 ∷ [])
  shaped e = first (leb 2 (length s)) (zeros (take 2 s)) (starts_zero s ∙ e)
    where
      along : (a b c d : Bool) → every (true ∷ true ∷ a ∷ b ∷ c ∷ d ∷ []) ≡ (a && (b && (c && (d && true))))
      along false b c d = refl
      along true false c d = refl
      along true true false d = refl
      along true true true false = refl
      along true true true true = refl

      first : (a b : Bool) → (a && b) ≡ true
          → every (a ∷ b ∷ holds 0x00 (list_of s) ∷ holds 0x01 (list_of s) ∷ holds 0x03 (list_of s) ∷ holds 0x04 (list_of s) ∷ [])
          ≡ list_all (λ (t : ℕ). holds t (list_of s)) (0x00 ∷ 0x01 ∷ 0x03 ∷ 0x04 ∷ [])
      first true true h = along (holds 0x00 (list_of s)) (holds 0x01 (list_of s)) (holds 0x03 (list_of s)) (holds 0x04 (list_of s))
      first true false h = absurd (false≢true h)
      first false b h = absurd (false≢true h)

  pub label-refused : label_ok s ≡ false → label_answer s ≡ (2, [])
  label-refused e = rw e

  pub label-long : label_ok s ≡ true → label_max < length s → label_answer s ≡ (4, [])
  label-long e h = rw (e, lt-ltb label_max (length s) h)

  pub label_accepted : (n : ℕ) → label_ok s ≡ true → length s ≤ label_max → n ≡ count_of true (list_of s) → label_answer s ≡ (0, n ∷ [])
  label_accepted n e h is = rw (e, le-ltb label_max (length s) h, is)

  pub label_shapeless : every (label_shape s) ≡ false → label_ok s ≡ false
  unfolding label_ok
  label_shapeless e = rw e

  pub label_list : every (label_shape s) ≡ true → label_ok s ≡ list_ok true label_strict (list_of s)
  unfolding label_ok
  label_list e = rw e

  pub label_count : (n : ℕ) → label_answer s ≡ (0, n ∷ []) → (label_number s ≡ 0) × (n ≡ count_of true (list_of s))
  label_count n e = zero-counted _ _ n e

  -- a label whose list is refused is refused for the same
  pub label_as_list : (n : ℕ) → every (label_shape s) ≡ true → (n, []) ≡ list_answer true label_strict (list_of s) → (n, []) ≡ label_answer s
  label_as_list n shape e = go (list_ok true label_strict (list_of s)) refl
    where
      go : (ok : Bool) → list_ok true label_strict (list_of s) ≡ ok → (n, []) ≡ label_answer s
      go true h = absurd (let z : ◌≡◌ {A = ℕ} 0 1 = ap (λ (a : ℕ × List ℕ). length a.1) (e ∙ list_accepted true label_strict (list_of s) _ h refl) in omega arith)
      go false h = e ∙ list-refused true label_strict (list_of s) h ∙ sym (label-refused (label_list shape ∙ h))
