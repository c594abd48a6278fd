-- A string cut into parts that tell their own size: turn by turn, and that the parts and what follows them are the string. For any size that is within
-- the string.
-- Assumes nothing.
use mathlib.Core.Path.{◌≡◌, refl, sym, ap, ap₂, ◌∙◌}
use mathlib.Core.Bool.{Bool, true, false}
use mathlib.Core.List.{List, [], ◌∷◌, ◌++◌, flatten, append_assoc}
use Prim.Native.Nat.{ℕ, zero, suc, ◌+◌, ◌≤◌}
use native.Mathlib.Omega.{arith}
use borrow.Author.Tests.{eqb-true, eqb-false, eq-eqb, ne_eqb}
use lib.ListN.{length, take, drop, take-append-drop, length-drop, drop_of_length-le}
use lib.Seq.{take-append_seam, drop-append_seam, drop-drop}
use lib.Dec.{eqb}
use Rattle.octets.specs.Lent.{when}
use Rattle.octets.specs.Tests.{all, part_of}
use Rattle.octets.specs.Split.{behind, split_in, split_by}
use Rattle.octets.proofs.Tests.{and_left, and_right}

module _ (size : List ℕ → ℕ) (within : (s : List ℕ) → size s ≤ length s) where
  -- ---- turn by turn

  -- more turns than bytes change nothing
  split_in_enough : (n m : ℕ) (s : List ℕ) → length s ≤ n → length s ≤ m → split_in size n s ≡ split_in size m s
  split_in_enough zero zero s hn hm = refl
  split_in_enough zero (suc m) s hn hm = rw (eq-eqb (size s) 0 (omega (arith, within s)))
  split_in_enough (suc n) zero s hn hm = rw (eq-eqb (size s) 0 (omega (arith, within s)))
  split_in_enough (suc n) (suc m) s hn hm =
      go (eqb (size s) 0) refl
      (λ (f : size s ≡ 0 → ⊥).
      split_in_enough n m (drop (size s) s) (omega (arith, f, within s, length-drop (size s) s)) (omega (arith, f, within s, length-drop (size s) s)))
    where
      go : (t : Bool) → eqb (size s) 0 ≡ t → ((size s ≡ 0 → ⊥) → split_in size n (drop (size s) s) ≡ split_in size m (drop (size s) s))
          → when t ([], s) (behind (take (size s) s) (split_in size n (drop (size s) s))) ≡ when t ([], s) (behind (take (size s) s) (split_in size m (drop (size s) s)))
      go true e h = refl
      go false e h = ap (behind (take (size s) s)) (h (eqb-false _ _ e))

  pub split-stop : (s : List ℕ) → size s ≡ 0 → split_by size s ≡ ([], s)
  unfolding split_by
  split-stop s e = go (length s)
    where
      go : (n : ℕ) → split_in size n s ≡ ([], s)
      go zero = refl
      go (suc n) = rw (eq-eqb _ _ e)

  pub split_turn : (s : List ℕ) → (size s ≡ 0 → ⊥) → split_by size s ≡ behind (take (size s) s) (split_by size (drop (size s) s))
  unfolding split_by
  split_turn s f =
      split_in_enough (length s) (suc (length s)) s (omega arith) (omega arith)
      ∙ one_turn
      ∙ ap (behind (take (size s) s)) (split_in_enough (length s) (length (drop (size s) s)) (drop (size s) s) (omega (arith, length-drop (size s) s)) (omega arith))
    where
      one_turn : split_in size (suc (length s)) s ≡ behind (take (size s) s) (split_in size (length s) (drop (size s) s))
      one_turn = rw (ne_eqb _ _ f)

  -- the same at a place of a string, where a part of n bytes stands, or none, or the string ends
  module _ (s : List ℕ) (at : ℕ) where
    pub place_turn : (n : ℕ) → n ≡ size (drop at s) → (n ≡ 0 → ⊥) → split_by size (drop at s) ≡ behind (part_of s at n) (split_by size (drop (at + n) s))
    place_turn n e f =
        split_turn (drop at s) (λ z. f (e ∙ z))
        ∙ ap (λ (m : ℕ). behind (part_of s at m) (split_by size (drop m (drop at s)))) (sym e)
        ∙ ap (λ (l : List ℕ). behind (part_of s at n) (split_by size l)) (drop-drop n at s)

    pub place-stop : size (drop at s) ≡ 0 → split_by size (drop at s) ≡ ([], drop at s)
    place-stop e = split-stop (drop at s) e

    pub place_end : length s ≤ at → split_by size (drop at s) ≡ ([], [])
    unfolding split_by
    place_end h = rw (drop_of_length-le s h)

  -- ---- what is found

  split_in_joined : (n : ℕ) (s : List ℕ) → flatten (split_in size n s).0 ++ (split_in size n s).1 ≡ s
  unfolding flatten
  split_in_joined zero s = refl
  split_in_joined (suc n) s = go (eqb (size s) 0) (split_in_joined n (drop (size s) s))
    where
      go : (t : Bool) → flatten (split_in size n (drop (size s) s)).0 ++ (split_in size n (drop (size s) s)).1 ≡ drop (size s) s
          → let p = when t ([], s) (behind (take (size s) s) (split_in size n (drop (size s) s))) in flatten p.0 ++ p.1 ≡ s
      go true h = refl
      go false h = append_assoc (take (size s) s) _ _ ∙ ap (λ (l : List ℕ). take (size s) s ++ l) h ∙ take-append-drop (size s) s

  pub split_joined : (s : List ℕ) → flatten (split_by size s).0 ++ (split_by size s).1 ≡ s
  unfolding split_by
  split_joined s = split_in_joined (length s) s

  split_in-left : (n : ℕ) (s : List ℕ) → length s ≤ n → size (split_in size n s).1 ≡ 0
  split_in-left zero s h = omega (arith, within s)
  split_in-left (suc n) s h =
      go (eqb (size s) 0) refl
      (λ (f : size s ≡ 0 → ⊥). split_in-left n (drop (size s) s) (omega (arith, f, within s, length-drop (size s) s)))
    where
      go : (t : Bool) → eqb (size s) 0 ≡ t → ((size s ≡ 0 → ⊥) → size (split_in size n (drop (size s) s)).1 ≡ 0)
          → size (when t ([], s) (behind (take (size s) s) (split_in size n (drop (size s) s)))).1 ≡ 0
      go true e q = eqb-true _ _ e
      go false e q = q (eqb-false _ _ e)

  pub split-left : (s : List ℕ) → size (split_by size s).1 ≡ 0
  unfolding split_by
  split-left s = split_in-left (length s) s (omega arith)

  -- each part passes a test that what a string begins with passes
  module _ (p : List ℕ → Bool) (passes : (s : List ℕ) → (size s ≡ 0 → ⊥) → p (take (size s) s) ≡ true) where
    split_in-whole : (n : ℕ) (s : List ℕ) → all p (split_in size n s).0 ≡ true
    unfolding all
    split_in-whole zero s = refl
    split_in-whole (suc n) s = go (eqb (size s) 0) refl (split_in-whole n (drop (size s) s))
      where
        go : (t : Bool) → eqb (size s) 0 ≡ t → all p (split_in size n (drop (size s) s)).0 ≡ true
            → all p (when t ([], s) (behind (take (size s) s) (split_in size n (drop (size s) s)))).0 ≡ true
        go true e h = refl
        go false e h = rw (passes s (eqb-false _ _ e), h)

    pub split-whole : (s : List ℕ) → all p (split_by size s).0 ≡ true
    unfolding split_by
    split-whole s = split_in-whole (length s) s

  -- parts that tell their size whatever follows them, end to end, are found again, with what is left
  module _ (p : List ℕ → Bool) (tells : (d rest : List ℕ) → p d ≡ true → (size (d ++ rest) ≡ length d) × (length d ≡ 0 → ⊥)) where
    pub split_parts : (ds : List (List ℕ)) (left : List ℕ) → all p ds ≡ true → size left ≡ 0 → split_by size (flatten ds ++ left) ≡ (ds, left)
    unfolding all flatten
    split_parts [] left e none = split-stop left none
    split_parts (d ∷ ds) left e none =
        let (is, some) = tells d (flatten ds ++ left) (and_left (p d) (all p ds) e) in
        ap (split_by size) (append_assoc d (flatten ds) left)
        ∙ split_turn (d ++ (flatten ds ++ left)) (λ z. some (sym is ∙ z))
        ∙ ap (λ (n : ℕ). behind (take n (d ++ (flatten ds ++ left))) (split_by size (drop n (d ++ (flatten ds ++ left))))) is
        ∙ ap₂ (λ (f l : List ℕ). behind f (split_by size l)) (take-append_seam d (flatten ds ++ left)) (drop-append_seam d (flatten ds ++ left))
        ∙ ap (behind d) (split_parts ds left (and_right (p d) (all p ds) e) none)
