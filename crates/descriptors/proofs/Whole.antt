-- Of any list, accepted or not, and any place: what a step shows is one whole descriptor that is not reserved, in the list at or after the place.
-- Assumes nothing.
use mathlib.Core.Path.{◌≡◌, refl, sym, ap, ◌∙◌}
use mathlib.Core.Bool.{Bool, true, false}
use mathlib.Core.List.{List, [], ◌∷◌, ◌++◌, flatten, append_assoc}
use Prim.Native.Nat.{ℕ, ◌+◌, ◌-◌, ◌≤◌}
use native.Mathlib.Omega.{arith}
use lib.Dec.{ltb}
use lib.ListN.{length, get_or, take, drop, length-drop, length-append}
use lib.Seq.{take-append_seam, drop-append_seam, drop-drop}
use Rattle.octets.specs.Lent.{when}
use Rattle.octets.specs.Tests.{all, part_of}
use Rattle.octets.proofs.Tests.{and_left, and_right}
use Rattle.descriptors.specs.Descriptor.{type_of, is_reserved, is_refused, is_descriptor}
use Rattle.descriptors.specs.Parse.{split}
use Rattle.descriptors.specs.Steps.{first_shown, split_step}
use Rattle.descriptors.specs.Laws.{ShownWhole, ShowsWhole}
use Rattle.descriptors.proofs.Sizes.{said_least, descriptor-parts}
use Rattle.descriptors.proofs.Split.{split_joined, split-whole}

-- an answer that shows nothing shows no places
no-places : (n from end : ℕ) → ◌≡◌ {A = ℕ × List ℕ} (n, []) (0, from ∷ end ∷ []) → ⊥
no-places n from end e = let z : ◌≡◌ {A = ℕ} 0 2 = ap (λ (a : ℕ × List ℕ). length a.1) e in omega arith

-- the first of some descriptors that stand at a place, and what follows it
module _ (s : List ℕ) (at : ℕ) (d : List ℕ) (ds : List (List ℕ)) (left : List ℕ) (is : drop at s ≡ flatten (d ∷ ds) ++ left) where
  parted : drop at s ≡ d ++ (flatten ds ++ left)
  unfolding flatten
  parted = is ∙ append_assoc d (flatten ds) left

  part_is : part_of s at (at + length d - at) ≡ d
  part_is =
      let size : at + length d - at ≡ length d = omega arith in
      ap (part_of s at) size ∙ ap (take (length d)) parted ∙ take-append_seam d (flatten ds ++ left)

  past_is : drop (at + length d) s ≡ flatten ds ++ left
  past_is = sym (drop-drop (length d) at s) ∙ ap (drop (length d)) parted ∙ drop-append_seam d (flatten ds ++ left)

  inside : is_descriptor d ≡ true → at + length d ≤ length s
  inside whole =
      let (zero_byte, long) = descriptor-parts d whole in
      omega (arith, said_least d, length-drop at s, simp length-append at (ap length parted))

first-whole : (label strict : Bool) (s : List ℕ) (at from end : ℕ) (ds : List (List ℕ)) (left : List ℕ) → drop at s ≡ flatten ds ++ left
    → all is_descriptor ds ≡ true → first_shown label strict at ds left ≡ (0, from ∷ end ∷ []) → ShownWhole label s at from end
unfolding first_shown all
first-whole label strict s at from end [] left is w e = absurd (no-places _ from end e)
first-whole label strict s at from end (d ∷ ds) left is w e =
    go (is_refused label strict (type_of d)) (is_reserved label (type_of d)) refl
    (first-whole label strict s (at + length d) from end ds left (past_is s at d ds left is) (and_right (is_descriptor d) (all is_descriptor ds) w)) e
  where
    rest : ℕ × List ℕ
    rest = first_shown label strict (at + length d) ds left

    whole : is_descriptor d ≡ true
    whole = and_left (is_descriptor d) (all is_descriptor ds) w

    go : (b r : Bool) → is_reserved label (type_of d) ≡ r → (rest ≡ (0, from ∷ end ∷ []) → ShownWhole label s (at + length d) from end)
        → when b (2, []) (when r rest (0, at ∷ (at + length d) ∷ [])) ≡ (0, from ∷ end ∷ []) → ShownWhole label s at from end
    go true r k ih q = absurd (no-places 2 from end q)
    go false true k ih q = let h = ih q in record { later = omega (arith, h.later); within = h.within; whole = h.whole; allowed = h.allowed }
    go false false k ih q =
        let here : at ≡ from = ap (λ (a : ℕ × List ℕ). get_or a.1 0 0) q in
        let there : at + length d ≡ end = ap (λ (a : ℕ × List ℕ). get_or a.1 1 0) q in
        let shown : part_of s from (end - from) ≡ d = rw (← here, ← there) (part_is s at d ds left is) in
        record {
          later = omega arith;
          within = omega (arith, inside s at d ds left is whole);
          whole = ap is_descriptor shown ∙ whole;
          allowed = ap (λ (l : List ℕ). is_reserved label (type_of l)) shown ∙ k;
        }

pub shows-whole : ShowsWhole
unfolding split_step
shows-whole label strict s at from end e = go (ltb (length s) at) e
  where
    go : (b : Bool) → when b (2, []) (split_step label strict at (split (drop at s))) ≡ (0, from ∷ end ∷ []) → ShownWhole label s at from end
    go true q = absurd (no-places 2 from end q)
    go false q =
        first-whole label strict s at from end (split (drop at s)).0 (split (drop at s)).1 (sym (split_joined (drop at s))) (split-whole (drop at s)) q
