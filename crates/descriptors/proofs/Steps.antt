-- Steps along a list that has been accepted: each shows the next unreserved descriptor, and then nothing.
-- Assumes nothing.
use mathlib.Core.Path.{◌≡◌, refl, sym, ap, ◌∙◌, subst}
use mathlib.Core.Bool.{Bool, true, false}
use mathlib.Core.List.{List, [], ◌∷◌, flatten}
use Prim.Native.Nat.{ℕ, zero, suc, ◌+◌, ◌-◌, ◌≤◌, ◌<◌}
use native.Mathlib.Omega.{arith}
use borrow.Author.Tests.{le-ltb, not-true}
use lib.ListN.{length, get_or, take, drop, length-drop, length-append}
use lib.Seq.{take-append_seam, drop-append_seam, drop-drop}
use Rattle.octets.specs.Lent.{when}
use Rattle.octets.specs.Tests.{all, part_of}
use Rattle.octets.proofs.Tests.{and_left, and_right}
use Rattle.descriptors.specs.Descriptor.{type_of, is_reserved, is_refused, is_descriptor}
use Rattle.descriptors.specs.Tested.{admits, unreserved}
use Rattle.descriptors.specs.Steps.{first_shown, split_step, step_answer, cursor_on, AdvanceAnswer, advanced_by, advance_of, part_shown, cursor_after}
use Rattle.descriptors.specs.declared.cursor.Cursor.{Cursor}
use Rattle.descriptors.proofs.Sizes.{said_least, descriptor-parts}
use Rattle.descriptors.proofs.Split.{split-flatten}

-- from the place on, the list is these descriptors
pub record Stands (label strict : Bool) (s : List ℕ) (at : ℕ) (ds : List (List ℕ)) : Type 0 where
  pub inside : at ≤ length s
  pub left : drop at s ≡ flatten ds
  pub whole : all is_descriptor ds ≡ true
  pub admitted : all (admits label strict) ds ≡ true

-- the first of them that is not reserved is d, and us are those after it
pub record Shows (label strict : Bool) (s : List ℕ) (at : ℕ) (d : List ℕ) (us : List (List ℕ)) : Type 0 where
  pub from : ℕ
  pub end : ℕ
  pub answer : step_answer label strict s at ≡ (0, from ∷ end ∷ [])
  pub part : part_of s from (end - from) ≡ d
  pub moves : at < end
  pub rest : List (List ℕ)
  pub stands : Stands label strict s end rest
  pub later : unreserved label rest ≡ us

module _ (label strict : Bool) (s : List ℕ) where
  -- a step by the descriptors from the place on
  pub stands-step : (at : ℕ) (ds : List (List ℕ)) → Stands label strict s at ds → step_answer label strict s at ≡ first_shown label strict at ds []
  unfolding split_step
  stands-step at ds h = rw (le-ltb (length s) at h.inside, h.left, split-flatten ds h.whole)

  -- the first of them passed
  pub stands_past : (at : ℕ) (d : List ℕ) (ds : List (List ℕ)) → Stands label strict s at (d ∷ ds) → Stands label strict s (at + length d) ds
  unfolding all flatten
  stands_past at d ds h =
      record {
        inside = omega (arith, length-drop at s, simp length-append at (ap length h.left), h.inside);
        left = sym (drop-drop (length d) at s) ∙ ap (drop (length d)) h.left ∙ drop-append_seam d (flatten ds);
        whole = and_right (is_descriptor d) (all is_descriptor ds) h.whole;
        admitted = and_right (admits label strict d) (all (admits label strict) ds) h.admitted;
      }

  stands_part : (at : ℕ) (d : List ℕ) (ds : List (List ℕ)) → Stands label strict s at (d ∷ ds) → part_of s at (at + length d - at) ≡ d
  unfolding flatten
  stands_part at d ds h =
      let size : at + length d - at ≡ length d = omega arith in
      ap (part_of s at) size ∙ ap (take (length d)) h.left ∙ take-append_seam d (flatten ds)

  stands_some : (at : ℕ) (d : List ℕ) (ds : List (List ℕ)) → Stands label strict s at (d ∷ ds) → at < at + length d
  unfolding all
  stands_some at d ds h =
      let (zero_byte, long) = descriptor-parts d (and_left (is_descriptor d) (all is_descriptor ds) h.whole) in omega (arith, said_least d)

  -- none of them is refused
  stands_lax : (at : ℕ) (d : List ℕ) (ds : List (List ℕ)) → Stands label strict s at (d ∷ ds) → is_refused label strict (type_of d) ≡ false
  unfolding all
  stands_lax at d ds h =
      not-true (is_refused label strict (type_of d)) (and_left (admits label strict d) (all (admits label strict) ds) h.admitted)

  -- a reserved one is passed over: the step is that from the next
  step_skip : (at : ℕ) (d : List ℕ) (ds : List (List ℕ)) → Stands label strict s at (d ∷ ds) → is_reserved label (type_of d) ≡ true
      → step_answer label strict s at ≡ step_answer label strict s (at + length d)
  unfolding first_shown
  step_skip at d ds h e =
      stands-step at (d ∷ ds) h ∙ passed (stands_lax at d ds h) ∙ sym (stands-step (at + length d) ds (stands_past at d ds h))
    where
      passed : is_refused label strict (type_of d) ≡ false → first_shown label strict at (d ∷ ds) [] ≡ first_shown label strict (at + length d) ds []
      passed lax = rw (lax, e)

  pub shows : (at : ℕ) (ds : List (List ℕ)) (d : List ℕ) (us : List (List ℕ)) → Stands label strict s at ds → unreserved label ds ≡ d ∷ us
      → Shows label strict s at d us
  unfolding unreserved first_shown
  shows at [] d us h e = absurd (let z : ◌≡◌ {A = ℕ} 0 1 = cc in omega arith)
  shows at (f ∷ ds) d us h e =
      go (is_reserved label (type_of f)) refl (shows (at + length f) ds d us (stands_past at f ds h)) e
    where
      go : (r : Bool) → is_reserved label (type_of f) ≡ r → (unreserved label ds ≡ d ∷ us → Shows label strict s (at + length f) d us)
          → when r (unreserved label ds) (f ∷ unreserved label ds) ≡ d ∷ us → Shows label strict s at d us
      go true r ih q =
          let w = ih q in
          record
          { from = w.from; end = w.end; answer = step_skip at f ds h r ∙ w.answer; part = w.part; moves = omega (arith, w.moves); rest = w.rest; stands = w.stands; later = w.later }
      go false r ih q =
          let first : f ≡ d = cc in
          let others : unreserved label ds ≡ us = cc in
          record {
            from = at;
            end = at + length f;
            answer = stands-step at (f ∷ ds) h ∙ rw (stands_lax at f ds h, r);
            part = stands_part at f ds h ∙ first;
            moves = stands_some at f ds h;
            rest = ds;
            stands = stands_past at f ds h;
            later = others;
          }

  pub shows-none : (at : ℕ) (ds : List (List ℕ)) → Stands label strict s at ds → unreserved label ds ≡ [] → step_answer label strict s at ≡ (0, [])
  unfolding unreserved first_shown
  shows-none at [] h e = stands-step at [] h
  shows-none at (f ∷ ds) h e = go (is_reserved label (type_of f)) refl (shows-none (at + length f) ds (stands_past at f ds h)) e
    where
      go : (r : Bool) → is_reserved label (type_of f) ≡ r → (unreserved label ds ≡ [] → step_answer label strict s (at + length f) ≡ (0, []))
          → when r (unreserved label ds) (f ∷ unreserved label ds) ≡ [] → step_answer label strict s at ≡ (0, [])
      go true r ih q = step_skip at f ds h r ∙ ih q
      go false r ih q = absurd (let z : ◌≡◌ {A = ℕ} 0 1 = cc in omega arith)

  -- ---- step after step

  abbrev cursor : ℕ → Cursor
  cursor at = cursor_on label strict at

  -- the step after i steps from c shows d
  abbrev Shown : Cursor → ℕ → List ℕ → Type 0
  Shown c i d = let a = advance_of s (cursor_after i s c) in (a.number ≡ 0) × (a.shows ≡ true) × (part_shown s a ≡ d)

  moved : (at : ℕ) (d : List ℕ) (us : List (List ℕ)) (w : Shows label strict s at d us) → (advance_of s (cursor at)).next ≡ cursor w.end
  moved at d us w = ap (λ (a : ℕ × List ℕ). (advanced_by (cursor at) a).next) w.answer

  pub in_order : (i at : ℕ) (ds : List (List ℕ)) → Stands label strict s at ds → i < length (unreserved label ds)
      → Shown (cursor at) i (get_or (unreserved label ds) i [])
  in_order zero at ds h k = first (unreserved label ds) refl k
    where
      first : (us : List (List ℕ)) → unreserved label ds ≡ us → 0 < length us → Shown (cursor at) 0 (get_or us 0 [])
      first [] e k = absurd (omega arith)
      first (d ∷ us) e k =
          let w = shows at ds d us h e in (
            ap (λ (a : ℕ × List ℕ). a.0) w.answer,
            ap (λ (a : ℕ × List ℕ). (advanced_by (cursor at) a).shows) w.answer,
            ap (λ (a : ℕ × List ℕ). part_shown s (advanced_by (cursor at) a)) w.answer ∙ w.part,
          )
  in_order (suc i) at ds h k = later (unreserved label ds) refl k (in_order i)
    where
      later : (us : List (List ℕ)) → unreserved label ds ≡ us → suc i < length us
          → ((end : ℕ) (rest : List (List ℕ)) → Stands label strict s end rest → i < length (unreserved label rest) → Shown (cursor end) i (get_or (unreserved label rest) i []))
          → Shown (cursor at) (suc i) (get_or us (suc i) [])
      later [] e k ih = absurd (omega arith)
      later (d ∷ us) e k ih =
          let w = shows at ds d us h e in
          subst (λ (c : Cursor). Shown c i (get_or us i [])) (sym (moved at d us w))
          (subst (λ (l : List (List ℕ)). i < length l → Shown (cursor w.end) i (get_or l i [])) w.later (ih w.end w.rest w.stands) (omega arith))

  abbrev Still : Cursor → Type 0
  Still c = advance_of s c ≡ record { number = 0; shows = false; from = c.at; end = c.at; next = c }

  still_after : (i : ℕ) (c : Cursor) → Still c → cursor_after i s c ≡ c
  still_after zero c h = refl
  still_after (suc i) c h = ap (λ (a : AdvanceAnswer). cursor_after i s a.next) h ∙ still_after i c h

  pub then_still : (i at : ℕ) (ds : List (List ℕ)) → Stands label strict s at ds → length (unreserved label ds) ≤ i → Still (cursor_after i s (cursor at))
  then_still zero at ds h k = none_left (unreserved label ds) refl k
    where
      none_left : (us : List (List ℕ)) → unreserved label ds ≡ us → length us ≤ 0 → Still (cursor at)
      none_left [] e k = ap (advanced_by (cursor at)) (shows-none at ds h e)
      none_left (d ∷ us) e k = absurd (omega arith)
  then_still (suc i) at ds h k = later (unreserved label ds) refl k (then_still i)
    where
      later : (us : List (List ℕ)) → unreserved label ds ≡ us → length us ≤ suc i
          → ((end : ℕ) (rest : List (List ℕ)) → Stands label strict s end rest → length (unreserved label rest) ≤ i → Still (cursor_after i s (cursor end)))
          → Still (cursor_after (suc i) s (cursor at))
      later [] e k ih =
          let here : Still (cursor at) = ap (advanced_by (cursor at)) (shows-none at ds h e) in
          subst (λ (c : Cursor). Still c) (sym (still_after (suc i) (cursor at) here)) here
      later (d ∷ us) e k ih =
          let w = shows at ds d us h e in
          subst (λ (c : Cursor). Still (cursor_after i s c)) (sym (moved at d us w))
          (subst (λ (l : List (List ℕ)). length l ≤ i → Still (cursor_after i s (cursor w.end))) w.later (ih w.end w.rest w.stands) (omega arith))
