-- The laws of specs/StrictLaws.antt.
-- Assumes nothing.
use mathlib.Core.Path.{◌≡◌, refl, sym, ap, ◌∙◌, subst}
use mathlib.Core.Bool.{Bool, true, false, not, and-false, false≢true}
use mathlib.Core.List.{List, [], ◌∷◌, ◌++◌, flatten, append-nil}
use Prim.Native.Nat.{ℕ, zero, suc, ◌+◌}
use native.Mathlib.Omega.{arith}
use borrow.Author.Tests.{not-true}
use lib.Dec.{eqb}
use lib.ListN.{length, get_or}
use Rattle.octets.specs.Tests.{all}
use Rattle.octets.proofs.Tests.{all_at, and_left}
use Rattle.descriptors.specs.Descriptor.{type_of, is_reserved, strict_by_default}
use Rattle.octets.specs.Split.{Split}
use Rattle.descriptors.specs.Parse.{split}
use Rattle.descriptors.specs.Tested.{admits, list_ok, unreserved, list_answer}
use Rattle.descriptors.specs.Steps.{first_shown, step_answer, cursor_on}
use Rattle.descriptors.specs.StrictLaws.{reserved_at, NoneReserved, HasReserved, step_from, StrictExactly, StrictShowsSame, StrictLeavesNone, StrictShowsWhole, ReservedRefused, LabelAdmits}
use Rattle.descriptors.specs.declared.cursor.Cursor.{Cursor}
use Rattle.descriptors.proofs.Split.{split_joined, parse-split}
use Rattle.descriptors.proofs.Steps.{Stands, stands-step, stands_past}
use Rattle.descriptors.proofs.Answers.{list-refused, list_accepted, ok-counted}
use Rattle.descriptors.proofs.Shown.{ok-parse, shows-all}
use Rattle.descriptors.proofs.Laws.{ok-parts, parts_ok, starts}

-- ---- which descriptors each way admits

-- the old way admits all
lax-admits : (label : Bool) (ds : List (List ℕ)) → all (admits label false) ds ≡ true
unfolding all
lax-admits label [] = refl
lax-admits label (d ∷ ds) = lax-admits label ds

pub label-admits : LabelAdmits
label-admits ds = lax-admits true ds

-- strict admits those that are not reserved
strict_none : (label : Bool) (ds : List (List ℕ)) → all (admits label true) ds ≡ true → NoneReserved label ds
strict_none label ds e i h = not-true (reserved_at label ds i) (all_at (admits label true) ds i [] e h)

none_strict : (label : Bool) (ds : List (List ℕ)) → NoneReserved label ds → all (admits label true) ds ≡ true
unfolding all
none_strict label [] none = refl
none_strict label (d ∷ ds) none = rw (none 0 (omega arith)) (none_strict label ds (λ i h. none (suc i) (omega (arith, h))))

-- ---- the test, and the count

module _ (label : Bool) (s : List ℕ) where
  -- what strict accepts the old way does, and it has no reserved type; and the other way round
  pub strict_lax : list_ok label true s ≡ true → list_ok label false s ≡ true
  strict_lax ok = let (parsed, rises, admitted) = ok-parts label true s ok in parts_ok label false s (split s).0 parsed rises (lax-admits label (split s).0)

  pub strict_free : list_ok label true s ≡ true → NoneReserved label (split s).0
  strict_free ok = strict_none label (split s).0 (ok-parts label true s ok).2

  pub lax_strict : list_ok label false s ≡ true → NoneReserved label (split s).0 → list_ok label true s ≡ true
  lax_strict ok none =
      let (parsed, rises, admitted) = ok-parts label false s ok in parts_ok label true s (split s).0 parsed rises (none_strict label (split s).0 none)

pub strict_exactly : StrictExactly
strict_exactly label s n = (to, from)
  where
    to : list_answer label true s ≡ (0, n ∷ []) → (list_answer label false s ≡ (0, n ∷ [])) × NoneReserved label (split s).0
    to e = let (ok, count) = ok-counted label true s n e in (list_accepted label false s n (strict_lax label s ok) count, strict_free label s ok)

    from : (list_answer label false s ≡ (0, n ∷ [])) × NoneReserved label (split s).0 → list_answer label true s ≡ (0, n ∷ [])
    from (e, none) = let (ok, count) = ok-counted label false s n e in list_accepted label true s n (lax_strict label s ok none) count

none_left : (label : Bool) (ds : List (List ℕ)) → NoneReserved label ds → unreserved label ds ≡ ds
unfolding unreserved
none_left label [] none = refl
none_left label (d ∷ ds) none = rw (none 0 (omega arith)) (ap (λ (us : List (List ℕ)). d ∷ us) (none_left label ds (λ i h. none (suc i) (omega (arith, h)))))

pub strict-leaves-none : StrictLeavesNone
strict-leaves-none label s ds ok e =
    none_left label ds (subst (λ (p : Split). NoneReserved label p.0) (parse-split s ds e) (strict_free label s ok))

pub strict-shows-whole : StrictShowsWhole
strict-shows-whole label s ok =
    let parsed = ok-parse label true s ok in
    ap flatten (shows-all label true s ok ∙ strict-leaves-none label s (split s).0 ok parsed)
    ∙ sym (append-nil (flatten (split s).0))
    ∙ ap (λ (l : List ℕ). flatten (split s).0 ++ l) (sym (ap (λ (p : Split). p.1) (parse-split s (split s).0 parsed)))
    ∙ split_joined s

pub reserved-not_ok : (label : Bool) (s : List ℕ) → HasReserved label (split s).0 → list_ok label strict_by_default s ≡ false
reserved-not_ok label s h = refused (list_ok label strict_by_default s) refl
  where
    refused : (ok : Bool) → list_ok label strict_by_default s ≡ ok → ok ≡ false
    refused true e = absurd (false≢true (sym (strict_free label s e h.place h.within) ∙ h.reserved))
    refused false e = refl

pub reserved-refused : ReservedRefused
reserved-refused label s h = list-refused label strict_by_default s (reserved-not_ok label s h)

-- ---- steps

-- descriptors that strict admits stand there the old way too
stands_other : (label strict : Bool) (s : List ℕ) (at : ℕ) (ds : List (List ℕ)) → Stands label true s at ds → Stands label strict s at ds
stands_other label true s at ds h = h
stands_other label false s at ds h = record { inside = h.inside; left = h.left; whole = h.whole; admitted = lax-admits label ds }

module _ (label : Bool) (s : List ℕ) where
  -- what a step answers where these descriptors stand from the place on and none is reserved, and what step number i from there gives
  abbrev first_of : ℕ → List (List ℕ) → ℕ × List ℕ
  first_of at [] = (0, [])
  first_of at (d ∷ ds) = (0, at ∷ (at + length d) ∷ [])

  abbrev step_on : ℕ → ℕ → List (List ℕ) → ℕ × Bool × ℕ × ℕ
  step_on zero at ds = ((first_of at ds).0, not (eqb (length (first_of at ds).1) 0), get_or (first_of at ds).1 0 at, get_or (first_of at ds).1 1 at)
  step_on (suc i) at [] = step_on i at []
  step_on (suc i) at (d ∷ ds) = step_on i (at + length d) ds

  module _ (strict : Bool) where
    abbrev cursor : ℕ → Cursor
    cursor at = cursor_on label strict at

    shows_first : (at : ℕ) (ds : List (List ℕ)) → Stands label true s at ds → step_answer label strict s at ≡ first_of at ds
    unfolding first_shown all
    shows_first at [] h = stands-step label strict s at [] (stands_other label strict s at [] h)
    shows_first at (d ∷ ds) h =
        let free = not-true (is_reserved label (type_of d)) (and_left (admits label true d) (all (admits label true) ds) h.admitted) in
        stands-step label strict s at (d ∷ ds) (stands_other label strict s at (d ∷ ds) h) ∙ rw (free, and-false strict)

    -- a step from the place, and the steps from where it leads
    then-from : (i at : ℕ) (ds : List (List ℕ)) → Stands label true s at ds → step_from (cursor at) s (suc i) ≡ step_from (cursor (get_or (first_of at ds).1 1 at)) s i
    then-from i at ds h = ap (λ (a : ℕ × List ℕ). step_from (cursor (get_or a.1 1 at)) s i) (shows_first at ds h)

    steps_on : (i at : ℕ) (ds : List (List ℕ)) → Stands label true s at ds → step_from (cursor at) s i ≡ step_on i at ds
    steps_on zero at ds h = ap (λ (a : ℕ × List ℕ). (a.0, not (eqb (length a.1) 0), get_or a.1 0 at, get_or a.1 1 at)) (shows_first at ds h)
    steps_on (suc i) at [] h = then-from i at [] h ∙ steps_on i at [] h
    steps_on (suc i) at (d ∷ ds) h = then-from i at (d ∷ ds) h ∙ steps_on i (at + length d) ds (stands_past label true s at d ds h)

pub strict-shows-same : StrictShowsSame
strict-shows-same label s i ok =
    let stands = starts label true s (split s).0 ok (ok-parts label true s ok).0 in
    steps_on label s true i 0 (split s).0 stands ∙ sym (steps_on label s false i 0 (split s).0 stands)
