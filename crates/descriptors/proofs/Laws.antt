-- The laws of specs/Laws.antt.
-- Assumes nothing.
use mathlib.Core.Path.{◌≡◌, refl, sym, ap, ◌∙◌}
use mathlib.Core.Bool.{Bool, true, false, not, ◌&&◌}
use mathlib.Core.List.{List, [], ◌∷◌, ◌++◌, flatten, append-nil}
use mathlib.Core.Option.{some}
use Prim.Native.Nat.{ℕ, ◌+◌, ◌-◌, ◌≤◌}
use native.Mathlib.Omega.{arith}
use borrow.Author.Tests.{eqb-true, leb-true, ltb-false, le-leb}
use lib.ListN.{length, get_or, take, drop, length-take}
use lib.Dec.{eqb, leb, ltb}
use Rattle.octets.specs.Lent.{when, lowest}
use Rattle.octets.specs.Tests.{all, every, zeros, part_of}
use Rattle.octets.proofs.Tests.{and_left, and_right, every_at}
use Rattle.octets.proofs.Values.{cons_equal}
use Rattle.descriptors.specs.Descriptor.{type_of, is_reserved, is_refused, is_descriptor, size_of, size_said}
use Rattle.octets.specs.Split.{Split, split_by}
use Rattle.descriptors.specs.Parse.{split, parse}
use Rattle.descriptors.specs.Tested.{admits, rises_from, split_tests, split_ok, list_ok, unreserved, list_answer}
use Rattle.descriptors.specs.Steps.{first_shown, split_step, step_answer, advance_of}
use Rattle.descriptors.specs.Labels.{label_max, list_of, label_shape, label_strict, label_ok, label_number, label_answer, present}
use Rattle.descriptors.specs.declared.cursor.Cursor.{Cursor}
use Rattle.descriptors.specs.Laws.{ParsesExactly, SplitsWhole, Accepted, AcceptsExactly, ShowsInOrder, ThenNothing, RefusedStays, RefusedShowsNothing, AcceptedLabel, AcceptsLabel, LabelClaim}
use Rattle.descriptors.specs.Laws.{ListTestsRise, LeftTestsRise, LabelTestsRise}
use Rattle.descriptors.proofs.Split.{split_joined, split-whole, split-flatten, split-left, parse-split, split-parse}
use Rattle.descriptors.proofs.Rising.{rises-each, each-rises}
use Rattle.descriptors.proofs.Steps.{Stands, in_order, then_still}
use Rattle.descriptors.proofs.Answers.{list_accepted, ok-counted, label_accepted, label_list, label_count}

-- ---- the parse

pub parses_exactly : ParsesExactly
parses_exactly s ds = (to, λ h. split-parse s ds (sym (ap split h.1) ∙ split-flatten ds h.0))
  where
    to : parse s ≡ some ds → (all is_descriptor ds ≡ true) × (flatten ds ≡ s)
    to e =
        let cut = parse-split s ds e in (
          ap (λ (p : Split). all is_descriptor p.0) (sym cut) ∙ split-whole s,
          sym (append-nil (flatten ds)) ∙ ap (λ (p : Split). flatten p.0 ++ p.1) (sym cut) ∙ split_joined s,
        )

pub splits-whole : SplitsWhole
splits-whole s = (split_joined s, split-whole s, split-left s)

-- ---- the test, and the count

module _ (label strict : Bool) (s : List ℕ) where
  -- what an accepted list's tests say of its descriptors
  pub ok-parts : list_ok label strict s ≡ true → (parse s ≡ some (split s).0) × (rises_from 0 (split s).0 ≡ true) × (all (admits label strict) (split s).0 ≡ true)
  unfolding split_ok
  ok-parts e =
      let tests = split_tests label strict 0 (split s) in (rw (every_at tests 0 e), every_at tests 1 e, every_at tests 2 e)

  pub parts_ok : (ds : List (List ℕ)) → parse s ≡ some ds → rises_from 0 ds ≡ true → all (admits label strict) ds ≡ true → list_ok label strict s ≡ true
  unfolding split_ok
  parts_ok ds p r a = rw (parse-split s ds p, r, a)

pub accepts_exactly : AcceptsExactly
accepts_exactly label strict s n = (to, from)
  where
    to : list_answer label strict s ≡ (0, n ∷ []) → Accepted label strict s n
    to e =
        let (ok, count) = ok-counted label strict s n e in
        let (parsed, rises, admitted) = ok-parts label strict s ok in
        record { descriptors = (split s).0; parsed = parsed; rise = rises-each 0 (split s).0 rises; admitted = admitted; counted = count }

    from : Accepted label strict s n → list_answer label strict s ≡ (0, n ∷ [])
    from h =
        let ds = h.descriptors in
        let ok = parts_ok label strict s ds h.parsed (each-rises 0 ds h.rise (λ j k. omega arith)) h.admitted in
        list_accepted label strict s n ok (h.counted ∙ ap (λ (p : Split). length (unreserved label p.0)) (sym (parse-split s ds h.parsed)))

-- ---- steps

-- at the start of an accepted list stand all its descriptors
pub starts : (label strict : Bool) (s : List ℕ) (ds : List (List ℕ)) → list_ok label strict s ≡ true → parse s ≡ some ds → Stands label strict s 0 ds
starts label strict s ds ok e =
    let (whole, joined) = (parses_exactly s ds).0 e in
    let (parsed, rises, admitted) = ok-parts label strict s ok in
    let first = ap (λ (p : Split). p.0) (parse-split s ds e) in
    record { inside = omega arith; left = sym joined; whole = whole; admitted = rw first at admitted }

pub shows_in_order : ShowsInOrder
shows_in_order label strict s ds i ok e h = in_order label strict s i 0 ds (starts label strict s ds ok e) h

pub then-nothing : ThenNothing
then-nothing label strict s ds i ok e h = then_still label strict s i 0 ds (starts label strict s ds ok e) h

-- a step that gives another number than 0 shows nothing
quiet : (label strict : Bool) (at : ℕ) (ds : List (List ℕ)) (left : List ℕ)
    → ((first_shown label strict at ds left).0 ≡ 0 → ⊥) → (first_shown label strict at ds left).1 ≡ []
unfolding first_shown
quiet label strict at [] left f = refl
quiet label strict at (d ∷ ds) left f = go (is_refused label strict (type_of d)) (is_reserved label (type_of d)) (quiet label strict (at + length d) ds left) f
  where
    rest : ℕ × List ℕ
    rest = first_shown label strict (at + length d) ds left

    go : (b r : Bool) → ((rest.0 ≡ 0 → ⊥) → rest.1 ≡ [])
        → ((when b (2, []) (when r rest (0, at ∷ (at + length d) ∷ []))).0 ≡ 0 → ⊥) → (when b (2, []) (when r rest (0, at ∷ (at + length d) ∷ []))).1 ≡ []
    go true r ih f = refl
    go false true ih f = ih f
    go false false ih f = absurd (f refl)

step_quiet : (s : List ℕ) (c : Cursor) → ((advance_of s c).number ≡ 0 → ⊥) → (step_answer c.opening.label c.opening.strict s c.at).1 ≡ []
unfolding split_step
step_quiet s c f = go (ltb (length s) c.at) f
  where
    found : ℕ × List ℕ
    found = split_step c.opening.label c.opening.strict c.at (split (drop c.at s))

    go : (b : Bool) → ((when b (2, []) found).0 ≡ 0 → ⊥) → (when b (2, []) found).1 ≡ []
    go true f = refl
    go false f = quiet c.opening.label c.opening.strict c.at (split (drop c.at s)).0 (split (drop c.at s)).1 f

pub refused_stays : RefusedStays
refused_stays s c f = ap (λ (l : List ℕ). record { at = get_or l 1 c.at; opening = c.opening }) (step_quiet s c f)

pub refused_quiet : RefusedShowsNothing
refused_quiet s c f =
    let none : c.at - c.at ≡ 0 = omega arith in (
      ap (λ (l : List ℕ). not (eqb (length l) 0)) (step_quiet s c f),
      ap (λ (l : List ℕ). part_of s (get_or l 0 c.at) (get_or l 1 c.at - get_or l 0 c.at)) (step_quiet s c f) ∙ ap (part_of s c.at) none,
    )

-- ---- labels

two-zeros : (s : List ℕ) → leb 2 (length s) ≡ true → zeros (take 2 s) ≡ true → take 2 s ≡ 0 ∷ 0 ∷ []
unfolding all
two-zeros [] h z = absurd (omega (arith, leb-true 2 0 h))
two-zeros (x ∷ []) h z = absurd (omega (arith, leb-true 2 1 h))
two-zeros (x ∷ y ∷ s) h z =
    cons_equal (eqb-true _ _ (and_left (eqb x 0) (eqb y 0 && true) z)) (cons_equal (eqb-true _ _ (and_left (eqb y 0) true (and_right (eqb x 0) (eqb y 0 && true) z))) refl)

-- what number 0 says of a label's tests, and what gives it
label-parts : (s : List ℕ) → label_number s ≡ 0 → (every (label_shape s) ≡ true) × (list_ok true label_strict (list_of s) ≡ true) × (length s ≤ label_max)
unfolding label_ok
label-parts s e =
    let (ok, short) = none (label_ok s) (ltb label_max (length s)) e in (
      and_left (every (label_shape s)) (list_ok true label_strict (list_of s)) ok,
      and_right (every (label_shape s)) (list_ok true label_strict (list_of s)) ok,
      ltb-false label_max (length s) short,
    )
  where
    none : (ok long : Bool) → lowest ((2, not ok) ∷ (4, long) ∷ []) ≡ 0 → (ok ≡ true) × (long ≡ false)
    none true true e = absurd (omega arith)
    none true false e = (refl, refl)
    none false long e = absurd (omega arith)

two_there : (s : List ℕ) → take 2 s ≡ 0 ∷ 0 ∷ [] → leb 2 (length s) ≡ true
two_there s e = le-leb 2 (length s) (omega (arith, simp length-take at (ap length e)))

parts_label : (s : List ℕ) (n : ℕ) → AcceptedLabel s n → every (label_shape s) ≡ true
unfolding all
parts_label s n h = rw (two_there s h.zeroes, h.zeroes, h.has_00, h.has_01, h.has_03, h.has_04)

pub accepts_label : AcceptsLabel
accepts_label s n = (to, from)
  where
    to : label_answer s ≡ (0, n ∷ []) → AcceptedLabel s n
    to e =
        let (none, count) = label_count s n e in
        let (shape, ok, short) = label-parts s none in
        record {
          zeroes = two-zeros s (every_at (label_shape s) 0 shape) (every_at (label_shape s) 1 shape);
          list = (accepts_exactly true label_strict (list_of s) n).0 (list_accepted true label_strict (list_of s) n ok count);
          has_00 = every_at (label_shape s) 2 shape;
          has_01 = every_at (label_shape s) 3 shape;
          has_03 = every_at (label_shape s) 4 shape;
          has_04 = every_at (label_shape s) 5 shape;
          short = short;
        }

    from : AcceptedLabel s n → label_answer s ≡ (0, n ∷ [])
    from h =
        let (ok, count) = ok-counted true label_strict (list_of s) n ((accepts_exactly true label_strict (list_of s) n).1 h.list) in
        label_accepted s n (label_list s (parts_label s n h) ∙ ok) h.short count

pub label_claim : LabelClaim
unfolding label_ok present split_ok rises_from unreserved split split_by size_of size_said all
label_claim = (refl, refl, refl)

-- ---- "The lowest that applies is given, and no other."

pub list_tests_rise : ListTestsRise
list_tests_rise label strict s = refl

pub left_tests_rise : LeftTestsRise
left_tests_rise left = refl

pub label_tests_rise : LabelTestsRise
label_tests_rise s = refl
