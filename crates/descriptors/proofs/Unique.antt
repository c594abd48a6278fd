-- For each input of each call one answer, and one state of what is lent: the laws of that name of specs/Laws.antt.
-- Assumes nothing.
use mathlib.Core.Path.{◌≡◌, refl, sym, ap, ◌∙◌}
use mathlib.Core.Bool.{Bool, false≢true}
use mathlib.Core.List.{List, [], ◌∷◌}
use Prim.Native.Nat.{ℕ}
use native.Mathlib.Omega.{arith}
use lib.ListN.{length, get_or}
use Rattle.std.specs.Prelude.{Option, Some, None, Result, Ok, Err}
use Rattle.octets.proofs.Unique.{unique}
use Rattle.refusals.specs.declared.Refusal.{Refusal}
use Rattle.refusals.proofs.Laws.{refusal_unique, not_zero, says_same}
use Rattle.descriptors.specs.Tested.{tested_says, list_check}
use Rattle.descriptors.specs.Steps.{step_says, BegunAnswer, begun_says, AdvanceAnswer, advance_says, list_step}
use Rattle.descriptors.specs.Labels.{label_check}
use Rattle.descriptors.specs.Laws.{TestUnique, StepUnique, BeginUnique, AdvanceAtUnique, LabelUnique, ListCheckUnique, ListStepUnique, LabelCheckUnique}
use Rattle.descriptors.specs.declared.cursor.Cursor.{Cursor}
use Rattle.descriptors.specs.declared.cursor.Span.{Span}
use Rattle.descriptors.specs.declared.cursor.Begun.{Begun}

-- ---- what an answer says tells it

-- a count, as the value that comes with 0
counted_same : (x y : Result ℕ Refusal) → tested_says x ≡ tested_says y → x ≡ y
counted_same = says_same (λ n. n ∷ []) (λ a b e. ap (λ (l : List ℕ). get_or l 0 0) e)

step_same : (x y : Result (Option Span) Refusal) → step_says x ≡ step_says y → x ≡ y
step_same (Ok (Some p)) (Ok (Some q)) e = ap (λ (a : ℕ × List ℕ). Ok (Some (record { from = get_or a.1 0 0; end = get_or a.1 1 0 }))) e
step_same (Ok (Some p)) (Ok None) e = absurd (let z : ◌≡◌ {A = ℕ} 2 0 = ap (λ (a : ℕ × List ℕ). length a.1) e in omega arith)
step_same (Ok None) (Ok (Some q)) e = absurd (let z : ◌≡◌ {A = ℕ} 0 2 = ap (λ (a : ℕ × List ℕ). length a.1) e in omega arith)
step_same (Ok None) (Ok None) e = refl
step_same (Ok (Some p)) (Err f) e = absurd (not_zero f (ap (λ (a : ℕ × List ℕ). a.0) e))
step_same (Ok None) (Err f) e = absurd (not_zero f (ap (λ (a : ℕ × List ℕ). a.0) e))
step_same (Err d) (Ok (Some q)) e = absurd (not_zero d (sym (ap (λ (a : ℕ × List ℕ). a.0) e)))
step_same (Err d) (Ok None) e = absurd (not_zero d (sym (ap (λ (a : ℕ × List ℕ). a.0) e)))
step_same (Err d) (Err f) e = ap Err (refusal_unique d f (ap (λ (a : ℕ × List ℕ). a.0) e))

begun_same : (label strict : Bool) (x y : Result Begun Refusal) → begun_says label strict x ≡ begun_says label strict y → x ≡ y
begun_same label strict (Ok b) (Ok d) e = ap (λ (a : BegunAnswer). Ok (record { count = a.count; place = a.place })) e
begun_same label strict (Ok b) (Err f) e = absurd (not_zero f (ap (λ (a : BegunAnswer). a.number) e))
begun_same label strict (Err d) (Ok b) e = absurd (not_zero d (sym (ap (λ (a : BegunAnswer). a.number) e)))
begun_same label strict (Err d) (Err f) e = ap Err (refusal_unique d f (ap (λ (a : BegunAnswer). a.number) e))

advance_same : (c : Cursor) (x y : Result (Option (Span × Cursor)) Refusal) → advance_says c x ≡ advance_says c y → x ≡ y
advance_same c (Ok (Some p)) (Ok (Some q)) e = ap (λ (a : AdvanceAnswer). Ok (Some (record { from = a.from; end = a.end }, a.next))) e
advance_same c (Ok (Some p)) (Ok None) e = absurd (false≢true (sym (ap (λ (a : AdvanceAnswer). a.shows) e)))
advance_same c (Ok None) (Ok (Some q)) e = absurd (false≢true (ap (λ (a : AdvanceAnswer). a.shows) e))
advance_same c (Ok None) (Ok None) e = refl
advance_same c (Ok (Some p)) (Err f) e = absurd (not_zero f (ap (λ (a : AdvanceAnswer). a.number) e))
advance_same c (Ok None) (Err f) e = absurd (not_zero f (ap (λ (a : AdvanceAnswer). a.number) e))
advance_same c (Err d) (Ok (Some q)) e = absurd (not_zero d (sym (ap (λ (a : AdvanceAnswer). a.number) e)))
advance_same c (Err d) (Ok None) e = absurd (not_zero d (sym (ap (λ (a : AdvanceAnswer). a.number) e)))
advance_same c (Err d) (Err f) e = ap Err (refusal_unique d f (ap (λ (a : AdvanceAnswer). a.number) e))

-- ---- so each call

pub test_unique : (l t : Bool) (s : List ℕ) → TestUnique l t s
test_unique l t s x y p q = counted_same x y (p ∙ sym q)

pub step_unique : (l t : Bool) (s : List ℕ) (at : ℕ) → StepUnique l t s at
step_unique l t s at x y p q = step_same x y (p ∙ sym q)

pub label_unique : LabelUnique
label_unique s x y p q = counted_same x y (p ∙ sym q)

pub begin_unique : (l t : Bool) (s : List ℕ) → BeginUnique l t s
begin_unique l t s x y p q = begun_same l t x y (p ∙ sym q)

pub advance_at_unique : AdvanceAtUnique
advance_at_unique s c x y p q = advance_same c x y (p ∙ sym q)

pub list_check_unique : (l t : Bool) (s : List ℕ) (before : ℕ) → ListCheckUnique l t s before
list_check_unique l t s before = unique (list_check l t s before)

pub list-step_unique : (l t : Bool) (s : List ℕ) (at : ℕ) (before : List ℕ) → ListStepUnique l t s at before
list-step_unique l t s at before = unique (list_step l t s at before)

pub label_check_unique : LabelCheckUnique
label_check_unique s before = unique (label_check s before)
