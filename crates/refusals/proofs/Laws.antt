-- The statements of specs/Laws.antt, proved.
-- Assumes nothing.
use mathlib.Core.Path.{◌≡◌, refl, sym, ap, ◌∙◌}
use Prim.Native.Nat.{ℕ}
use Rattle.std.specs.Prelude.{List, [], ◌∷◌, get_or, Result, Ok, Err}
use Rattle.std.specs.Result.{IsErrAnd, IsOk}
use Rattle.refusals.specs.Numbers.{number_of, outcome_number, outcome_says}
use Rattle.refusals.specs.Laws.{RefusalUnique, OutcomeUnique}
use Rattle.refusals.specs.declared.Refusal.{Refusal}
use Rattle.refusals.specs.declared.Refusal.TheVariants.{TableLayout, Layout, NotPermitted, PastMaximum, NoRoom, NoRow, OtherUse, WrappedLength, WrongTag, SessionSpent, CounterRunsOver}

-- the answers by their numbers
abbrev outcomes : List (Result (Unit {0}) Refusal)
outcomes =
    Ok tt ∷ Err TableLayout ∷ Err Layout ∷ Err NotPermitted ∷ Err PastMaximum ∷ Err NoRoom ∷ Err NoRow ∷ Err OtherUse ∷ Err WrappedLength ∷ Err WrongTag
    ∷ Err SessionSpent ∷ Err CounterRunsOver ∷ []

abbrev outcome_of : ℕ → Result (Unit {0}) Refusal
outcome_of n = get_or outcomes n (Ok tt)

of_number : (x : Result (Unit {0}) Refusal) → outcome_of (outcome_number x) ≡ x
of_number (Ok u) = refl
of_number (Err TableLayout) = refl
of_number (Err Layout) = refl
of_number (Err NotPermitted) = refl
of_number (Err PastMaximum) = refl
of_number (Err NoRoom) = refl
of_number (Err NoRow) = refl
of_number (Err OtherUse) = refl
of_number (Err WrappedLength) = refl
of_number (Err WrongTag) = refl
of_number (Err SessionSpent) = refl
of_number (Err CounterRunsOver) = refl

pub outcome_unique : OutcomeUnique
outcome_unique x y e = sym (of_number x) ∙ ap outcome_of e ∙ of_number y

-- which refusal an answer has; a refusal of our choice where it has none
abbrev refusal_in : Result (Unit {0}) Refusal → Refusal
refusal_in (Ok u) = Layout
refusal_in (Err e) = e

pub refusal_unique : RefusalUnique
refusal_unique a b e = ap refusal_in (outcome_unique (Err a) (Err b) e)

-- no refusal has the number of an answer that is none
pub not_zero : (e : Refusal) → 0 ≡ number_of e → ⊥
not_zero e h = let z = outcome_unique (Ok tt) (Err e) h in cc

-- an answer is told by its number and the values that come with 0, where those tell what is given
pub says_same : {A : Type 0} (values : A → List ℕ) → ((a b : A) → values a ≡ values b → a ≡ b) → (x y : Result A Refusal)
    → outcome_says values x ≡ outcome_says values y → x ≡ y
says_same values tell (Ok a) (Ok b) e = ap Ok (tell a b (ap (λ (p : ℕ × List ℕ). p.1) e))
says_same values tell (Ok a) (Err f) e = absurd (not_zero f (ap (λ (p : ℕ × List ℕ). p.0) e))
says_same values tell (Err d) (Ok b) e = absurd (not_zero d (sym (ap (λ (p : ℕ × List ℕ). p.0) e)))
says_same values tell (Err d) (Err f) e = ap Err (refusal_unique d f (ap (λ (p : ℕ × List ℕ). p.0) e))

-- a refusal that `?` hands on keeps its number
pub passed_on : {A : Type 0} (r : Result A Refusal) (e : Refusal) → IsErrAnd r (λ x. x ≡ e) → outcome_number r ≡ number_of e
passed_on (Ok a) e h = absurd h
passed_on (Err x) e h = ap number_of h

-- and is said as it was
pub said_on : {A : Type 0} (values : A → List ℕ) (r : Result A Refusal) (e : Refusal) → IsErrAnd r (λ x. x ≡ e) → outcome_says values r ≡ (number_of e, [])
said_on values (Ok a) e h = absurd h
said_on values (Err x) e h = ap (λ (f : Refusal). (number_of f, [])) h

-- where the number is 0 nothing was refused
pub is_done : {A : Type 0} (r : Result A Refusal) → outcome_number r ≡ 0 → IsOk r
is_done (Ok a) h = refl
is_done (Err e) h = absurd (not_zero e (sym h))
