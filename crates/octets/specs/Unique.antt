-- Document 01, "What every call owes": "For each input, a public call's statement leaves one possible answer and one possible state of every lent
-- buffer, refusals too."
-- Assumes nothing.
use Rattle.std.specs.Prelude.{◌≡◌}

-- of the answers x, with all that is lent, one alone says what is stated; `says` reads an answer as the call's contract does
abbrev pub UniqueBy : {A B : Type 0} → (A → B) → B → Type 0
UniqueBy {A} says stated = (x y : A) → says x ≡ stated → says y ≡ stated → x ≡ y

-- where the contract is an equation of the answer itself
abbrev pub Unique : {A : Type 0} → A → Type 0
Unique stated = UniqueBy (λ x. x) stated
