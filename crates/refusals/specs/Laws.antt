-- What the numbers promise, as statements; proofs/Laws.antt proves them.
-- Assumes nothing.
use Rattle.std.specs.Prelude.{◌≡◌, Result}
use Rattle.refusals.specs.Numbers.{number_of, outcome_number}
use Rattle.refusals.specs.declared.Refusal.{Refusal}

-- no two refusals have one number
abbrev pub RefusalUnique : Type 0
RefusalUnique = (a b : Refusal) → number_of a ≡ number_of b → a ≡ b

-- so the number of an answer that brings nothing tells the answer
abbrev pub OutcomeUnique : Type 0
OutcomeUnique = (x y : Result (Unit {0}) Refusal) → outcome_number x ≡ outcome_number y → x ≡ y
