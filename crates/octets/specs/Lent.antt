-- Document 01, "Numbers given back": the number of a call, and what a lent output then holds.
-- Assumes nothing.
use Rattle.std.specs.Prelude.{ℕ, Bool, true, false, not, List, [], ◌∷◌, ◌++◌, eqb, length, take, drop}

abbrev pub when : {A : Type 0} → Bool → A → A → A
when true a b = a
when false a b = b

-- a list of tests: numbers, each with whether it applies
abbrev pub Tests : Type 0
Tests = List (ℕ × Bool)

-- "The lowest that applies is given, and no other": the first that applies of tests whose numbers rise (`rises` of specs/Lowest.antt), and else 0
abbrev pub lowest : Tests → ℕ
lowest [] = 0
lowest (n ∷ ns) = when n.1 n.0 (lowest ns)

-- whether a lent string has another length than n
abbrev pub is_not : ℕ → List ℕ → Bool
is_not n s = not (eqb (length s) n)

-- s written over the front of d, as far as d reaches
abbrev pub over : List ℕ → List ℕ → List ℕ
over s d = take (length d) s ++ drop (length s) d

-- what is lent to be stored to, after the number n: the new value after 0 alone, and after any other what it held before
abbrev pub kept : {A : Type 0} → ℕ → A → A → A
kept n new before = when (eqb n 0) new before

-- a number, and the lent output after it: the result over its front after 0, and after any other as it was before
abbrev pub answer : ℕ → List ℕ → List ℕ → ℕ × List ℕ
answer n result before = (n, kept n (over result before) before)
