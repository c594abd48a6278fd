-- What the test, the count and a step make of the bytes of a list: of one whole descriptor and what follows it, of bytes that begin none, and of the end.
-- Assumes nothing.
use mathlib.Core.Path.{◌≡◌, refl, sym, ap, ◌∙◌}
use mathlib.Core.Bool.{Bool, true, false, ◌&&◌, not, and-false, false≢true}
use mathlib.Core.List.{List, [], ◌∷◌, flatten}
use Prim.Native.Nat.{ℕ, ◌+◌, ◌≤◌}
use native.Mathlib.Nat.{zero-add}
use native.Mathlib.Omega.{arith}
use borrow.Author.Tests.{ne_eqb}
use lib.ListN.{length, length-append}
use lib.Dec.{eqb, leb}
use Rattle.refusals.specs.declared.Refusal.{Refusal}
use Rattle.octets.specs.Lent.{when}
use Rattle.octets.specs.Tests.{every, all}
use Rattle.octets.proofs.Tests.{and_left, and_right, every-not}
use Rattle.descriptors.specs.Descriptor.{type_of, is_reserved, is_refused, is_descriptor}
use Rattle.octets.specs.Split.{Split, behind}
use Rattle.descriptors.specs.Parse.{split}
use Rattle.descriptors.specs.Tested.{rises_from, admits, split_tests, split_ok, unreserved, count_of}
use Rattle.descriptors.specs.Steps.{first_shown, split_step}
use Rattle.descriptors.specs.Walked.{Begins, BeginsNone}
use Rattle.descriptors.proofs.Sizes.{said_least, descriptor-parts, size-nothing}
use Rattle.descriptors.proofs.Split.{split-stop, split_joined, split-whole}

-- the type is at least the least, and admitted
abbrev pub type_admitted : Bool → Bool → ℕ → ℕ → Bool
type_admitted label strict least kind = leb least kind && not (is_refused label strict kind)

-- ---- a descriptor of this type, and what follows it

module _ (label strict : Bool) (d : List ℕ) (p : Split) where
  ok_turn : (least : ℕ) → type_admitted label strict least (type_of d) ≡ true → split_ok label strict least (behind d p) ≡ split_ok label strict (type_of d + 1) p
  unfolding split_ok rises_from all
  ok_turn least e = rw (and_left (leb least (type_of d)) (admits label strict d) e, and_right (leb least (type_of d)) (admits label strict d) e)

  ok-refused : (least : ℕ) → type_admitted label strict least (type_of d) ≡ false → split_ok label strict least (behind d p) ≡ false
  unfolding split_ok rises_from all
  ok-refused least e = go (leb least (type_of d)) (admits label strict d) e
    where
      go : (a b : Bool) → (a && b) ≡ false
          → every (eqb (length p.1) 0 ∷ (a && rises_from (type_of d + 1) p.0) ∷ (b && all (admits label strict) p.0) ∷ []) ≡ false
      go true true h = absurd (false≢true (sym h))
      go true false h = every-not (eqb (length p.1) 0 ∷ rises_from (type_of d + 1) p.0 ∷ false ∷ []) 2 refl
      go false b h = every-not (eqb (length p.1) 0 ∷ false ∷ (b && all (admits label strict) p.0) ∷ []) 1 refl

counted-one : (label : Bool) (d : List ℕ) (ds : List (List ℕ)) → length (unreserved label (d ∷ ds)) ≡ when (is_reserved label (type_of d)) 0 1 + length (unreserved label ds)
unfolding unreserved
counted-one label d ds = go (is_reserved label (type_of d))
  where
    go : (t : Bool) → length (when t (unreserved label ds) (d ∷ unreserved label ds)) ≡ when t 0 1 + length (unreserved label ds)
    go true = sym (zero-add _)
    go false = omega arith

-- ---- a whole descriptor d, and what follows it

module _ (label strict : Bool) {s d t : List ℕ} (begins : Begins s d t) where
  pub test_turn : (least : ℕ) → type_admitted label strict least (type_of d) ≡ true → split_ok label strict least (split s) ≡ split_ok label strict (type_of d + 1) (split t)
  test_turn least e = ap (split_ok label strict least) begins.parsed ∙ ok_turn label strict d (split t) least e

  pub test-refused : (least : ℕ) → type_admitted label strict least (type_of d) ≡ false → split_ok label strict least (split s) ≡ false
  test-refused least e = ap (split_ok label strict least) begins.parsed ∙ ok-refused label strict d (split t) least e

  pub step-one : (at : ℕ) → is_reserved label (type_of d) ≡ false → split_step label strict at (split s) ≡ (0, at ∷ (at + length d) ∷ [])
  unfolding split_step first_shown
  step-one at e = rw (begins.parsed, e, and-false strict)

  pub step-refused : (at : ℕ) → is_reserved label (type_of d) ≡ true → strict ≡ true → split_step label strict at (split s) ≡ (2, [])
  unfolding split_step first_shown
  step-refused at e f = rw (begins.parsed, e, f)

  pub step_turn : (at : ℕ) → is_reserved label (type_of d) ≡ true → strict ≡ false → split_step label strict at (split s) ≡ split_step label strict (at + length d) (split t)
  unfolding split_step first_shown
  step_turn at e f = rw (begins.parsed, e, f) (ap (λ (b : Bool). first_shown label b (at + length d) (split t).0 (split t).1) f)

pub count_turn : (label : Bool) {s d t : List ℕ} → Begins s d t
    → length (unreserved label (split s).0) ≡ when (is_reserved label (type_of d)) 0 1 + length (unreserved label (split t).0)
count_turn label {s} {d} {t} begins = ap (λ (p : Split). length (unreserved label p.0)) begins.parsed ∙ counted-one label d (split t).0

-- one that is not reserved adds 1, and a reserved one nothing
pub counts_on : (label : Bool) {s d t : List ℕ} → Begins s d t → is_reserved label (type_of d) ≡ false
    → length (unreserved label (split s).0) ≡ 1 + length (unreserved label (split t).0)
counts_on label begins free = count_turn label begins ∙ rw free

pub counts_over : (label : Bool) {s d t : List ℕ} → Begins s d t → is_reserved label (type_of d) ≡ true
    → length (unreserved label (split s).0) ≡ length (unreserved label (split t).0)
counts_over label begins kept = count_turn label begins ∙ rw kept (zero-add _)

-- ---- bytes that begin none

module _ (label strict : Bool) {s t : List ℕ} {e : Refusal} (none : BeginsNone s e t) where
  pub test-stop : (least : ℕ) → split_ok label strict least (split s) ≡ false
  unfolding split_ok
  test-stop least = rw none.stop (every-not (split_tests label strict least ([], s)) 0 (ne_eqb (length s) 0 none.some))

  pub step-stop : (at : ℕ) → split_step label strict at (split s) ≡ (2, [])
  unfolding split_step first_shown
  step-stop at = rw (none.stop, ne_eqb (length s) 0 none.some)

-- ---- the end

module _ (s : List ℕ) (end : length s ≡ 0) where
  at_end : split s ≡ ([], s)
  at_end = split-stop s (size-nothing s (omega arith))

  pub test_end : (label strict : Bool) (least : ℕ) → split_ok label strict least (split s) ≡ true
  unfolding split_ok rises_from all
  test_end label strict least = rw (at_end, end)

  pub count_end : (label : Bool) → length (unreserved label (split s).0) ≡ 0
  unfolding unreserved
  count_end label = rw at_end

  pub step_end : (label strict : Bool) (at : ℕ) → split_step label strict at (split s) ≡ (0, [])
  unfolding split_step first_shown
  step_end label strict at = rw (at_end, end)

-- ---- no more are counted than a list has bytes

counted-within : (label : Bool) (ds : List (List ℕ)) → length (unreserved label ds) ≤ length ds
unfolding unreserved
counted-within label [] = omega arith
counted-within label (d ∷ ds) = go (is_reserved label (type_of d)) (counted-within label ds)
  where
    go : (r : Bool) → length (unreserved label ds) ≤ length ds → length (when r (unreserved label ds) (d ∷ unreserved label ds)) ≤ length (d ∷ ds)
    go true h = omega (arith, h)
    go false h = omega (arith, h)

many-within : (ds : List (List ℕ)) → all is_descriptor ds ≡ true → length ds ≤ length (flatten ds)
unfolding all flatten
many-within [] e = omega arith
many-within (d ∷ ds) e =
    let (zero_byte, long) = descriptor-parts d (and_left (is_descriptor d) (all is_descriptor ds) e) in
    omega (arith, said_least d, many-within ds (and_right (is_descriptor d) (all is_descriptor ds) e), length-append d (flatten ds))

pub count_within : (label : Bool) (s : List ℕ) → count_of label s ≤ length s
count_within label s =
    omega (
      arith,
      counted-within label (split s).0,
      many-within (split s).0 (split-whole s),
      simp length-append at (ap length (split_joined s)),
    )
