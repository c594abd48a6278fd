-- The laws of specs/MeaningLaws.antt.
-- Assumes nothing.
use mathlib.Core.Path.{◌≡◌, refl, sym, ap, ◌∙◌}
use mathlib.Core.Bool.{Bool, true, ◌&&◌}
use mathlib.Core.List.{List, [], ◌∷◌}
use Prim.Native.Nat.{ℕ, zero, suc, ◌≤◌}
use native.Mathlib.Omega.{arith}
use lib.Dec.{leb}
use lib.ListN.{length, get_or, replicate}
use borrow.Author.Tests.{leb-true}
use Rattle.octets.proofs.Lent.{length_over}
use Rattle.wording.proofs.Told.{text_unique}
use Rattle.octets.proofs.Tests.{and_left, and_right}
use Rattle.wording.specs.Meaning.{meanings, no_meaning, meaning_of, line_max, line_of}
use Rattle.wording.specs.MeaningLaws.{LineFits, LineUnique}

abbrev within : List ℕ → Bool
within s = leb (length s) line_max

abbrev all_within : List (List ℕ) → Bool
all_within [] = true
all_within (s ∷ ss) = within s && all_within ss

entry_within : (ss : List (List ℕ)) (n : ℕ) (d : List ℕ) → all_within ss ≡ true → within d ≡ true → within (get_or ss n d) ≡ true
entry_within [] n d all e = e
entry_within (s ∷ ss) zero d all e = and_left (within s) (all_within ss) all
entry_within (s ∷ ss) (suc n) d all e = entry_within ss n d (and_right (within s) (all_within ss) all) e

meaning_within : (n : ℕ) → length (meaning_of n) ≤ line_max
unfolding meaning_of
meaning_within n = leb-true (length (get_or meanings n no_meaning)) line_max (entry_within meanings n no_meaning refl refl)

pub line_fits : LineFits
line_fits n size bytes e = (
  omega (arith, meaning_within n, ap (λ (a : ℕ × List ℕ). a.0) e),
  sym (ap (λ (a : ℕ × List ℕ). length a.1) e) ∙ length_over (meaning_of n) (replicate line_max 0),
)

pub line_unique : LineUnique
line_unique n = text_unique (line_of (meaning_of n))
