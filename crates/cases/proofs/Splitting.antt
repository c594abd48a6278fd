-- std's parts of a list are the specification's, so that its words are what the library's split gives.
-- Assumes nothing.
use mathlib.Core.Path.{◌≡◌, refl, ap}
use mathlib.Core.Bool.{Bool, true, false, ◌&&◌}
use mathlib.Core.List.{List, [], ◌∷◌}
use Prim.Native.Nat.{ℕ, zero, suc}
use native.Mathlib.Omega.{arith}
use lib.Dec.{eqb}
use lib.ListN.{length, get_or}
use Rattle.std.specs.Prelude.{Option, Some, None, option_map, unwrap_or, slice_get}
use Rattle.std.specs.List.{slice_split, count_by, list_all}
use Rattle.std.proofs.lemmas.List.Splits.{length-slice_split}
use Rattle.std.specs.Borrow.{Bor}
use Rattle.octets.specs.Tests.{all}
use Rattle.cases.specs.Words.{up_to, parts_after, parts_by}

pub split_parts : (c : ℕ) (s : List ℕ) → slice_split (λ x. eqb x c) s ≡ parts_by c s
unfolding up_to parts_after
split_parts c [] = refl
split_parts c (x ∷ s) = go (eqb x c) refl (split_parts c s)
  where
    go : (t : Bool) → eqb x c ≡ t → slice_split (λ y. eqb y c) s ≡ parts_by c s → slice_split (λ y. eqb y c) (x ∷ s) ≡ parts_by c (x ∷ s)
    go true e rest = rw (e, rest)
    go false e rest = rw (e, rest)

pub count_parts : (c : ℕ) (s : List ℕ) → count_by (λ x. eqb x c) s ≡ length (parts_after c s)
count_parts c s = omega (arith, length-slice_split (λ x. eqb x c) s, ap length (split_parts c s))

-- an element by std's `get`, or a default
pub get_or_get : {A : Type 0} (xs : List A) (i : ℕ) (d : A) → unwrap_or (slice_get xs i) d ≡ get_or xs i d
get_or_get [] i d = refl
get_or_get (x ∷ xs) zero d = refl
get_or_get (x ∷ xs) (suc i) d = get_or_get xs i d

pub unwrapped_now : (r : Option (Bor (List ℕ))) (d : Bor (List ℕ)) → (unwrap_or r d).now ≡ unwrap_or (option_map (λ x. x.now) r) d.now
unwrapped_now None d = refl
unwrapped_now (Some x) d = refl

-- the two words for a test of every element
pub all_list : {A : Type 0} (p : A → Bool) (s : List A) → list_all p s ≡ all p s
unfolding all
all_list p [] = refl
all_list p (x ∷ s) = ap (λ (t : Bool). p x && t) (all_list p s)
