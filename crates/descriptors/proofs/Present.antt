-- The walk along a list yields its whole descriptors, and a refusal where bytes are left; so that any of them has a type where the list holds it.
-- Assumes nothing.
use mathlib.Core.Path.{◌≡◌, refl, sym, ap}
use mathlib.Core.Bool.{Bool, true, false, ◌||◌}
use mathlib.Core.List.{List, [], ◌∷◌}
use Prim.Native.Nat.{ℕ}
use native.Mathlib.Omega.{arith}
use borrow.Author.Tests.{ne_eqb}
use lib.Dec.{eqb}
use lib.ListN.{length}
use denote.Ref.{Bor}
use Rattle.std.specs.Prelude.{Option, Some, None, Result, Ok, Err}
use Rattle.std.specs.List.{list_any}
use Rattle.std.proofs.lemmas.Iterator.{YieldsList}
use Rattle.std.proofs.lemmas.Iterator.Consumers.{YieldsList-from_shown}
use Rattle.octets.specs.Lent.{when}
use Rattle.octets.specs.Split.{Split}
use Rattle.refusals.specs.declared.Refusal.{Refusal}
use Rattle.descriptors.specs.Descriptor.{type_of}
use Rattle.descriptors.specs.Parse.{split}
use Rattle.descriptors.specs.Walked.{Begins, BeginsNone, GivesNext}
use Rattle.descriptors.specs.Labels.{present, holds}
use Rattle.descriptors.specs.declared.descriptor.Descriptors.{Descriptors}
use Rattle.descriptors.proofs.Sizes.{size-nothing}
use Rattle.descriptors.proofs.Split.{split-stop}

-- an item's bytes, and none of a refusal
abbrev pub bytes_in : Result (Bor (List ℕ)) Refusal → Option (List ℕ)
bytes_in (Ok d) = Some d.now
bytes_in (Err e) = None

-- the items that a parse shows
abbrev refused_after : List ℕ → List (Option (List ℕ))
refused_after left = when (eqb (length left) 0) [] (None ∷ [])

unfoldable pub items_of : List (List ℕ) → List ℕ → List (Option (List ℕ))
items_of [] left = refused_after left
items_of (d ∷ ds) left = Some d ∷ items_of ds left

abbrev pub items_left : List ℕ → List (Option (List ℕ))
items_left s = items_of (split s).0 (split s).1

at_end : (s : List ℕ) → length s ≡ 0 → items_left s ≡ []
unfolding items_of
at_end s end = rw (split-stop s (size-nothing s (omega arith)), end)

given : (s d t : List ℕ) → Begins s d t → items_left s ≡ Some d ∷ items_left t
unfolding items_of
given s d t h = ap (λ (p : Split). items_of p.0 p.1) h.parsed

refused : (s t : List ℕ) (e : Refusal) → BeginsNone s e t → items_left s ≡ None ∷ items_left t
unfolding items_of
refused s t e h = rw (h.stop, ne_eqb (length s) 0 h.some) (ap (λ (l : List (Option (List ℕ))). None ∷ l) (sym (at_end t h.none_left)))

-- so the walk yields them
pub walk_yields : (w : Descriptors) → YieldsList GivesNext bytes_in w (items_left w.left.now)
walk_yields w =
    YieldsList-from_shown GivesNext bytes_in (λ (v : Descriptors). items_left v.left.now) (λ t u h. ap length (at_end t.left.now h.0)) turn w
  where
    turn : (t : Descriptors) (x : Result (Bor (List ℕ)) Refusal) (u : Descriptors) → GivesNext t (Some x) u → items_left t.left.now ≡ bytes_in x ∷ items_left u.left.now
    turn t (Ok d) u h = given t.left.now d.now u.left.now h
    turn t (Err e) u h = refused t.left.now u.left.now e h

-- whether an item has the type t
abbrev pub has_type : ℕ → Option (List ℕ) → Bool
has_type t (Some d) = eqb (type_of d) t
has_type t None = false

any_items : (t : ℕ) (ds : List (List ℕ)) (left : List ℕ) → list_any (has_type t) (items_of ds left) ≡ present t ds
unfolding items_of present
any_items t [] left = go (eqb (length left) 0)
  where
    go : (b : Bool) → list_any (has_type t) (when b [] (None ∷ [])) ≡ false
    go true = refl
    go false = refl
any_items t (d ∷ ds) left = ap (λ (b : Bool). eqb (type_of d) t || b) (any_items t ds left)

pub any_present : (t : ℕ) (s : List ℕ) → list_any (has_type t) (items_left s) ≡ holds t s
any_present t s = any_items t (split s).0 (split s).1
