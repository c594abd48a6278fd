-- The descriptors of a list: the parse turn by turn, and that it finds exactly the descriptors whose bytes joined are the list.
-- Assumes nothing.
use mathlib.Core.Path.{◌≡◌, refl, sym, ap, ap₂, ◌∙◌}
use mathlib.Core.Bool.{Bool, true, false}
use mathlib.Core.List.{List, [], ◌∷◌, ◌++◌, flatten, append-nil}
use mathlib.Core.Option.{some, none}
use Prim.Native.Nat.{ℕ, ◌≤◌}
use native.Mathlib.Omega.{arith}
use borrow.Author.Tests.{eqb-true, eqb-false}
use lib.ListN.{length, take, drop}
use lib.Dec.{eqb}
use Rattle.octets.specs.Lent.{when}
use Rattle.octets.specs.Tests.{all}
use Rattle.octets.specs.Split.{behind}
use Rattle.octets.proofs.Split as o
use Rattle.descriptors.specs.Descriptor.{is_descriptor, size_of}
use Rattle.descriptors.specs.Parse.{split, parse}
use Rattle.descriptors.proofs.Sizes.{said_least, size_bounds, size-nothing, descriptor-parts, descriptor_size, size_descriptor}

-- ---- the laws of parts that tell their own size, of descriptors

size_within : (s : List ℕ) → size_of s ≤ length s
size_within s = go (eqb (size_of s) 0) refl
  where
    go : (t : Bool) → eqb (size_of s) 0 ≡ t → size_of s ≤ length s
    go true e = omega (arith, eqb-true (size_of s) 0 e)
    go false e = (size_bounds s (eqb-false (size_of s) 0 e)).1

pub split_turn : (s : List ℕ) → (size_of s ≡ 0 → ⊥) → split s ≡ behind (take (size_of s) s) (split (drop (size_of s) s))
unfolding split
split_turn = o.split_turn size_of size_within

pub split-stop : (s : List ℕ) → size_of s ≡ 0 → split s ≡ ([], s)
unfolding split
split-stop = o.split-stop size_of size_within

-- ---- what a parse finds

pub split_joined : (s : List ℕ) → flatten (split s).0 ++ (split s).1 ≡ s
unfolding split
split_joined = o.split_joined size_of size_within

pub split-whole : (s : List ℕ) → all is_descriptor (split s).0 ≡ true
unfolding split
split-whole = o.split-whole size_of size_within is_descriptor size_descriptor

pub split-left : (s : List ℕ) → size_of (split s).1 ≡ 0
unfolding split
split-left = o.split-left size_of size_within

descriptor-some : (d : List ℕ) → is_descriptor d ≡ true → length d ≡ 0 → ⊥
descriptor-some d e z = let (zero_byte, long) = descriptor-parts d e in omega (arith, said_least d)

-- whole descriptors one after the other are found again
pub split-flatten : (ds : List (List ℕ)) → all is_descriptor ds ≡ true → split (flatten ds) ≡ (ds, [])
unfolding split
split-flatten ds e =
    ap split (sym (append-nil (flatten ds)))
    ∙ o.split_parts size_of size_within is_descriptor (λ d rest whole. (descriptor_size d rest whole, descriptor-some d whole)) ds [] e (size-nothing [] (omega arith))

empty : (l : List ℕ) → length l ≡ 0 → l ≡ []
empty [] e = refl
empty (x ∷ l) e = absurd (omega arith)

pub parse-split : (s : List ℕ) (ds : List (List ℕ)) → parse s ≡ some ds → split s ≡ (ds, [])
parse-split s ds e = go (eqb (length (split s).1) 0) refl e
  where
    go : (t : Bool) → eqb (length (split s).1) 0 ≡ t → when t (some (split s).0) none ≡ some ds → split s ≡ (ds, [])
    go true h q = let first : (split s).0 ≡ ds = cc in ap₂ (λ (a : List (List ℕ)) (b : List ℕ). (a, b)) first (empty (split s).1 (eqb-true _ _ h))
    go false h q = let z : ◌≡◌ {A = ℕ} 0 1 = cc in absurd (omega arith)

pub split-parse : (s : List ℕ) (ds : List (List ℕ)) → split s ≡ (ds, []) → parse s ≡ some ds
split-parse s ds e = rw e
