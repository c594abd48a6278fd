-- The size of the descriptor that a list begins with: its bounds, and that it depends on the descriptor's own bytes alone.
-- Assumes nothing.
use mathlib.Core.Path.{◌≡◌, refl, sym, ◌∙◌}
use mathlib.Core.Bool.{Bool, true, false}
use mathlib.Core.List.{List, [], ◌∷◌, ◌++◌}
use Prim.Native.Nat.{ℕ, ◌≤◌, ◌<◌}
use native.Mathlib.Omega.{arith}
use borrow.Author.Tests.{eqb-true, leb-true, eq-eqb, le-leb, lt-leb}
use lib.ListN.{length, get_or, take, length-append, get_or-append}
use lib.Seq.{length-take-le, get_or-take}
use lib.Dec.{eqb, leb}
use Rattle.octets.specs.Lent.{when}
use Rattle.octets.specs.Tests.{every}
use Rattle.octets.proofs.Tests.{every_at}
use Rattle.descriptors.specs.Descriptor.{descriptor_head_size, size_said, is_descriptor, size_of}

-- a list begins with a whole descriptor, or with none
pub size-whole : (s : List ℕ) → eqb (get_or s 1 0) 0 ≡ true → leb (size_said s) (length s) ≡ true → size_of s ≡ size_said s
unfolding size_of
size-whole s z fits = rw (z, fits)

-- ---- the bounds

pub said_least : (s : List ℕ) → descriptor_head_size ≤ size_said s
unfolding size_said
said_least s = omega arith

pub size-parts : (s : List ℕ) → (size_of s ≡ 0 → ⊥) → (size_of s ≡ size_said s) × ((get_or s 1 0 ≡ 0) × (size_said s ≤ length s))
unfolding size_of
size-parts s f = go (eqb (get_or s 1 0) 0) (leb (size_said s) (length s)) refl refl f
  where
    go : (a b : Bool) → eqb (get_or s 1 0) 0 ≡ a → leb (size_said s) (length s) ≡ b → (when (every (a ∷ b ∷ [])) (size_said s) 0 ≡ 0 → ⊥)
        → (when (every (a ∷ b ∷ [])) (size_said s) 0 ≡ size_said s) × ((get_or s 1 0 ≡ 0) × (size_said s ≤ length s))
    go true true z fits f = (refl, (eqb-true _ _ z, leb-true _ _ fits))
    go true false z fits f = absurd (f refl)
    go false b z fits f = absurd (f refl)

pub size_bounds : (s : List ℕ) → (size_of s ≡ 0 → ⊥) → (descriptor_head_size ≤ size_of s) × (size_of s ≤ length s)
size_bounds s f =
    let (is, (zero_byte, fits)) = size-parts s f in (omega (arith, said_least s), omega arith)

pub size-nothing : (s : List ℕ) → length s < descriptor_head_size → size_of s ≡ 0
unfolding size_of
size-nothing s h = rw (lt-leb (size_said s) (length s) (omega (arith, said_least s))) (go (eqb (get_or s 1 0) 0))
  where
    go : (a : Bool) → when (every (a ∷ false ∷ [])) (size_said s) 0 ≡ 0
    go true = refl
    go false = refl

-- ---- one descriptor, with whatever follows it

-- the first four bytes decide what a descriptor says of its size
said_same : (s t : List ℕ) → get_or s 2 0 ≡ get_or t 2 0 → get_or s 3 0 ≡ get_or t 3 0 → size_said s ≡ size_said t
unfolding size_said
said_same s t e f = rw (e, f)

pub descriptor-parts : (d : List ℕ) → is_descriptor d ≡ true → (get_or d 1 0 ≡ 0) × (length d ≡ size_said d)
unfolding is_descriptor
descriptor-parts d e =
    (eqb-true _ _ (every_at (eqb (get_or d 1 0) 0 ∷ eqb (length d) (size_said d) ∷ []) 0 e), eqb-true _ _ (every_at (eqb (get_or d 1 0) 0 ∷ eqb (length d) (size_said d) ∷ []) 1 e))

pub descriptor_size : (d t : List ℕ) → is_descriptor d ≡ true → size_of (d ++ t) ≡ length d
descriptor_size d t e =
    let (zero_byte, long) = descriptor-parts d e in
    let four : descriptor_head_size ≤ length d = omega (arith, said_least d) in
    let said : size_said (d ++ t) ≡ size_said d = said_same (d ++ t) d (get_or-append d t 0 2 (omega arith)) (get_or-append d t 0 3 (omega arith)) in
    let fits : size_said (d ++ t) ≤ length (d ++ t) = omega (arith, length-append d t) in
    size-whole (d ++ t) (eq-eqb _ _ (get_or-append d t 0 1 (omega arith) ∙ zero_byte)) (le-leb _ _ fits) ∙ said ∙ sym long

pub size_descriptor : (s : List ℕ) → (size_of s ≡ 0 → ⊥) → is_descriptor (take (size_of s) s) ≡ true
unfolding is_descriptor
size_descriptor s f =
    let (is, (zero_byte, fits)) = size-parts s f in
    let (four, inside) = size_bounds s f in
    let n = size_of s in
    let said : size_said (take n s) ≡ size_said s = said_same (take n s) s (get_or-take n s 2 0 (omega arith)) (get_or-take n s 3 0 (omega arith)) in
    rw (eq-eqb _ _ (get_or-take n s 1 0 (omega arith) ∙ zero_byte), eq-eqb _ _ (length-take-le n s inside ∙ is ∙ sym said))
