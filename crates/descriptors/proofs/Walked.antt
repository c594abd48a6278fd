-- One step of the walk along a list: where the bytes begin a whole descriptor, and where they begin none.
-- Assumes nothing.
use mathlib.Core.Path.{◌≡◌, refl, sym, ap, ◌∙◌}
use mathlib.Core.Bool.{Bool, true, false}
use mathlib.Core.List.{List, [], ◌∷◌}
use Prim.Native.Nat.{ℕ, ◌+◌, ◌≤◌, ◌<◌}
use native.Mathlib.Omega.{arith}
use borrow.Author.Tests.{eq-eqb, ne_eqb, le-leb, lt-leb}
use lib.ListN.{length, get_or, take, drop, take-append-drop}
use lib.Dec.{eqb}
use lib.Seq.{length-take-le}
use Rattle.octets.specs.BigEndian.{number_at}
use Rattle.octets.specs.Lent.{when}
use Rattle.octets.specs.Tests.{every}
use Rattle.octets.specs.Split.{behind}
use Rattle.descriptors.specs.Descriptor.{descriptor_head_size, size_said, size_of}
use Rattle.descriptors.specs.Parse.{split}
use Rattle.descriptors.specs.Walked.{Begins}
use Rattle.descriptors.proofs.Sizes.{size-whole}
use Rattle.descriptors.proofs.Split.{split_turn, split-stop}

module _ (s : List ℕ) where
  pub no_zero_byte : (get_or s 1 0 ≡ 0 → ⊥) → split s ≡ ([], s)
  unfolding size_of
  no_zero_byte f = split-stop s (rw (ne_eqb (get_or s 1 0) 0 f))

  pub too_short : length s < descriptor_head_size + number_at 2 s 2 → split s ≡ ([], s)
  unfolding size_of size_said
  too_short h = split-stop s (rw (lt-leb (descriptor_head_size + number_at 2 s 2) (length s) h) (none (eqb (get_or s 1 0) 0)))
    where
      none : (b : Bool) → when (every (b ∷ false ∷ [])) (descriptor_head_size + number_at 2 s 2) 0 ≡ 0
      none true = refl
      none false = refl

  pub begins_whole : (n : ℕ) (d t : List ℕ) → get_or s 1 0 ≡ 0 → n ≡ descriptor_head_size + number_at 2 s 2 → n ≤ length s → d ≡ take n s → t ≡ drop n s
      → Begins s d t
  unfolding size_said
  begins_whole n d t z e fits front back =
      let is : size_of s ≡ n = size-whole s (eq-eqb _ _ z) (le-leb _ _ (omega (arith, e, fits))) ∙ sym e in
      rw (front, back) (record {
        parsed = split_turn s (λ none. omega arith) ∙ ap (λ (m : ℕ). behind (take m s) (split (drop m s))) is;
        joined = sym (take-append-drop n s);
        head = omega (arith, length-take-le n s fits);
      })
