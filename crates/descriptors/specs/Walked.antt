-- The walk along a list: what each step of it gives and leaves.
-- Assumes nothing.
use Rattle.std.specs.Prelude.{◌≡◌, ℕ, ◌≤◌, List, [], ◌++◌, length, Option, MatchOption, Result, MatchResult}
use Rattle.std.specs.Borrow.{Bor}
use Rattle.std.specs.Iterator.{Count, at_most}
use Rattle.refusals.specs.declared.Refusal.{Refusal}
use Rattle.refusals.specs.declared.Refusal.TheVariants.{Layout}
use Rattle.octets.specs.Split.{behind}
use Rattle.descriptors.specs.Descriptor.{descriptor_head_size}
use Rattle.descriptors.specs.Parse.{split}
use Rattle.descriptors.specs.declared.descriptor.Descriptors.{Descriptors}

-- a list begins with the whole descriptor d, and t follows it
pub record Begins (s d t : List ℕ) : Type 0 where
  pub parsed : split s ≡ behind d (split t)
  pub joined : s ≡ d ++ t
  pub head : descriptor_head_size ≤ length d

-- some bytes begin with no whole descriptor, for which e is given and t is left
pub record BeginsNone (s : List ℕ) (e : Refusal) (t : List ℕ) : Type 0 where
  pub some : length s ≡ 0 → ⊥
  pub stop : split s ≡ ([], s)
  pub refusal : e ≡ Layout
  pub none_left : length t ≡ 0

-- the whole descriptor that the bytes left begin with, and those after it are left; where they begin none, 2, and none are left; and nothing of none
abbrev pub GivesNext : Descriptors → Option (Result (Bor (List ℕ)) Refusal) → Descriptors → Type 0
GivesNext w r v =
    MatchOption r ((length w.left.now ≡ 0) × (v ≡ w)) (λ x. MatchResult x (λ d. Begins w.left.now d.now v.left.now) (λ e. BeginsNone w.left.now e v.left.now))

abbrev pub bytes_left : Descriptors → Count
bytes_left w = at_most (length w.left.now)
