-- The descriptors of a list, as byte strings: a parse that knows nothing of types, counts or steps.
-- Assumes nothing.
use Rattle.std.specs.Prelude.{ℕ, List, length, eqb}
use Rattle.std.proofs.Math.Option.{Option, some, none}
use Rattle.octets.specs.Lent.{when}
use Rattle.octets.specs.Split.{Split, split_by}
use Rattle.descriptors.specs.Descriptor.{size_of}

-- the whole descriptors that s begins with, and the bytes that follow them
unfoldable pub split : List ℕ → Split
split s = split_by size_of s

-- "The list ends exactly at a descriptor's end": no bytes follow the last whole one
abbrev pub parse : List ℕ → Option (List (List ℕ))
parse s = when (eqb (length (split s).1) 0) (some (split s).0) none
