-- Where a lent string lies. The kit's reference (`Bor`) is a pointer, which is a block of memory and an offset in it, the value there now, and a ghost
-- name that proofs follow the value by. Of the part of a string that a call hands back the first two are stated: equal bytes elsewhere do not meet it.
-- Assumes nothing.
use Rattle.std.specs.Prelude.{ℕ, ◌+◌, min, List, length}
use Rattle.std.specs.Borrow.{Bor}
use Rattle.octets.specs.Tests.{part_of}

-- bytes, and where the first of them lies; the offset counts bytes
pub record Placed : Type 0 where
  pub block : ℕ
  pub offset : ℕ
  pub bytes : List ℕ

abbrev pub placed : Bor (List ℕ) → Placed
placed r = record { block = r.ref_ptr.0; offset = r.ref_ptr.1; bytes = r.now }

-- the n bytes from place i, as the part of the string that they are; where i lies past the end there are none, and they lie at the end
abbrev pub part_in : Placed → ℕ → ℕ → Placed
part_in s i n = record { block = s.block; offset = s.offset + min i (length s.bytes); bytes = part_of s.bytes i n }
