-- What two words of 64 bits stand for: a state, and a block, the first byte lowest. `columns_of` and `halves_block` are shut.
-- Assumes nothing.
use Rattle.std.specs.Prelude.{ℕ, ◌+◌, ◌*◌, ◌/◌, List, [], ◌∷◌, ◌++◌, leb, length, replicate}
use Rattle.octets.specs.Lent.{when}
use Rattle.octets.specs.Tests.{part_of}
use Rattle.aes.specs.State.{State, column, bytes_of}
use Rattle.aes_fast.specs.ByTables.{column_from}
use Rattle.aes_fast.specs.Right.{word_from}
use Rattle.aes_fast.specs.declared.halves.Halves.{Halves}
pub mod Inside

-- columns 0 and 1, and columns 2 and 3
pub columns_of : Halves → State
columns_of h = column_from h.first ∷ column_from (h.first / 4294967296) ∷ column_from h.second ∷ column_from (h.second / 4294967296) ∷ []

pub halves_block : Halves → List ℕ
halves_block h = bytes_of (columns_of h)

-- the eight bytes of one word
abbrev pub word_bytes : ℕ → List ℕ
word_bytes w = column_from w ++ column_from (w / 4294967296)

-- the words of a state
abbrev pub halves_from : State → Halves
halves_from s =
    record {
      first = word_from (column s 0) + word_from (column s 1) * 4294967296;
      second = word_from (column s 2) + word_from (column s 3) * 4294967296;
    }

-- the block from place i of a string, and zeros where no whole block lies there
unfoldable pub block_at : List ℕ → ℕ → List ℕ
block_at s i = when (leb (i + 16) (length s)) (part_of s i 16) (replicate 16 0)
