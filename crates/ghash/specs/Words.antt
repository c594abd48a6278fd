-- What the words of the code stand for.
-- Assumes nothing.
use Rattle.std.specs.Prelude.{ℕ, ◌+◌, ◌*◌, ◌^◌, List, ◌++◌}
use Rattle.octets.specs.BigEndian.{be}
use Rattle.ghash.specs.declared.words.Wide.{Wide}

-- a 128-bit number in two words
abbrev pub val : Wide → ℕ
val w = w.high * 2 ^ 64 + w.low

-- the same as a block
unfoldable pub block_of : Wide → List ℕ
block_of w = be 8 w.high ++ be 8 w.low
