-- A chain carried over a string that comes in parts of any length: a state y that has taken k bytes of its block, k below 16.
-- That closing it gives the chain along the blocks of the whole string is `close-chain` of proofs/Running.antt.
-- Assumes nothing.
use Rattle.std.specs.Prelude.{ℕ, ◌+◌, ◌-◌, ◌%◌, List, [], ◌∷◌, ◌++◌, eqb, length, get_or, set, replicate}
use Rattle.std.specs.Int.Bits.{bit_xor}
use Rattle.octets.specs.Lent.{when}
use Rattle.octets.specs.Xor.{xors}

-- a byte added to the state in place k
abbrev pub add_at : ℕ → List ℕ → ℕ → List ℕ
add_at k y b = set y k (bit_xor (get_or y k 0) b)

-- a part added to the state from place k on
abbrev pub add_from : ℕ → List ℕ → List ℕ → List ℕ
add_from k y s = xors y (replicate k 0 ++ (s ++ replicate (16 - (k + length s)) 0))

-- where the block is whole, f makes the next state
abbrev pub after_byte : (List ℕ → List ℕ) → ℕ → List ℕ → List ℕ
after_byte f k y = when (eqb k 15) (f y) y

-- the state after the bytes of s
unfoldable pub absorb : (List ℕ → List ℕ) → ℕ → List ℕ → List ℕ → List ℕ
absorb f k y [] = y
absorb f k y (b ∷ s) = absorb f ((k + 1) % 16) (after_byte f k (add_at k y b)) s

-- a block that has begun is filled with zeros
abbrev pub close : (List ℕ → List ℕ) → ℕ → List ℕ → List ℕ
close f k y = when (eqb k 0) y (f y)
