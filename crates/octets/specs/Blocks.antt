-- Strings in blocks of 16 bytes, as SP 800-38C and SP 800-38D cut them, and a chain along them.
-- Assumes nothing.
use Rattle.std.specs.Prelude.{◌≡◌, ℕ, zero, suc, ◌+◌, ◌-◌, ◌/◌, List, [], ◌∷◌, ◌++◌, length, take, drop, replicate}
use Rattle.octets.specs.Bytes.{Bytes}
use Rattle.octets.specs.Xor.{xors}

-- a block of bytes
pub record IsBlock (b : List ℕ) : Type 0 where
  pub size : length b ≡ 16
  pub bytes : Bytes b

-- how many blocks n bytes take
abbrev pub blocks : ℕ → ℕ
blocks n = (n + 15) / 16

-- a block or less, with zeros after it
abbrev pub fill : List ℕ → List ℕ
fill b = b ++ replicate (16 - length b) 0

-- the first m blocks of s
abbrev pub cut_into : ℕ → List ℕ → List (List ℕ)
cut_into zero s = []
cut_into (suc m) s = fill (take 16 s) ∷ cut_into m (drop 16 s)

-- s with as few zeros after it as make whole blocks, in blocks
unfoldable pub cut : List ℕ → List (List ℕ)
cut s = cut_into (blocks (length s)) s

-- each block is added to the state, and f makes the next state: CBC-MAC where f is the cipher, GHASH where it is the product with the hash key
abbrev pub chain : (List ℕ → List ℕ) → List ℕ → List (List ℕ) → List ℕ
chain f y [] = y
chain f y (b ∷ bs) = chain f (f (xors y b)) bs
