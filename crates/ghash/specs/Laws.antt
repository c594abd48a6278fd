-- What upper crates may use of the product and of GHASH: the laws as statements. proofs/Laws.antt proves each.
-- Assumes nothing.
use Rattle.std.specs.Prelude.{◌≡◌, ℕ, List, [], ◌∷◌, ◌++◌, length, replicate}
use Rattle.octets.specs.Bytes.{Bytes}
use Rattle.octets.specs.Xor.{xors}
use Rattle.octets.specs.Blocks.{IsBlock}
use Rattle.octets.specs.Unique.{Unique}
use Rattle.ghash.specs.Product.{product}
use Rattle.ghash.specs.Ghash.{ghash_from, ghash, ghash_parts}

-- ---- the product of any two strings is a block

abbrev pub ProductLength : Type 0
ProductLength = (x y : List ℕ) → length (product x y) ≡ 16

abbrev pub ProductBytes : Type 0
ProductBytes = (x y : List ℕ) → Bytes (product x y)

-- ---- the product of blocks as that of a field: its order, exclusive or, and its one

-- the order of two factors is free, and where three are bracketed: with both, the order of any number of factors
abbrev pub ProductCommutes : Type 0
ProductCommutes = (x y : List ℕ) → IsBlock x → IsBlock y → product x y ≡ product y x

abbrev pub ProductAssociates : Type 0
ProductAssociates = (x y z : List ℕ) → IsBlock x → IsBlock y → IsBlock z → product (product x y) z ≡ product x (product y z)

-- the product distributes over exclusive or, in each factor
abbrev pub ProductDistributesLeft : Type 0
ProductDistributesLeft = (x y z : List ℕ) → IsBlock x → IsBlock y → product (xors x y) z ≡ xors (product x z) (product y z)

abbrev pub ProductDistributesRight : Type 0
ProductDistributesRight = (x y z : List ℕ) → IsBlock x → IsBlock y → IsBlock z → product x (xors y z) ≡ xors (product x y) (product x z)

-- section 6.3 reads a block x₀ x₁ .. as the polynomial x₀ + x₁ u + ..: this one is 1
abbrev pub one : List ℕ
one = 0x80 ∷ replicate 15 0

abbrev pub ProductOneLeft : Type 0
ProductOneLeft = (x : List ℕ) → IsBlock x → product one x ≡ x

abbrev pub ProductOneRight : Type 0
ProductOneRight = (x : List ℕ) → IsBlock x → product x one ≡ x

-- ---- GHASH from a block, whatever the key and the strings that are added, is a block

abbrev pub GhashLength : Type 0
GhashLength = (h y : List ℕ) (bs : List (List ℕ)) → length y ≡ 16 → length (ghash_from h y bs) ≡ 16

abbrev pub GhashBytes : Type 0
GhashBytes = (h y : List ℕ) (bs : List (List ℕ)) → Bytes y → Bytes (ghash_from h y bs)

-- ---- along the blocks

abbrev pub GhashNil : Type 0
GhashNil = (h y : List ℕ) → ghash_from h y [] ≡ y

abbrev pub GhashStep : Type 0
GhashStep = (h y b : List ℕ) (bs : List (List ℕ)) → ghash_from h y (b ∷ bs) ≡ ghash_from h (product (xors y b) h) bs

abbrev pub GhashAppend : Type 0
GhashAppend = (h y : List ℕ) (bs cs : List (List ℕ)) → ghash_from h y (bs ++ cs) ≡ ghash_from h (ghash_from h y bs) cs

-- ---- sums of sequences

-- a sequence of blocks
pub data AreBlocks : List (List ℕ) → Type 0 where
  none : AreBlocks []
  more : {b : List ℕ} {bs : List (List ℕ)} → IsBlock b → AreBlocks bs → AreBlocks (b ∷ bs)

-- two sequences, combined block by block by exclusive or
abbrev pub combined : List (List ℕ) → List (List ℕ) → List (List ℕ)
combined [] cs = []
combined (b ∷ bs) [] = []
combined (b ∷ bs) (c ∷ cs) = xors b c ∷ combined bs cs

-- of equally many blocks, for one hash key, they hash to the exclusive or of their hashes
abbrev pub GhashCombined : Type 0
GhashCombined =
    (h : List ℕ) (bs cs : List (List ℕ)) → AreBlocks bs → AreBlocks cs → length bs ≡ length cs
    → ghash h (combined bs cs) ≡ xors (ghash h bs) (ghash h cs)

-- and they are as many blocks again, so that any number of sequences may be combined
abbrev pub CombinedLength : Type 0
CombinedLength = (bs cs : List (List ℕ)) → length bs ≡ length cs → length (combined bs cs) ≡ length bs

abbrev pub CombinedBlocks : Type 0
CombinedBlocks = (bs cs : List (List ℕ)) → AreBlocks bs → AreBlocks cs → AreBlocks (combined bs cs)

-- ---- one answer meets the statement of `ghash_parts`

abbrev pub PartsUnique : Type 0
PartsUnique = (h a b text last : List ℕ) → Unique (ghash_parts h (a ++ b) text last)
