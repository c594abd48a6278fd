-- SP 800-38D, section 6.4, algorithm 2: GHASH. `ghash_from` has neither mark, as `product`.
-- Assumes nothing.
use Rattle.std.specs.Prelude.{ℕ, List, [], ◌∷◌, ◌++◌, replicate}
use Rattle.octets.specs.Blocks.{cut, chain}
use Rattle.ghash.specs.Product.{product}
pub mod Inside

-- section 6.4, step 3: with the hash key h, the state that the blocks make of the state y
pub ghash_from : List ℕ → List ℕ → List (List ℕ) → List ℕ
ghash_from h y bs = chain (λ x. product x h) y bs

-- section 6.4, step 2: Y₀
abbrev pub zero_block : List ℕ
zero_block = replicate 16 0

-- section 6.4: GHASH with the hash key h of the blocks
abbrev pub ghash : List ℕ → List (List ℕ) → List ℕ
ghash h bs = ghash_from h zero_block bs

-- SP 800-38D, section 7.1, step 5: of the associated data a and the text c, each filled with zeros to whole blocks, and the last block
abbrev pub ghash_parts : List ℕ → List ℕ → List ℕ → List ℕ → List ℕ
ghash_parts h a c last = ghash h (cut a ++ (cut c ++ (last ∷ [])))
