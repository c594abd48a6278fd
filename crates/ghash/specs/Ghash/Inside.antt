-- What GHASH is, for this crate's own proofs.
-- Assumes nothing.
use Rattle.std.specs.Prelude.{◌≡◌, refl, ℕ, List}
use Rattle.octets.specs.Blocks.{chain}
use Rattle.ghash.specs.Product.{product}
use Rattle.ghash.specs.Ghash.{ghash_from}

pub ghash_is : (h y : List ℕ) (bs : List (List ℕ)) → ghash_from h y bs ≡ chain (λ x. product x h) y bs
unfolding ghash_from
ghash_is h y bs = refl
