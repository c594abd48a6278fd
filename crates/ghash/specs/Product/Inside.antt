-- What the product is, for this crate's own proofs.
-- Assumes nothing.
use Rattle.std.specs.Prelude.{◌≡◌, refl, ℕ, List}
use Rattle.octets.specs.BigEndian.{number}
use Rattle.ghash.specs.Field.{times_h}
use Rattle.ghash.specs.Product.{product}

pub product_is : (x y : List ℕ) → product x y ≡ times_h (number y) x
unfolding product
product_is x y = refl
