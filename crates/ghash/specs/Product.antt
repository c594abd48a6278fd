-- SP 800-38D, section 6.3: X • Y of two blocks. `product` has neither mark, so no other module opens it: upper crates have the laws of
-- proofs/Laws.antt, and only this crate cites what `Product.Inside` says it is. Assumes nothing.
use Rattle.std.specs.Prelude.{ℕ, List}
use Rattle.octets.specs.BigEndian.{number}
use Rattle.ghash.specs.Field.{times_h}
pub mod Inside

pub product : List ℕ → List ℕ → List ℕ
product x y = times_h (number y) x
