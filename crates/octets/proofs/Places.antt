-- What is known of a part's place and bytes, of its bytes alone.
-- Assumes nothing.
use mathlib.Core.Path.{◌≡◌, ap}
use Rattle.octets.specs.Places.{Placed}

pub its_bytes : {a b : Placed} → a ≡ b → a.bytes ≡ b.bytes
its_bytes e = ap (λ (p : Placed). p.bytes) e
