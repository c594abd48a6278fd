-- `aes_field::inv_sbox::unaffine` meets its contract: one computed test over all bytes says that the code follows the rule.
-- Assumes nothing.
use Prim.Native.Nat.{ℕ, ◌*◌, ◌/◌, ◌%◌, ◌<◌}
use native.Mathlib.Omega.{arith}
use mathlib.Core.Path.{◌≡◌}
use lib.Dec.{T}
use lib.Bits.{bit_xor}
use Rattle.aes_field.specs.Field.{unaffine}
use Rattle.aes_field.proofs.Computed.{agree, agree_at}
use Rattle.aes_field.proofs.inv_sbox.unaffine.Goals as goal

-- a byte turned by three places, with a constant
abbrev turned : ℕ → ℕ → ℕ → ℕ → ℕ → ℕ
turned p q r n a = bit_xor (bit_xor (bit_xor (a * 257 / p) (a * 257 / q)) (a * 257 / r) % 256) n

turned-is : (p q r n a : ℕ) → a < 256 → T (agree (turned p q r n) unaffine 256) → turned p q r n a ≡ unaffine a
turned-is p q r n a h t = agree_at (turned p q r n) unaffine 256 t a h

pub returns : goal.returns
unfolding unaffine
returns c = turned-is _ _ _ _ _ (omega arith) tt
