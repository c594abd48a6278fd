-- The laws of specs/NumberLaws.antt.
-- Assumes nothing.
use mathlib.Core.Path.{◌≡◌, refl}
use mathlib.Core.Bool.{Bool, true, false}
use Prim.Native.Nat.{ℕ, min}
use native.Mathlib.Omega.{arith}
use lib.ListN.{length}
use borrow.Author.Tests.{ne_eqb}
use Rattle.std.specs.Prelude.{Some, None}
use Rattle.octets.proofs.Unique.{unique}
use Rattle.wording.specs.Decimal.{decimal, value_of}
use Rattle.wording.specs.Number.{greatest, is_decimal, number_read}
use Rattle.wording.specs.NumberLaws.{NumberExactly, DecimalRead, NumberUnique}
use Rattle.wording.proofs.DecimalDigits.{decimal_value, decimal_are, decimal_first}

pub number_exactly : NumberExactly
unfolding number_read
number_exactly word n = (to (is_decimal word) refl, from)
  where
    to : (t : Bool) → is_decimal word ≡ t → number_read word ≡ Some n → (is_decimal word ≡ true) × (n ≡ min (value_of word) greatest)
    to true e h = let is : Some (min (value_of word) greatest) ≡ Some n = rw e at h in (e, cc)
    to false e h = let never : None ≡ Some n = rw e at h in let z : ◌≡◌ {A = ℕ} 0 1 = cc in absurd (omega arith)

    from : (is_decimal word ≡ true) × (n ≡ min (value_of word) greatest) → number_read word ≡ Some n
    from (e, is) = rw (e, is)

pub decimal_is : (n : ℕ) → is_decimal (decimal n) ≡ true
unfolding is_decimal
decimal_is n = rw (ne_eqb (length (decimal n)) 0 (λ e. omega (arith, (decimal_first n).0)), decimal_are n)

pub decimal_read : DecimalRead
decimal_read n small = (number_exactly (decimal n) n).1 (decimal_is n, rw (decimal_value n) (omega arith))

pub number_unique : NumberUnique
number_unique word = unique (number_read word)
