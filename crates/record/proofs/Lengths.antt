-- The lengths that a mode has, and the maxima of document 01 together.
-- Assumes nothing.
use mathlib.Core.Path.{◌≡◌, refl}
use mathlib.Core.Bool.{Bool, false, ◌||◌}
use mathlib.Core.List.{List}
use Prim.Native.Nat.{ℕ, ◌≤◌}
use native.Mathlib.Omega.{arith}
use borrow.Author.Tests.{ltb-false, le-ltb}
use lib.Dec.{ltb}
use lib.ListN.{length}
use Rattle.octets.proofs.Tests.{or_left, or_right}
use Rattle.keytable.specs.Row.{name_max, row_key_size}
use Rattle.modes.specs.Calls.{text_max}
use Rattle.modes.specs.Modes.{mode_of}
use Rattle.modes.proofs.Named.{each_mode}
use Rattle.record.specs.Read.{passes}
use Rattle.record.specs.Seal.{callers_max}

-- ---- by mode

pub iv_small : (u : ℕ) → (mode_of u).iv_size ≤ 64
iv_small = each_mode (λ m. m.iv_size ≤ 64) (omega arith) (omega arith)

pub key_size : (u : ℕ) → (mode_of u).key_size_lem ≡ row_key_size
key_size = each_mode (λ m. m.key_size_lem ≡ row_key_size) refl refl

-- ---- the maxima of a name's length, a plaintext's count and the caller's data: the test that sealing and opening have for 4

abbrev pub too_long : ℕ → ℕ → List ℕ → Bool
too_long k n a = passes k n || ltb callers_max (length a)

pub name_within : (k n : ℕ) → passes k n ≡ false → k ≤ name_max
name_within k n e = ltb-false name_max k (or_left (ltb name_max k) (ltb text_max n) e)

pub count_within : (k n : ℕ) → passes k n ≡ false → n ≤ text_max
count_within k n e = ltb-false text_max n (or_right (ltb name_max k) (ltb text_max n) e)

pub within_maxima : (k n : ℕ) (a : List ℕ) → too_long k n a ≡ false → (k ≤ name_max) × (n ≤ text_max) × (length a ≤ callers_max)
within_maxima k n a e =
    let passed = or_left (passes k n) (ltb callers_max (length a)) e in
    (name_within k n passed, count_within k n passed, ltb-false callers_max (length a) (or_right (passes k n) (ltb callers_max (length a)) e))

pub maxima-kept : (k n : ℕ) (a : List ℕ) → k ≤ name_max → n ≤ text_max → length a ≤ callers_max → too_long k n a ≡ false
maxima-kept k n a short few little = rw (le-ltb name_max k short, le-ltb text_max n few, le-ltb callers_max (length a) little)
