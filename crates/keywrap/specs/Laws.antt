-- Unwrapping undoes wrapping, both ways, and each call has one answer: as statements; proofs/Laws.antt proves each.
-- Assumes nothing.
use Rattle.std.specs.Prelude.{◌≡◌, ◌↔◌, ℕ, ◌≤◌, true, List, length, take}
use Rattle.octets.specs.Bytes.{Bytes}
use Rattle.octets.specs.Lent.{over}
use Rattle.octets.specs.Lowest.{rises}
use Rattle.octets.specs.Unique.{Unique}
use Rattle.keywrap.specs.Wrap.{wrapped}
use Rattle.keywrap.specs.Calls.{key_size_lem, wrapped_size, wrap_tests, wrap_answer, unwrap_tests, unwrap_answer}

-- k is a key of 32 bytes that wraps to w
pub record WrapsTo (kek k w : List ℕ) : Type 0 where
  pub size : length k ≡ key_size_lem
  pub bytes : Bytes k
  pub wraps : wrapped kek k ≡ w

-- unwrapping w gives k: 0, and k is the 32 bytes that the output then begins with
pub record UnwrapsTo (kek w out k : List ℕ) : Type 0 where
  pub size : length k ≡ key_size_lem
  pub answers : unwrap_answer kek w out ≡ (0, over k out)

-- with room for a key, unwrapping 40 bytes gives k exactly when k wraps to them
abbrev pub UnwrapsExactly : Type 0
UnwrapsExactly =
    (kek w out k : List ℕ) → length kek ≡ key_size_lem → Bytes kek → length w ≡ wrapped_size → Bytes w → key_size_lem ≤ length out
    → UnwrapsTo kek w out k ↔ WrapsTo kek k w

-- at most one key does, stated over wrapping alone
abbrev pub OneKey : Type 0
OneKey = (kek k k' w : List ℕ) → Bytes kek → WrapsTo kek k w → WrapsTo kek k' w → k ≡ k'

-- 9, with the output as it was, exactly when none does
abbrev pub UnwrapNineExactly : Type 0
UnwrapNineExactly =
    (kek w out : List ℕ) → length kek ≡ key_size_lem → Bytes kek → length w ≡ wrapped_size → Bytes w → key_size_lem ≤ length out
    → (unwrap_answer kek w out ≡ (9, out)) ↔ ((k : List ℕ) → WrapsTo kek k w → ⊥)

-- wrapped bytes: 40 of them, and bytes
abbrev pub WrappedLength : Type 0
WrappedLength = (kek key : List ℕ) → length (wrapped kek key) ≡ wrapped_size

abbrev pub WrappedBytes : Type 0
WrappedBytes = (kek key : List ℕ) → Bytes kek → Bytes key → Bytes (wrapped kek key)

-- the calls: the numbers of their tests rise
abbrev pub WrapTestsRise : Type 0
WrapTestsRise = (kek key : List ℕ) (room : ℕ) → rises (wrap_tests kek key room) ≡ true

abbrev pub UnwrapTestsRise : Type 0
UnwrapTestsRise = (kek w : List ℕ) (room : ℕ) → rises (unwrap_tests kek w room) ≡ true

-- with keys of 32 bytes and room the answer is 0, and the wrapped key stands in the front of the output
abbrev pub WrapsInRange : Type 0
WrapsInRange =
    (kek key out : List ℕ) → length kek ≡ key_size_lem → length key ≡ key_size_lem → wrapped_size ≤ length out
    → wrap_answer kek key out ≡ (0, over (wrapped kek key) out)

-- what wrapping left there, unwrapped into any room, is the key
abbrev pub UnwrapsWrapped : Type 0
UnwrapsWrapped =
    (kek key out room : List ℕ) → length kek ≡ key_size_lem → Bytes kek → length key ≡ key_size_lem → Bytes key → wrapped_size ≤ length out → key_size_lem ≤ length room
    → unwrap_answer kek (take wrapped_size (wrap_answer kek key out).1) room ≡ (0, over key room)

-- for each input one number and one state of the output
abbrev pub WrapUnique : Type 0
WrapUnique = (kek key out : List ℕ) → Unique (wrap_answer kek key out)

abbrev pub UnwrapUnique : Type 0
UnwrapUnique = (kek w out : List ℕ) → Unique (unwrap_answer kek w out)
