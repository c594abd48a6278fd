-- The KEY part of format 04h that was made of a type, an identifier and a wrapped key, read; and that it passes the tests of its format.
-- Assumes nothing.
use mathlib.Core.Path.{◌≡◌, refl, sym, ap, ◌∙◌}
use mathlib.Core.List.{List, ◌++◌}
use Prim.Native.Nat.{ℕ, ◌+◌, ◌≤◌}
use native.Mathlib.Omega.{arith}
use lib.ListN.{length, take, drop}
use lib.Seq.{take_at, drop_at, drop-drop}
use Rattle.octets.proofs.BigEndian.{number-be}
use Rattle.keytable.specs.Row.{name_max}
use Rattle.keywrap.specs.Calls.{wrapped_size}
use Rattle.keypage.specs.KeyPart.{wrapped_format, kek_type, identifier_size_of, identifier_at, identifier_of, wrapped_of}
use Rattle.keypage.specs.Laws.{wrapped}
use Rattle.keypage.proofs.KeyPart.{PartPassed, laid_part}
use Rattle.page_writer.specs.Written.{wrapped_part}
use Rattle.page_writer.specs.Laws.{PartsBack}
use Rattle.page_writer.proofs.Parts.{length-wrapped_part}

module _ (type : ℕ) (identifier w : List ℕ) where
  abbrev s : List ℕ
  s = wrapped_part type identifier w

  type_read : type ≤ 0xFFFF → kek_type s ≡ type
  unfolding wrapped_part
  type_read small = number-be 2 type (omega (arith, small))

  module _ (short : length identifier ≤ 0xFFFF) where
    size_read : identifier_size_of s ≡ length identifier
    unfolding wrapped_part
    size_read = number-be 2 (length identifier) (omega (arith, short))

    identifier_read : identifier_of s ≡ identifier
    unfolding wrapped_part
    identifier_read = ap (λ (n : ℕ). take n (identifier ++ w)) size_read ∙ take_at identifier w (length identifier) refl

    wrapped_read : wrapped_of s ≡ w
    unfolding wrapped_part
    wrapped_read =
        ap (λ (n : ℕ). drop (identifier_at + n) s) size_read ∙ sym (drop-drop (length identifier) identifier_at s) ∙ drop_at identifier w (length identifier) refl

pub parts_back : PartsBack
parts_back type identifier w small short =
    record { type_back = type_read type identifier w small; identifier_back = identifier_read type identifier w short; wrapped_back = wrapped_read type identifier w short }

-- such a part, of a type that a key-encrypting key may have and of an identifier of 1 to 32 bytes
pub part-passes : (type : ℕ) (identifier w : List ℕ) → 1 ≤ type → type ≤ 2 → 1 ≤ length identifier → length identifier ≤ name_max → length w ≡ wrapped_size
    → PartPassed wrapped_format (wrapped_part type identifier w)
part-passes type identifier w low high there short size =
    let kind = type_read type identifier w (omega (arith, high)) in
    let long = size_read type identifier w (omega (arith, short)) in
    let total = length-wrapped_part type identifier w size in
    laid_part wrapped_format (wrapped_part type identifier w)
    (wrapped refl (omega (arith, kind, low)) (omega (arith, kind, high)) (omega (arith, long, there)) (omega (arith, long, short)) (omega (arith, long, total)))
