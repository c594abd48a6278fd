-- How long the text of a list is: of a list of 4,096 bytes it has room in 12,288.
-- Assumes nothing.
use mathlib.Core.Path.{◌≡◌, ap}
use mathlib.Core.Bool.{Bool, true, false}
use mathlib.Core.List.{List, [], ◌∷◌, ◌++◌, flatten}
use Prim.Native.Nat.{ℕ, ◌+◌, ◌*◌, ◌≤◌}
use native.Mathlib.Omega.{arith}
use lib.Dec.{eqb}
use lib.ListN.{length, drop, length-append, length-drop}
use Rattle.octets.specs.Lent.{when}
use Rattle.octets.specs.Tests.{all, part_of}
use Rattle.octets.proofs.Tests.{and_left, and_right, part_short}
use Rattle.wording.specs.Ascii.{ascii}
use Rattle.wording.specs.Decimal.{decimal}
use Rattle.wording.specs.Hex.{digits_of, digits_shown}
use Rattle.wording.specs.Lines.{line}
use Rattle.wording.proofs.Laws.{digits-length}
use Rattle.wording.proofs.DecimalDigits.{length_decimal64}
use Rattle.descriptors.specs.Descriptor.{type_of, is_reserved, is_descriptor}
use Rattle.descriptors.specs.Labels.{label_max}
use Rattle.descriptors.specs.Parse.{split}
use Rattle.descriptors.specs.Tested.{unreserved, count_of}
use Rattle.descriptors.proofs.Sizes.{said_least, descriptor-parts}
use Rattle.descriptors.proofs.Split.{split_joined, split-whole}
use Rattle.descriptor_text.specs.Lines.{descriptor_line, descriptor_lines, list_text}
use Rattle.descriptor_text.specs.Described.{described_room}

bytes-length : (s : List ℕ) → length (digits_shown true s) ≤ 2 * length s + 1
unfolding digits_shown
bytes-length s = go (eqb (length s) 0)
  where
    go : (b : Bool) → length (when b (ascii "-") (digits_of true s)) ≤ 2 * length s + 1
    go true = omega arith
    go false = rw (digits-length true s) (omega arith)

pieces-length : (d : List ℕ) → length (descriptor_line d)
    ≡ length (digits_of true (part_of d 0 1)) + (1 + (length (digits_of true (part_of d 2 2)) + (1 + (length (digits_shown true (drop 4 d)) + 1))))
unfolding descriptor_line
pieces-length d = simp length-append (omega arith)

-- the line of an empty descriptor, 4 bytes, has 10; every other is less than two and a half times as long as its descriptor
line-length : (d : List ℕ) → 4 ≤ length d → 2 * length (descriptor_line d) ≤ 5 * length d
line-length d h =
    omega
    (arith, pieces-length d, digits-length true (part_of d 0 1), digits-length true (part_of d 2 2), part_short d 0 1, part_short d 2 2, bytes-length (drop 4 d), length-drop 4 d)

module _ (label : Bool) where
  lines-length : (ds : List (List ℕ)) → all is_descriptor ds ≡ true → 2 * length (descriptor_lines (unreserved label ds)) ≤ 5 * length (flatten ds)
  unfolding unreserved descriptor_lines all flatten
  lines-length [] e = omega arith
  lines-length (d ∷ ds) e = go (is_reserved label (type_of d)) (lines-length ds (and_right (is_descriptor d) (all is_descriptor ds) e))
    where
      least : 4 ≤ length d
      least = omega (arith, (descriptor-parts d (and_left (is_descriptor d) (all is_descriptor ds) e)).1, said_least d)

      go : (b : Bool) → 2 * length (descriptor_lines (unreserved label ds)) ≤ 5 * length (flatten ds)
          → 2 * length (descriptor_lines (when b (unreserved label ds) (d ∷ unreserved label ds))) ≤ 5 * length (d ++ flatten ds)
      go true rest = omega (arith, rest, length-append d (flatten ds))
      go false rest =
          omega (arith, rest, line-length d least, length-append d (flatten ds), length-append (descriptor_line d) (descriptor_lines (unreserved label ds)))

  -- no more descriptors than bytes
  count-length : (ds : List (List ℕ)) → all is_descriptor ds ≡ true → length (unreserved label ds) ≤ length (flatten ds)
  unfolding unreserved all flatten
  count-length [] e = omega arith
  count-length (d ∷ ds) e = go (is_reserved label (type_of d)) (count-length ds (and_right (is_descriptor d) (all is_descriptor ds) e))
    where
      least : 4 ≤ length d
      least = omega (arith, (descriptor-parts d (and_left (is_descriptor d) (all is_descriptor ds) e)).1, said_least d)

      go : (b : Bool) → length (unreserved label ds) ≤ length (flatten ds) → length (when b (unreserved label ds) (d ∷ unreserved label ds)) ≤ length (d ++ flatten ds)
      go true rest = omega (arith, rest, length-append d (flatten ds))
      go false rest = omega (arith, rest, least, length-append d (flatten ds))

  module _ (s : List ℕ) (short : length s ≤ label_max) where
    within : length (flatten (split s).0) ≤ label_max
    within = omega (arith, short, ap length (split_joined s), length-append (flatten (split s).0) (split s).1)

    number-length : length (decimal (count_of label s)) ≤ 20
    number-length = length_decimal64 (count_of label s) (omega (arith, count-length (split s).0 (split-whole s), within))

    head-length : length (line (ascii "descriptors") (count_of label s)) ≡ 13 + length (decimal (count_of label s))
    head-length = simp length-append (omega arith)

    pub text-length : length (list_text label s) ≤ described_room
    unfolding list_text
    text-length =
        omega (
          arith,
          head-length,
          number-length,
          lines-length (split s).0 (split-whole s),
          within,
          length-append (line (ascii "descriptors") (count_of label s)) (descriptor_lines (unreserved label (split s).0)),
        )
