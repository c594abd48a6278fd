-- The text of a descriptor list: the count, then a line for each descriptor that the reader shows.
-- Assumes nothing.
use Rattle.std.specs.Prelude.{ℕ, Bool, true, List, [], ◌∷◌, ◌++◌, drop}
use Rattle.octets.specs.Tests.{part_of}
use Rattle.wording.specs.Ascii.{ascii}
use Rattle.wording.specs.Hex.{digits_of, digits_shown}
use Rattle.wording.specs.Lines.{space, newline, line, together}
use Rattle.descriptors.specs.Descriptor.{descriptor_head_size}
use Rattle.descriptors.specs.Parse.{split}
use Rattle.descriptors.specs.Tested.{unreserved, count_of}

-- type, length and bytes, with a space between each two: `C0 0003 010203`, `00 0000 -`
abbrev pub pieces_of : List ℕ → List (List ℕ)
pieces_of d =
    digits_of true (part_of d 0 1)
    ∷ (space ∷ [])
    ∷ digits_of true (part_of d 2 2)
    ∷ (space ∷ [])
    ∷ digits_shown true (drop descriptor_head_size d)
    ∷ (newline ∷ [])
    ∷ []

unfoldable pub descriptor_line : List ℕ → List ℕ
descriptor_line d = together (pieces_of d)

unfoldable pub descriptor_lines : List (List ℕ) → List ℕ
descriptor_lines [] = []
descriptor_lines (d ∷ ds) = descriptor_line d ++ descriptor_lines ds

-- `descriptors 5`, and the lines of a list's unreserved descriptors
unfoldable pub list_text : Bool → List ℕ → List ℕ
list_text label s = line (ascii "descriptors") (count_of label s) ++ descriptor_lines (unreserved label (split s).0)
