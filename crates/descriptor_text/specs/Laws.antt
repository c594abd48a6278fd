-- What the text of a descriptor list promises, as statements; proofs/Laws.antt, Counted.antt and ReadBack.antt prove them.
-- Assumes nothing.
use Rattle.std.specs.Prelude.{◌≡◌, Bool, true, false, List, [], ◌∷◌, ℕ, ◌+◌, ◌-◌, ◌*◌, ◌≤◌, ◌<◌, eqb, length, drop, replicate, Result}
use Rattle.octets.specs.Bytes.{Bytes}
use Rattle.octets.specs.Lent.{when, over}
use Rattle.octets.specs.Tests.{part_of}
use Rattle.octets.specs.Unique.{UniqueBy}
use Rattle.wording.specs.Ascii.{ascii}
use Rattle.wording.specs.Hex.{hex_read}
use Rattle.wording.specs.Lines.{newline}
use Rattle.descriptors.specs.Descriptor.{descriptor_head_size, is_descriptor}
use Rattle.descriptors.specs.Tested.{count_of}
use Rattle.keypage.specs.Laws.{HoldsReserved}
use Rattle.descriptor_text.specs.Lines.{descriptor_line, list_text}
use Rattle.descriptor_text.specs.Described.{described_room, described_says, label_described, page_described}
use Rattle.wording.specs.declared.text.Text.{Text}
use Rattle.refusals.specs.declared.Refusal.{Refusal}

-- a label's list of three descriptors, 00h of no bytes, the reserved 10h of one and C0h of three, and the text of it
abbrev pub three_descriptors : List ℕ
three_descriptors =
    0x00 ∷ 0 ∷ 0 ∷ 0 ∷ 0x10 ∷ 0 ∷ 0 ∷ 1 ∷ 0xAB ∷ 0xC0 ∷ 0 ∷ 0 ∷ 3 ∷ 1 ∷ 2 ∷ 3 ∷ []

abbrev pub ExampleText : Type 0
ExampleText =
    list_text true three_descriptors
    ≡ ascii "descriptors 2\n00 0000 -\nC0 0003 010203\n"

abbrev pub EmptyText : Type 0
EmptyText = list_text false [] ≡ ascii "descriptors 0\n"

-- ---- the count is the number of the lines that follow it

unfoldable pub newlines_in : List ℕ → ℕ
newlines_in [] = 0
newlines_in (b ∷ s) = when (eqb b newline) 1 0 + newlines_in s

abbrev pub CountsLines : Type 0
CountsLines = (label : Bool) (s : List ℕ) → newlines_in (list_text label s) ≡ 1 + count_of label s

-- ---- the three words of a line, read as hexadecimal digits, are the descriptor's type, length and bytes

pub record LineReadsBack (d room : List ℕ) : Type 0 where
  pub type_back : hex_read (part_of (descriptor_line d) 0 2) room ≡ (0, over (part_of d 0 1) room)
  pub length_back : hex_read (part_of (descriptor_line d) 3 4) room ≡ (0, over (part_of d 2 2) room)
  pub bytes_back : descriptor_head_size < length d → hex_read (part_of (descriptor_line d) 8 (2 * (length d - descriptor_head_size))) room ≡ (0, over (drop descriptor_head_size d) room)

abbrev pub ReadsBack : Type 0
ReadsBack = (d room : List ℕ) → is_descriptor d ≡ true → Bytes d → length d ≤ length room → LineReadsBack d room

-- ---- a page with a reserved descriptor has no text: "a reserved type gives 2" (document 02, No. 7)

abbrev pub ReservedDescribed : Type 0
ReservedDescribed = (p : List ℕ) → HoldsReserved p → page_described p ≡ (2, 0, replicate described_room 0)

-- ---- a text by value has its room, and lies in it

pub record DescribedFits (d : Result (Text described_room) Refusal) : Type 0 where
  pub room : length (described_says d).2 ≡ described_room
  pub size : (described_says d).1 ≤ described_room

abbrev pub LabelFits : Type 0
LabelFits = (s : List ℕ) (d : Result (Text described_room) Refusal) → label_described s ≡ described_says d → DescribedFits d

abbrev pub PageFits : Type 0
PageFits = (p : List ℕ) (d : Result (Text described_room) Refusal) → page_described p ≡ described_says d → DescribedFits d

-- ---- for each input one text

abbrev pub LabelDescribedUnique : Type 0
LabelDescribedUnique = (s : List ℕ) → UniqueBy described_says (label_described s)

abbrev pub PageDescribedUnique : Type 0
PageDescribedUnique = (p : List ℕ) → UniqueBy described_says (page_described p)
