-- One descriptor (document 01, "Descriptors and labels"): "Type; a zero byte; two-byte length; that many bytes." And which types are reserved.
-- Assumes nothing.
use Rattle.std.specs.Prelude.{ℕ, ◌+◌, Bool, true, ◌&&◌, List, [], ◌∷◌, length, get_or, eqb, leb}
use Rattle.octets.specs.BigEndian.{number_at}
use Rattle.octets.specs.Lent.{when}
use Rattle.octets.specs.Tests.{every}

-- type, zero byte and length
abbrev pub descriptor_head_size : ℕ
descriptor_head_size = 4

abbrev pub type_of : List ℕ → ℕ
type_of d = get_or d 0 0

-- the bytes of a whole descriptor, as its length says
unfoldable pub size_said : List ℕ → ℕ
size_said d = descriptor_head_size + number_at 2 d 2

-- the bytes are one whole descriptor, no more and no fewer
unfoldable pub is_descriptor : List ℕ → Bool
is_descriptor d = every (eqb (get_or d 1 0) 0 ∷ eqb (length d) (size_said d) ∷ [])

-- the bytes of the whole descriptor that a list begins with, or 0 where it begins with none
unfoldable pub size_of : List ℕ → ℕ
size_of s = when (every (eqb (get_or s 1 0) 0 ∷ leb (size_said s) (length s) ∷ [])) (size_said s) 0

-- "Reserved types (page 04h-BFh, label 05h-BFh)"; all others are shown and counted, C0h-FFh too
abbrev pub reserved_from : Bool → ℕ
reserved_from label = when label 0x05 0x04

abbrev pub reserved_to : ℕ
reserved_to = 0xBF

abbrev pub is_reserved : Bool → ℕ → Bool
is_reserved label t = every (leb (reserved_from label) t ∷ leb t reserved_to ∷ [])

-- "opened strict, the reader gives 2 for one"
abbrev pub is_refused : Bool → Bool → ℕ → Bool
is_refused label strict t = strict && is_reserved label t

-- "A descriptor reader opened without a choice is now strict" (document 02, No. 7), of a page's list and of a label's alike
abbrev pub strict_by_default : Bool
strict_by_default = true
