-- The record of document 01 ("Record"): its layout, its parts, and the bytes before its IV.
-- Assumes nothing.
use Rattle.std.specs.Prelude.{ℕ, ◌+◌, Bool, List, [], ◌∷◌, ◌++◌, length, get_or, eqb, leb}
use Rattle.octets.specs.BigEndian.{be, number_at}
use Rattle.octets.specs.Tests.{every, part_of}
use Rattle.modes.specs.Mode.{Mode}
use Rattle.modes.specs.Modes.{mode_of}

-- ---- places, by the mode m, the name's length k and the plaintext's count n: header, name, IV, ciphertext, tag, and the end

abbrev pub record_format : ℕ
record_format = 1

abbrev pub name_at : ℕ
name_at = 24

abbrev pub iv_at_lem : ℕ → ℕ
iv_at_lem k = name_at + k

abbrev pub text_at_lem : Mode → ℕ → ℕ
text_at_lem m k = iv_at_lem k + m.iv_size

abbrev pub tag_at : Mode → ℕ → ℕ → ℕ
tag_at m k n = text_at_lem m k + n

abbrev pub end_at : Mode → ℕ → ℕ → ℕ
end_at m k n = tag_at m k n + m.tag_size

-- ---- read: "4-7 plaintext count n", "10-11 name length k"

abbrev pub mode_in : List ℕ → ℕ
mode_in r = get_or r 2 0

abbrev pub count_in : List ℕ → ℕ
count_in r = number_at 4 r 4

abbrev pub name_size_lem : List ℕ → ℕ
name_size_lem r = number_at 2 r 10

abbrev pub mode_for : List ℕ → Mode
mode_for r = mode_of (mode_in r)

-- the end that a record's own header gives
abbrev pub end_in : List ℕ → ℕ
end_in r = end_at (mode_for r) (name_size_lem r) (count_in r)

-- "0-1 format 0001h; .. 3 zero; .. 8-9 offset of the name, 24; .. 12-13 offset of the IV, 24+k; 14-15 IV length, 12; 16-19 offset of the ciphertext,
-- 36+k; 20-23 offset of the tag, 36+k+n. .. and the end at 52+k+n"; a name has a byte at least, and n is a length that the mode permits
abbrev pub layout_tests : List ℕ → List Bool
layout_tests r =
    eqb (number_at 2 r 0) record_format
    ∷ eqb (get_or r 3 0) 0
    ∷ eqb (number_at 2 r 8) name_at
    ∷ leb 1 (name_size_lem r)
    ∷ eqb (number_at 2 r 12) (iv_at_lem (name_size_lem r))
    ∷ eqb (number_at 2 r 14) (mode_for r).iv_size
    ∷ eqb (number_at 4 r 16) (text_at_lem (mode_for r) (name_size_lem r))
    ∷ eqb (number_at 4 r 20) (tag_at (mode_for r) (name_size_lem r) (count_in r))
    ∷ eqb (length r) (end_in r)
    ∷ (mode_for r).permits (count_in r)
    ∷ []

unfoldable pub layout_ok : List ℕ → Bool
layout_ok r = every (layout_tests r)

-- the parts of a record, where the layout has them
unfoldable pub front_in : List ℕ → List ℕ
front_in r = part_of r 0 (iv_at_lem (name_size_lem r))

unfoldable pub name_in : List ℕ → List ℕ
name_in r = part_of r name_at (name_size_lem r)

unfoldable pub iv_in : List ℕ → List ℕ
iv_in r = part_of r (iv_at_lem (name_size_lem r)) (mode_for r).iv_size

unfoldable pub text_in : List ℕ → List ℕ
text_in r = part_of r (text_at_lem (mode_for r) (name_size_lem r)) (count_in r)

unfoldable pub tag_in : List ℕ → List ℕ
tag_in r = part_of r (tag_at (mode_for r) (name_size_lem r) (count_in r)) (mode_for r).tag_size

-- ---- written: the header, and what a record has before its IV

unfoldable pub header : ℕ → ℕ → ℕ → List ℕ
header u k n =
    be 2 record_format
    ++ (u ∷ 0 ∷ [])
    ++ be 4 n
    ++ be 2 name_at
    ++ be 2 k
    ++ be 2 (iv_at_lem k)
    ++ be 2 (mode_of u).iv_size
    ++ be 4 (text_at_lem (mode_of u) k)
    ++ be 4 (tag_at (mode_of u) k n)

unfoldable pub record_front : ℕ → List ℕ → ℕ → List ℕ
record_front u name n = header u (length name) n ++ name
