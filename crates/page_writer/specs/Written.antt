-- A key page as it is written (document 02, No. 3: "Build a page from its fields, KEY part and descriptors"): each word and each field is put where the layout
-- that reading goes by has it, and every other bit before the KEY part is zero.
-- Assumes nothing.
use Rattle.std.specs.Prelude.{ℕ, suc, ◌+◌, ◌-◌, ◌*◌, List, [], ◌∷◌, ◌++◌, length, get_or, set, take, drop, replicate}
use Rattle.octets.specs.BigEndian.{be}
use Rattle.keytable.specs.Row.{name_max}
use Rattle.keywrap.specs.Calls.{wrapped_size}
use Rattle.keypage.specs.Layout.{code_at, page_code, page_length_at, before_length, key_length_at, key_part_at, Bits, weight, chosen_bits}
use Rattle.keypage.specs.KeyPart.{kek_type_at, identifier_size_at, identifier_at}

-- n in two bytes at place i
abbrev pub with_word : ℕ → ℕ → List ℕ → List ℕ
with_word i n s = take i s ++ be 2 n ++ drop (i + 2) s

-- the values v from number i on, each in the bits that are its field's
abbrev pub with_bits : List Bits → List ℕ → ℕ → List ℕ → List ℕ
with_bits [] v i s = s
with_bits (b ∷ bs) v i s = with_bits bs v (suc i) (set s b.in_byte (get_or s b.in_byte 0 + get_or v i 0 * weight b))

-- what a page of so many bytes, with a KEY part of so many, has before it
unfoldable pub head_of : List ℕ → ℕ → ℕ → List ℕ
head_of v part total =
    with_word code_at page_code (with_word page_length_at (total - before_length) (with_word key_length_at part (with_bits chosen_bits v 0 (replicate key_part_at 0))))

abbrev pub page_size : ℕ → ℕ → ℕ
page_size part list = key_part_at + part + list

-- the page of the fields v, from scope to key format, of a KEY part and of descriptors end to end
unfoldable pub page_of : List ℕ → List ℕ → List ℕ → List ℕ
page_of v part list = head_of v (length part) (page_size (length part) (length list)) ++ (part ++ list)

-- the KEY part of format 04h, of a KEK type, an identifier and a wrapped key
unfoldable pub wrapped_part : ℕ → List ℕ → List ℕ → List ℕ
wrapped_part type identifier wrapped =
    with_word kek_type_at type (with_word identifier_size_at (length identifier) (replicate identifier_at 0)) ++ (identifier ++ wrapped)

-- how long that is with an identifier of so many bytes, and with the longest
abbrev pub wrapped_part_size : ℕ → ℕ
wrapped_part_size identifier = identifier_at + identifier + wrapped_size

abbrev pub wrapped_part_max : ℕ
wrapped_part_max = wrapped_part_size name_max
