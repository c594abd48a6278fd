-- The KEY part of a page by its format (document 01, "Key page"; source document 002): what is read of it, and its own tests.
-- Assumes nothing.
use Rattle.std.specs.Prelude.{ℕ, ◌+◌, Bool, true, false, not, List, [], ◌∷◌, length, drop, eqb, leb, ltb}
use Rattle.octets.specs.BigEndian.{number_at}
use Rattle.octets.specs.Lent.{when, is_not}
use Rattle.octets.specs.Tests.{every, part_of}
use Rattle.keytable.specs.Row.{name_max, row_key_size, is_kek_type}

-- "00h: the key, 32 bytes"; "01h: a reference, 9 bytes or more"; "04h: 0-1 KEK type .., 2-3 identifier length, identifier, wrapped key"
abbrev pub plain_format : ℕ
plain_format = 0x00

abbrev pub reference_format : ℕ
reference_format = 0x01

abbrev pub wrapped_format : ℕ
wrapped_format = 0x04

abbrev pub reference_min : ℕ
reference_min = 9

-- what each format's value has for a format f
abbrev pub by_format : {A : Type 0} → ℕ → A → A → A → A → A
by_format f plain reference wrapped other =
    when (eqb f plain_format) plain (when (eqb f reference_format) reference (when (eqb f wrapped_format) wrapped other))

-- format 04h
abbrev pub kek_type_at : ℕ
kek_type_at = 0

abbrev pub identifier_size_at : ℕ
identifier_size_at = 2

abbrev pub identifier_at : ℕ
identifier_at = 4

abbrev pub kek_type : List ℕ → ℕ
kek_type s = number_at 2 s kek_type_at

abbrev pub identifier_size_of : List ℕ → ℕ
identifier_size_of s = number_at 2 s identifier_size_at

abbrev pub identifier_of : List ℕ → List ℕ
identifier_of s = part_of s identifier_at (identifier_size_of s)

abbrev pub wrapped_at : List ℕ → ℕ
wrapped_at s = identifier_at + identifier_size_of s

abbrev pub wrapped_of : List ℕ → List ℕ
wrapped_of s = drop (wrapped_at s) s

abbrev pub wrapped_tests : List ℕ → List Bool
wrapped_tests s = leb identifier_at (length s) ∷ leb 1 (identifier_size_of s) ∷ leb (wrapped_at s) (length s) ∷ []

-- 2: "KEY part of a known format .. identifier length 0"
unfoldable pub part_broken : ℕ → List ℕ → Bool
part_broken f s = by_format f (is_not row_key_size s) (ltb (length s) reference_min) (not (every (wrapped_tests s))) false

-- 3: "KEK type not permitted; unknown KEY FORMAT"
unfoldable pub part_refused : ℕ → List ℕ → Bool
part_refused f s = by_format f false false (not (is_kek_type (kek_type s))) true

-- 4: "a maximum above is passed (names and identifiers too)"
unfoldable pub part_long : ℕ → List ℕ → Bool
part_long f s = by_format f false (ltb name_max (length s)) (ltb name_max (identifier_size_of s)) false

-- a reference and a wrapped key are by a row
abbrev pub needs_row : ℕ → Bool
needs_row f = by_format f false true true false
