-- The two calls that write a page (document 02, No. 3): document 01's numbers, and the output and the lent length after them. "fields that the reader would
-- refuse get the number it would give, a number too wide for its bits 3; short output 5; when wrapping, 1 and lookups as in 01; a carried part not 40 bytes 8".
-- Assumes nothing.
use Rattle.std.specs.Prelude.{ℕ, suc, Bool, false, not, ◌&&◌, ◌||◌, List, [], ◌∷◌, ◌++◌, length, get_or, eqb, ltb}
use Rattle.std.proofs.Math.Option.{Option}
use Rattle.octets.specs.Lent.{is_not, Tests, lowest, kept, answer}
use Rattle.octets.specs.Tests.{every}
use Rattle.keytable.specs.Row.{name_max, is_kek_type, Row}
use Rattle.keytable.specs.Table.{table_ok, row_for}
use Rattle.keytable.specs.Calls.{missing}
use Rattle.keywrap.specs.Wrap as wrap
use Rattle.keywrap.specs.Calls.{key_size_lem, wrapped_size}
use Rattle.keypage.specs.Layout.{page_max, Bits, span, chosen_bits}
use Rattle.keypage.specs.Page.{permitted, page_list_ok}
use Rattle.keypage.specs.KeyPart.{wrapped_format, by_format, wrapped_of, part_broken, part_refused, part_long}
use Rattle.keypage.specs.Load.{key_in}
use Rattle.page_writer.specs.Written.{page_size, page_of, wrapped_part_size, wrapped_part}

-- ---- the fields, as numbers that are given: in the order of the C interface

abbrev pub format_given : List ℕ → ℕ
format_given v = get_or v 11 0

-- each from number i on has room in its bits
abbrev pub fit_tests : List Bits → List ℕ → ℕ → List Bool
fit_tests [] v i = []
fit_tests (b ∷ bs) v i = ltb (get_or v i 0) (span b) ∷ fit_tests bs v (suc i)

unfoldable pub fields_fit : List ℕ → Bool
fields_fit v = every (fit_tests chosen_bits v 0)

-- scope, both modes and the algorithm index, which have these numbers among the twelve
unfoldable pub fields_permitted : List ℕ → Bool
fields_permitted v = every (permitted (get_or v 0 0) (get_or v 8 0) (get_or v 9 0) (get_or v 10 0))

abbrev pub fields_good : List ℕ → Bool
fields_good v = fields_fit v && fields_permitted v

-- ---- a page of a KEY part as it stands

-- 2, 3 and 4, as a reader of the page would give them (`ReadersNumber` of specs/Laws.antt)
abbrev pub write_broken : List ℕ → List ℕ → List ℕ → Bool
write_broken v part list = not (page_list_ok list) || part_broken (format_given v) part

abbrev pub write_refused : List ℕ → List ℕ → Bool
write_refused v part = not (fields_good v) || part_refused (format_given v) part

abbrev pub write_long : List ℕ → List ℕ → List ℕ → Bool
write_long v part list = ltb page_max (page_size (length part) (length list)) || part_long (format_given v) part

-- "a carried part not 40 bytes 8"
abbrev pub not_carried : List ℕ → List ℕ → Bool
not_carried v part = by_format (format_given v) false false (is_not wrapped_size (wrapped_of part)) false

abbrev pub readers_tests : List ℕ → List ℕ → List ℕ → Tests
readers_tests v part list = (2, write_broken v part list) ∷ (3, write_refused v part) ∷ (4, write_long v part list) ∷ []

abbrev pub write_tests : List ℕ → List ℕ → List ℕ → ℕ → Tests
write_tests v part list room = readers_tests v part list ++ (5, ltb room (page_size (length part) (length list))) ∷ (8, not_carried v part) ∷ []

unfoldable pub write_number : List ℕ → List ℕ → List ℕ → ℕ → ℕ
write_number v part list room = lowest (write_tests v part list room)

-- the page over the output, and its length, each changed by 0 alone
unfoldable pub write_answer : List ℕ → List ℕ → List ℕ → List ℕ → ℕ → (ℕ × List ℕ) × ℕ
write_answer v part list out n = (
  answer (write_number v part list (length out)) (page_of v part list) out,
  kept (write_number v part list (length out)) (page_size (length part) (length list)) n,
)

-- ---- a page of format 04h: "wrapping the key for 04h by the named row"

abbrev pub wrapped_page_size : List ℕ → List ℕ → ℕ
wrapped_page_size identifier list = page_size (wrapped_part_size (length identifier)) (length list)

-- what is tested before the row is looked for
abbrev pub wrapping_broken : List ℕ → List ℕ → List ℕ → Bool
wrapping_broken identifier key list = not (page_list_ok list) || is_not key_size_lem key || eqb (length identifier) 0

abbrev pub wrapping_refused : List ℕ → ℕ → Bool
wrapping_refused v type = not (fields_good v) || not (eqb (format_given v) wrapped_format) || not (is_kek_type type)

abbrev pub wrapping_long : List ℕ → List ℕ → Bool
wrapping_long identifier list = ltb name_max (length identifier) || ltb page_max (wrapped_page_size identifier list)

abbrev pub wrapping_tests : List ℕ → ℕ → List ℕ → List ℕ → List ℕ → ℕ → Tests
wrapping_tests v type identifier key list room =
    (2, wrapping_broken identifier key list)
    ∷ (3, wrapping_refused v type)
    ∷ (4, wrapping_long identifier list)
    ∷ (5, ltb room (wrapped_page_size identifier list))
    ∷ []

unfoldable pub wrapping_number : List ℕ → ℕ → List ℕ → List ℕ → List ℕ → ℕ → ℕ
wrapping_number v type identifier key list room = lowest (wrapping_tests v type identifier key list room)

-- by whether the table is accepted and the row that matched
abbrev pub write_wrapped_tests : Bool → Option Row → List ℕ → ℕ → List ℕ → List ℕ → List ℕ → ℕ → Tests
write_wrapped_tests ok row v type identifier key list room = (1, not ok) ∷ (wrapping_tests v type identifier key list room ++ (6, missing row) ∷ [])

unfoldable pub write_wrapped_number : Bool → Option Row → List ℕ → ℕ → List ℕ → List ℕ → List ℕ → ℕ → ℕ
write_wrapped_number ok row v type identifier key list room = lowest (write_wrapped_tests ok row v type identifier key list room)

-- the KEY part that the row makes of a key
abbrev pub part_by : Option Row → ℕ → List ℕ → List ℕ → List ℕ
part_by row type identifier key = wrapped_part type identifier (wrap.wrapped (key_in row) key)

unfoldable pub write_wrapped_row : Bool → Option Row → List ℕ → ℕ → List ℕ → List ℕ → List ℕ → List ℕ → ℕ → (ℕ × List ℕ) × ℕ
write_wrapped_row ok row v type identifier key list out n = (
  answer (write_wrapped_number ok row v type identifier key list (length out)) (page_of v (part_by row type identifier key) list) out,
  kept (write_wrapped_number ok row v type identifier key list (length out)) (wrapped_page_size identifier list) n,
)

abbrev pub write_wrapped_answer : List ℕ → List ℕ → ℕ → List ℕ → List ℕ → List ℕ → List ℕ → ℕ → (ℕ × List ℕ) × ℕ
write_wrapped_answer t v type identifier key list out n =
    write_wrapped_row (table_ok t) (row_for t type identifier) v type identifier key list out n
