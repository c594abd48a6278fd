-- What writing a key page promises (document 02, No. 3), as statements; proofs/Laws.antt proves them, with Read, Written, Exactly, Again, PartBack and ByRow.
-- Assumes nothing.
use Rattle.std.specs.Prelude.{◌≡◌, ◌↔◌, Bool, true, false, ℕ, ◌+◌, ◌≤◌, ◌<◌, length, take}
use mathlib.Core.List.{List, [], ◌∷◌, ◌++◌, flatten}
use Rattle.std.proofs.Math.Option.{Option, some}
use Rattle.octets.specs.Bytes.{Bytes}
use Rattle.octets.specs.Lent.{lowest, over}
use Rattle.octets.specs.Lowest.{rises}
use Rattle.octets.specs.Unique.{Unique}
use Rattle.keytable.specs.Row.{name_max, row_key_size, is_kek_type, Row}
use Rattle.keytable.specs.Table.{table_ok, row_for}
use Rattle.keywrap.specs.Calls.{key_size_lem, wrapped_size}
use Rattle.descriptors.specs.Steps.{cursor_at_start, shown_by}
use Rattle.keypage.specs.Layout.{before_length, page_max, chosen_bits}
use Rattle.keypage.specs.Page.{format_in, chosen_in, key_part_of, list_in, page_strict, page_list_count}
use Rattle.keypage.specs.KeyPart.{plain_format, wrapped_format, kek_type, identifier_of, wrapped_of}
use Rattle.keypage.specs.Read.{page_read_number, page_read_answer}
use Rattle.keypage.specs.Laws.{Readable, Loads}
use Rattle.page_writer.specs.Written.{page_size, page_of, wrapped_part}
use Rattle.page_writer.specs.Write.{format_given, fields_fit, write_broken, write_refused, readers_tests, write_tests, write_number, write_answer}
use Rattle.page_writer.specs.Write.{wrapping_tests, part_by, write_wrapped_tests, write_wrapped_answer}

-- how many fields are chosen
abbrev pub chosen_count : ℕ
chosen_count = length chosen_bits

-- ---- the numbers: "fields that the reader would refuse get the number it would give, a number too wide for its bits 3"

-- the longest page that PAGE LENGTH can tell
abbrev pub tellable : ℕ
tellable = before_length + 0xFFFF

-- 2, 3 and 4 are the reader's, of every page that can be written at all: its fields in their bits, and its length in PAGE LENGTH
abbrev pub ReadersNumber : Type 0
ReadersNumber =
    (v part list : List ℕ) → fields_fit v ≡ true → length (page_of v part list) ≤ tellable
    → lowest (readers_tests v part list) ≡ page_read_number (page_of v part list)

-- of the others: 3 where a number is too wide, and 4 where the page is too long, however long, unless a lower one applies
abbrev pub TooWideThree : Type 0
TooWideThree = (v part list : List ℕ) (room : ℕ) → write_broken v part list ≡ false → fields_fit v ≡ false → write_number v part list room ≡ 3

abbrev pub TooLongFour : Type 0
TooLongFour =
    (v part list : List ℕ) (room : ℕ) → write_broken v part list ≡ false → write_refused v part ≡ false → page_max < length (page_of v part list)
    → write_number v part list room ≡ 4

-- 0 exactly where the fields have room in their bits, a reader accepts the page, the output has room for it, and a wrapped key that is carried has 40 bytes
pub record Writable (v part list : List ℕ) (room : ℕ) : Type 0 where
  pub fit : fields_fit v ≡ true
  pub readable : Readable (page_of v part list)
  pub roomy : length (page_of v part list) ≤ room
  pub carried : format_given v ≡ wrapped_format → length (wrapped_of part) ≡ wrapped_size

abbrev pub WritesExactly : Type 0
WritesExactly = (v part list : List ℕ) (room : ℕ) → (write_number v part list room ≡ 0) ↔ Writable v part list room

-- and then the page is as long as is answered
abbrev pub PageLength : Type 0
PageLength = (v part list : List ℕ) → length (page_of v part list) ≡ page_size (length part) (length list)

-- ---- "Reading a page so written gives back the fields"

-- a page that was written of v, a KEY part and a list
pub record GivesBack (v part list p : List ℕ) : Type 0 where
  pub reads : (fields : List ℕ) → page_read_answer p fields ≡ (0, v ++ length part ∷ page_list_count list ∷ [])
  pub part_back : key_part_of p ≡ part
  pub list_back : list_in p ≡ list

-- m bytes of an output are what either call wrote
abbrev pub WrittenGivesBack : Type 0
WrittenGivesBack =
    (v part list out after : List ℕ) (n m : ℕ) → length v ≡ chosen_count → write_answer v part list out n ≡ ((0, after), m)
    → GivesBack v part list (take m after)

abbrev pub WrappedGivesBack : Type 0
WrappedGivesBack =
    (t v : List ℕ) (type : ℕ) (identifier key list out after : List ℕ) (n m : ℕ) → length v ≡ chosen_count
    → write_wrapped_answer t v type identifier key list out n ≡ ((0, after), m)
    → (row : Row) × (row_for t type identifier ≡ some row) × GivesBack v (part_by (some row) type identifier key) list (take m after)

-- the parts of a KEY part of format 04h come back too
pub record PartBack (type : ℕ) (identifier wrapped s : List ℕ) : Type 0 where
  pub type_back : kek_type s ≡ type
  pub identifier_back : identifier_of s ≡ identifier
  pub wrapped_back : wrapped_of s ≡ wrapped

abbrev pub PartsBack : Type 0
PartsBack =
    (type : ℕ) (identifier wrapped : List ℕ) → type ≤ 0xFFFF → length identifier ≤ 0xFFFF
    → PartBack type identifier wrapped (wrapped_part type identifier wrapped)

-- ---- "loading a 00h page with any accepted table, or a 04h page that the writer wrapped with the table it used, gives back the key where there is room for it"

abbrev pub WrittenLoads : Type 0
WrittenLoads =
    (t v part list out after room fields : List ℕ) (n m : ℕ) → length v ≡ chosen_count → write_answer v part list out n ≡ ((0, after), m)
    → format_given v ≡ plain_format → table_ok t ≡ true → row_key_size ≤ length room → Loads t (take m after) room fields part

abbrev pub WrappedLoads : Type 0
WrappedLoads =
    (t v : List ℕ) (type : ℕ) (identifier key list out after room fields : List ℕ) (n m : ℕ) → Bytes t → Bytes identifier → Bytes key → Bytes list
    → length v ≡ chosen_count → write_wrapped_answer t v type identifier key list out n ≡ ((0, after), m) → row_key_size ≤ length room
    → Loads t (take m after) room fields key

-- ---- "Writing from what was read of an accepted page (40 wrapped bytes, if any) .. gives the same bytes, its wrapped part carried over as it stands"

-- the descriptors that the reader shows of a page's list, end to end
abbrev pub shown_in : List ℕ → List ℕ
shown_in s = flatten (shown_by (page_list_count s) s (cursor_at_start false page_strict))

abbrev pub WritesAgain : Type 0
WritesAgain =
    (p out : List ℕ) (n : ℕ) → Bytes p → page_read_number p ≡ 0 → (format_in p ≡ wrapped_format → length (wrapped_of (key_part_of p)) ≡ wrapped_size) → length p ≤ length out
    → write_answer (chosen_in p) (key_part_of p) (shown_in (list_in p)) out n ≡ ((0, over p out), length p)

-- the page of any bytes that keep to the layout is that of its own fields, KEY part and list
abbrev pub PageAgain : Type 0
PageAgain = (p : List ℕ) → Bytes p → page_read_number p ≡ 0 → page_of (chosen_in p) (key_part_of p) (list_in p) ≡ p

-- ---- wrapping

-- a format and a type of a wrapped key's, an identifier within its bounds, and a key of 32 bytes
pub record Wrappable (v : List ℕ) (type : ℕ) (identifier key : List ℕ) : Type 0 where
  pub format : format_given v ≡ wrapped_format
  pub kek-type : is_kek_type type ≡ true
  pub named : 1 ≤ length identifier
  pub named_short : length identifier ≤ name_max
  pub key_size : length key ≡ key_size_lem

-- with these and the row, wrapping a key into a page is writing the page of the KEY part that the row makes of it, refusals too
abbrev pub WrapsAsWrites : Type 0
WrapsAsWrites =
    (t v : List ℕ) (type : ℕ) (identifier key list out : List ℕ) (n : ℕ) (row : Row) → table_ok t ≡ true → row_for t type identifier ≡ some row
    → Wrappable v type identifier key
    → write_wrapped_answer t v type identifier key list out n ≡ write_answer v (part_by (some row) type identifier key) list out n

-- and 0 says that they are so
abbrev pub WrapsAndWrites : Type 0
WrapsAndWrites =
    (t v : List ℕ) (type : ℕ) (identifier key list out after : List ℕ) (n m : ℕ) → write_wrapped_answer t v type identifier key list out n ≡ ((0, after), m)
    → (row : Row) × (table_ok t ≡ true) × (row_for t type identifier ≡ some row) × Wrappable v type identifier key

-- document 01: "Between two accepted tables with the same row for a name, or both with none, the other rows change no answer for that name."
abbrev pub WriteOtherRows : Type 0
WriteOtherRows =
    (t u v : List ℕ) (type : ℕ) (identifier key list out : List ℕ) (n : ℕ) → table_ok t ≡ true → table_ok u ≡ true
    → row_for t type identifier ≡ row_for u type identifier
    → write_wrapped_answer t v type identifier key list out n ≡ write_wrapped_answer u v type identifier key list out n

-- ---- "The lowest that applies is given, and no other."

abbrev pub ReadersTestsRise : Type 0
ReadersTestsRise = (v part list : List ℕ) → rises (readers_tests v part list) ≡ true

abbrev pub WriteTestsRise : Type 0
WriteTestsRise = (v part list : List ℕ) (room : ℕ) → rises (write_tests v part list room) ≡ true

abbrev pub WrappingTestsRise : Type 0
WrappingTestsRise = (v : List ℕ) (type : ℕ) (identifier key list : List ℕ) (room : ℕ) → rises (wrapping_tests v type identifier key list room) ≡ true

abbrev pub WriteWrappedTestsRise : Type 0
WriteWrappedTestsRise =
    (ok : Bool) (row : Option Row) (v : List ℕ) (type : ℕ) (identifier key list : List ℕ) (room : ℕ)
    → rises (write_wrapped_tests ok row v type identifier key list room) ≡ true

-- ---- for each input one answer, and one state of what is lent

abbrev pub WriteUnique : Type 0
WriteUnique = (v part list out : List ℕ) (n : ℕ) → Unique (write_answer v part list out n)

abbrev pub WriteWrappedUnique : Type 0
WriteWrappedUnique =
    (t v : List ℕ) (type : ℕ) (identifier key list out : List ℕ) (n : ℕ) → Unique (write_wrapped_answer t v type identifier key list out n)
