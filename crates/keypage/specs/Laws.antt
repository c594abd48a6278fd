-- What key pages promise, as statements; proofs/Laws.antt and Held.antt prove them.
-- Assumes nothing.
use Rattle.std.specs.Prelude.{◌≡◌, ◌↔◌, Bool, true, false, List, [], ◌∷◌, ℕ, ◌+◌, ◌-◌, ◌≤◌, length, get_or, drop}
use Rattle.std.proofs.Math.Option.{Option, some, none}
use Rattle.octets.specs.Bytes.{Bytes}
use Rattle.octets.specs.Lent.{when, over}
use Rattle.octets.specs.Lowest.{rises}
use Rattle.octets.specs.Unique.{Unique}
use Rattle.octets.specs.Tests.{zeros, part_of}
use Rattle.octets.specs.BigEndian.{number_at}
use Rattle.keytable.specs.Row.{row_key_size, name_max, kek_use, Row}
use Rattle.keytable.specs.Table.{table_ok, data_row}
use Rattle.keytable.specs.Laws.{RowMore}
use Rattle.keywrap.specs.Calls.{wrapped_size}
use Rattle.keywrap.specs.Laws.{WrapsTo}
use Rattle.descriptors.specs.Parse.{split}
use Rattle.descriptors.specs.Laws.{Accepted}
use Rattle.descriptors.specs.StrictLaws.{HasReserved}
use Rattle.keypage.specs.Layout.{code_at, page_code, page_length_at, before_length, zeros_at, zeros_count, key_part_at, page_max}
use Rattle.keypage.specs.Page.{scope_in, reserved_in, encryption_in, decryption_in, algorithm_in, format_in, key_length_of, key_part_of, list_in, page_strict, fields_of}
use Rattle.keypage.specs.KeyPart.{plain_format, reference_format, wrapped_format, reference_min, kek_type, identifier_size_of, identifier_at, identifier_of, wrapped_of}
use Rattle.keypage.specs.Read.{page_read_tests, page_read_number, page_read_answer}
use Rattle.keypage.specs.Places.{places_answer}
use Rattle.keypage.specs.Load.{kek_row, row_named, part_tests, load_tests, load_answer}

-- ---- reading accepts exactly the pages of the layout with permitted values

-- the page's own layout and fields, with n unreserved descriptors
pub record Laid (p : List ℕ) (n : ℕ) : Type 0 where
  pub code : number_at 2 p code_at ≡ page_code
  pub total : length p ≡ number_at 2 p page_length_at + before_length
  pub reserved-bits : reserved_in p ≡ 0
  pub reserved_bytes : zeros (part_of p zeros_at zeros_count) ≡ true
  pub key_within : key_part_at + key_length_of p ≤ length p
  pub list : Accepted false page_strict (list_in p) n
  pub scope : scope_in p ≤ 2
  pub encryption : encryption_in p ≤ 2
  pub decryption : decryption_in p ≤ 3
  pub algorithm_low : 1 ≤ algorithm_in p
  pub algorithm_high : algorithm_in p ≤ 2
  pub short : length p ≤ page_max

-- the KEY part of each format
pub data PartLaid (f : ℕ) (s : List ℕ) : Type 0 where
  plain : f ≡ plain_format → length s ≡ row_key_size → PartLaid f s
  reference : f ≡ reference_format → reference_min ≤ length s → length s ≤ name_max → PartLaid f s
  wrapped : f ≡ wrapped_format → 1 ≤ kek_type s → kek_type s ≤ 2 → 1 ≤ identifier_size_of s → identifier_size_of s ≤ name_max
      → identifier_at + identifier_size_of s ≤ length s → PartLaid f s

pub record Readable (p : List ℕ) : Type 0 where
  pub count : ℕ
  pub laid : Laid p count
  pub part : PartLaid (format_in p) (key_part_of p)

abbrev pub ReadsExactly : Type 0
ReadsExactly = (p fields after : List ℕ) → (page_read_answer p fields ≡ (0, after)) ↔ (Readable p × (after ≡ fields_of p))

-- ---- a page with a reserved descriptor is refused (document 02, No. 7): "a reserved type gives 2", whatever else is wrong with the page

abbrev pub HoldsReserved : List ℕ → Type 0
HoldsReserved p = HasReserved false (split (list_in p)).0

abbrev pub ReservedReadsTwo : Type 0
ReservedReadsTwo = (p fields : List ℕ) → HoldsReserved p → page_read_answer p fields ≡ (2, fields)

-- a load's number, by whether its table is accepted
abbrev pub reserved_number : Bool → ℕ
reserved_number ok = when ok 2 1

abbrev pub ReservedLoadsTwo : Type 0
ReservedLoadsTwo = (t p out fields : List ℕ) → HoldsReserved p → load_answer t p out fields ≡ ((reserved_number (table_ok t), out), fields)

-- ---- where the parts of a page are: what is stored of an accepted page tells its KEY part and its list, and of format 04h the rest

pub record PlacesTold (p at : List ℕ) : Type 0 where
  pub key_part : key_part_of p ≡ part_of p key_part_at (get_or at 0 0 - key_part_at)
  pub list : list_in p ≡ drop (get_or at 0 0) p

pub record WrappedTold (p at : List ℕ) : Type 0 where
  pub type : kek_type (key_part_of p) ≡ get_or at 1 0
  pub identifier : identifier_of (key_part_of p) ≡ part_of p (get_or at 2 0) (get_or at 3 0 - get_or at 2 0)
  pub wrapped_key : wrapped_of (key_part_of p) ≡ part_of p (get_or at 3 0) (get_or at 0 0 - get_or at 3 0)

abbrev pub PlacesTell : Type 0
PlacesTell = (p before at : List ℕ) → places_answer p before ≡ (0, at) → PlacesTold p at

abbrev pub WrappedTell : Type 0
WrappedTell = (p before at : List ℕ) → places_answer p before ≡ (0, at) → format_in p ≡ wrapped_format → WrappedTold p at

abbrev pub OthersTellNone : Type 0
OthersTellNone = (p before at : List ℕ) → places_answer p before ≡ (0, at) → (format_in p ≡ wrapped_format → ⊥) → drop 1 at ≡ 0 ∷ 0 ∷ 0 ∷ []

-- ---- loading, for an accepted table, a page that reading accepts, and room

pub record Given (t p out : List ℕ) : Type 0 where
  pub table_accepted : table_ok t ≡ true
  pub readable : page_read_number p ≡ 0
  pub key_fits : row_key_size ≤ length out

-- the load gives k: 0, k is the 32 bytes that the output then begins with, and the page's fields
pub record Loads (t p out fields k : List ℕ) : Type 0 where
  pub size : length k ≡ row_key_size
  pub answers : load_answer t p out fields ≡ ((0, over k out), fields_of p)

-- a 00h page gives its key, whatever the table
abbrev pub LoadsPlain : Type 0
LoadsPlain = (t p out fields : List ℕ) → Given t p out → format_in p ≡ plain_format → Loads t p out fields (key_part_of p)

-- a 01h page gives the key of the row of that whole name, whose use is the algorithm index
abbrev pub LoadsReference : Type 0
LoadsReference =
    (t p out fields k : List ℕ) → Given t p out → format_in p ≡ reference_format
    → Loads t p out fields k ↔ ((row : Row) × (data_row t (key_part_of p) ≡ some row) × (row.row_use ≡ algorithm_in p) × (row.row_key ≡ k))

-- k is a key of 32 bytes that wraps to the wrapped bytes of a 04h page, under a row's key
abbrev pub WrapsUnder : Row → List ℕ → List ℕ → Type 0
WrapsUnder row k p = WrapsTo row.row_key k (wrapped_of (key_part_of p))

-- a 04h page gives k exactly when there is a row of its KEK's type and whole identifier and wrapping k by it gives the 40 bytes
abbrev pub LoadsWrapped : Type 0
LoadsWrapped =
    (t p out fields k : List ℕ) → Given t p out → Bytes t → Bytes p → format_in p ≡ wrapped_format
    → Loads t p out fields k
    ↔ ((row : Row) × (kek_row t (key_part_of p) ≡ some row) × WrapsUnder row k p)

-- "Where no row answers, the load stops there with 6."
abbrev pub NoRowSix : Type 0
NoRowSix =
    (t p out fields : List ℕ) → Given t p out → (format_in p ≡ plain_format → ⊥) → row_named t (format_in p) (key_part_of p) ≡ none
    → load_answer t p out fields ≡ ((6, out), fields)

-- ---- what 9 says of a 04h page (document 02, No. 13): "It is stated over wrapping alone and not by running the unwrap."

-- "table and page accepted, room for the key, a KEK row matched and 40 wrapped bytes"
pub record KekMatched (t p out : List ℕ) (row : Row) : Type 0 where
  pub given : Given t p out
  pub format : format_in p ≡ wrapped_format
  pub matched : kek_row t (key_part_of p) ≡ some row
  pub size : length (wrapped_of (key_part_of p)) ≡ wrapped_size

-- "the load gives a key exactly when some 32-byte key wraps to those bytes under that row": that key
abbrev pub LoadsWhatWraps : Type 0
LoadsWhatWraps =
    (t p out fields : List ℕ) (row : Row) (k : List ℕ) → Bytes t → Bytes p → KekMatched t p out row → Loads t p out fields k ↔ WrapsUnder row k p

-- "there is at most one"
abbrev pub OneKeyWraps : Type 0
OneKeyWraps =
    (t p out : List ℕ) (row : Row) (k k' : List ℕ) → Bytes t → KekMatched t p out row → WrapsUnder row k p → WrapsUnder row k' p → k ≡ k'

-- "and 9 comes exactly when there is none", with the output and the fields as they were
abbrev pub LoadNineExactly : Type 0
LoadNineExactly =
    (t p out fields : List ℕ) (row : Row) → Bytes t → Bytes p → KekMatched t p out row
    → (load_answer t p out fields ≡ ((9, out), fields)) ↔ ((k : List ℕ) → WrapsUnder row k p → ⊥)

-- and the number alone says as much: whatever the table, the page and the output, a load gives 9 only where all this is so
abbrev pub NineSays : Type 0
NineSays =
    (t p out fields : List ℕ) → Bytes t → Bytes p → (load_answer t p out fields).0.0 ≡ 9
    → (row : Row) × KekMatched t p out row × ((k : List ℕ) → WrapsUnder row k p → ⊥)

-- ---- other rows change nothing

abbrev pub LoadOtherRows : Type 0
LoadOtherRows =
    (t u p out fields : List ℕ) → table_ok t ≡ true → table_ok u ≡ true
    → row_named t (format_in p) (key_part_of p) ≡ row_named u (format_in p) (key_part_of p)
    → load_answer t p out fields ≡ load_answer u p out fields

-- so the row of a key-encrypting key changes no answer for a reference, were it of the reference's name, nor any other row one for a 04h page

abbrev pub ReferenceBesideKek : Type 0
ReferenceBesideKek =
    (t u : List ℕ) (row : Row) (p out fields : List ℕ) → table_ok t ≡ true → table_ok u ≡ true → RowMore t u row → row.row_use ≡ kek_use
    → format_in p ≡ reference_format → load_answer u p out fields ≡ load_answer t p out fields

abbrev pub WrappedBesideData : Type 0
WrappedBesideData =
    (t u : List ℕ) (row : Row) (p out fields : List ℕ) → table_ok t ≡ true → table_ok u ≡ true → RowMore t u row → (row.row_use ≡ kek_use → ⊥)
    → format_in p ≡ wrapped_format → load_answer u p out fields ≡ load_answer t p out fields

-- ---- "The lowest that applies is given, and no other."

abbrev pub PageReadTestsRise : Type 0
PageReadTestsRise = (p : List ℕ) → rises (page_read_tests p) ≡ true

abbrev pub PartTestsRise : Type 0
PartTestsRise = (row : Option Row) (algorithm f : ℕ) (s : List ℕ) → rises (part_tests row algorithm f s) ≡ true

abbrev pub LoadTestsRise : Type 0
LoadTestsRise = (ok : Bool) (row : Option Row) (p : List ℕ) (room : ℕ) → rises (load_tests ok row p room) ≡ true

-- ---- for each input one answer, and one state of what is lent

abbrev pub PageReadUnique : Type 0
PageReadUnique = (p fields : List ℕ) → Unique (page_read_answer p fields)

abbrev pub PlacesUnique : Type 0
PlacesUnique = (p at : List ℕ) → Unique (places_answer p at)

abbrev pub LoadUnique : Type 0
LoadUnique = (t p out fields : List ℕ) → Unique (load_answer t p out fields)
