-- How long the rooms of src/rooms.rt are.
-- Assumes nothing.
use Rattle.std.specs.Prelude.{◌≡◌, ℕ}
use Rattle.console.specs.declared.rooms.TheConstants.{TABLE_ROOM, ASSOCIATED_ROOM, WORD_ROOM, PLAIN_ROOM, RECORD_ROOM, LONG_ROOM, PAGE_ROOM, DUMP_ROOM, LIST_ROOM, WRITTEN_ROOM}

abbrev pub table_room : ℕ
table_room = 4617

abbrev pub associated_room : ℕ
associated_room = 4097

abbrev pub word_room : ℕ
word_room = 2048

abbrev pub plain_room : ℕ
plain_room = 1048577

abbrev pub record_room : ℕ
record_room = 1048660

abbrev pub long_room : ℕ
long_room = 4194304

abbrev pub page_room : ℕ
page_room = 65540

abbrev pub dump_room : ℕ
dump_room = 65537

abbrev pub list_room : ℕ
list_room = 4456653

abbrev pub written_room : ℕ
written_room = 4096

-- the constants of src/rooms.rt are these
pub record RoomsAre : Type 0 where
  pub table : TABLE_ROOM ≡ table_room
  pub associated : ASSOCIATED_ROOM ≡ associated_room
  pub word : WORD_ROOM ≡ word_room
  pub plain : PLAIN_ROOM ≡ plain_room
  pub record_is : RECORD_ROOM ≡ record_room
  pub long : LONG_ROOM ≡ long_room
  pub page : PAGE_ROOM ≡ page_room
  pub dump : DUMP_ROOM ≡ dump_room
  pub list : LIST_ROOM ≡ list_room
  pub written : WRITTEN_ROOM ≡ written_room
