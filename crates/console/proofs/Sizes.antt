-- The rooms are as long as specs/Rooms.antt says.
-- Assumes nothing.
use mathlib.Core.Path.{refl}
use Rattle.console.specs.Rooms.{RoomsAre}

pub rooms_are : RoomsAre
rooms_are = record {
  table = refl;
  associated = refl;
  word = refl;
  plain = refl;
  record_is = refl;
  long = refl;
  page = refl;
  dump = refl;
  list = refl;
  written = refl;
}
