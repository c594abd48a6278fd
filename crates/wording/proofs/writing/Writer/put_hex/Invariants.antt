use mathlib.Core.Path.{◌≡◌}
use Prim.Native.Nat.{◌+◌, ◌*◌, ◌≤◌}
use lib.ListN.{length, take}
use Rattle.wording.specs.Hex.{digits_of}
use Rattle.wording.specs.Writing.{Wrote}
use Rattle.wording.proofs.writing.Writer.put_hex.Given as goal

abbrev pub invariant-loop-b : goal.invariant-loop-b
invariant-loop-b l = record {
  same_room : l.self.out.ghost_name ≡ l.initial.self.out.ghost_name;
  fits : l.initial.self.at + 2 * length l.s ≤ length l.initial.self.out.now;
  wrote : Wrote l.initial.self.at (digits_of l.capital (take l.b-index l.s)) l.initial.self.out.now l.self.out.now l.self.at;
}
