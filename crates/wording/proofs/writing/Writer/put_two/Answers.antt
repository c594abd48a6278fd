-- `wording::writing::Writer::put_two` meets its contract.
-- Assumes nothing.
use mathlib.Core.Path.{refl, sym, ◌∙◌}
use Prim.Native.Nat.{◌+◌, ◌≤◌}
use native.Mathlib.Omega.{arith}
use lib.ListN.{length, length-append}
use borrow.Author.Tests.{leb-true, leb-false}
use Rattle.wording.proofs.Puts.{writer-not, writer_ok, writer-err, writer_then}
use Rattle.wording.proofs.writing.Writer.put_two.Goals.{Else-not-has_room}
use Rattle.wording.proofs.writing.Writer.put_two.Goals as goal

pub returns-then-not-has_room : goal.returns-then-not-has_room
returns-then-not-has_room c =
    record { same_room = refl; put = writer-not _ _ _ (simp length-append (leb-false _ _ (sym c.has_room.ensures ∙ c.if-not-has_room.true))) }

room : (c : Else-not-has_room) → c.args.self.now.at + (length c.args.s.now + length c.args.t.now) ≤ length c.args.self.now.out.now
room c = leb-true _ _ (sym c.has_room.ensures ∙ c.if-not-has_room.false)

pub returns-in_err-put_string : goal.returns-in_err-put_string
returns-in_err-put_string c =
    let long = writer-err c.args.s.now _ _ c.in_err-put_string.ensures.put in
    absurd (omega (arith, room (goal.at.returns-in_err-put_string c).Else-not-has_room))

pub returns : goal.returns
returns c =
    record {
      same_room = c.put_string-2.ensures.same_room ∙ c.in_ok-put_string.ensures.same_room;
      put = writer_then c.args.t.now (writer_ok c.args.s.now c.in_ok-put_string.ensures.put) (room (goal.at.returns c).Else-not-has_room) c.put_string-2.ensures.put;
    }
