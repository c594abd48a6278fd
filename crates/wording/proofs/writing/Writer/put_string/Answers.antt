-- `wording::writing::Writer::put_string` meets its contract.
-- Assumes nothing.
use mathlib.Core.Path.{◌≡◌, refl, sym, ap, ap₂, ◌∙◌}
use mathlib.Core.List.{List, ◌++◌}
use Prim.Native.Nat.{ℕ, ◌+◌, ◌-◌, ◌≤◌}
use native.Mathlib.Omega.{arith}
use borrow.Rule.Slice.PartMut.{put_mid}
use lib.ListN.{length, take, drop}
use lib.Seq.{drop-drop}
use borrow.Author.Tests.{leb-true, leb-false}
use Rattle.wording.proofs.Puts.{writer-not, writer_wrote}
use Rattle.wording.proofs.writing.Writer.put_string.Goals as goal

pub returns-then-not-has_room : goal.returns-then-not-has_room
returns-then-not-has_room c = record { same_room = refl; put = writer-not _ _ _ (leb-false _ _ (sym c.has_room.ensures ∙ c.if-not-has_room.true)) }

pub returns : goal.returns
returns c =
    let a = c.args in
    let fits : a.self.now.at + length a.s.now ≤ length a.self.now.out.now = leb-true _ _ (sym c.has_room.ensures ∙ c.if-not-has_room.false) in
    let count : a.self.now.at + length a.s.now - a.self.now.at ≡ length a.s.now = omega arith in
    let text : put_mid a.self.now.at (a.self.now.at + length a.s.now - a.self.now.at) a.self.now.out.now c.copy_from_slice.new.self
    ≡ take a.self.now.at a.self.now.out.now ++ (a.s.now ++ drop (a.self.now.at + length a.s.now) a.self.now.out.now) =
    ap₂ (λ (s t : List ℕ). take a.self.now.at a.self.now.out.now ++ (s ++ t)) c.copy_from_slice.ensures.after
    (ap (λ (n : ℕ). drop n (drop a.self.now.at a.self.now.out.now)) count ∙ drop-drop (length a.s.now) a.self.now.at a.self.now.out.now) in
    record { same_room = refl; put = writer_wrote (record { fits = fits; place = refl; text = text }) }
