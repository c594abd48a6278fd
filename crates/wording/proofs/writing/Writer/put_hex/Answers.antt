-- `wording::writing::Writer::put_hex` meets its contract: after i turns the digits of the first i bytes are written.
-- Assumes nothing.
use mathlib.Core.Path.{refl, sym, ap, ◌∙◌}
use mathlib.Core.List.{List, [], ◌∷◌}
use Prim.Native.Nat.{ℕ, ◌+◌, ◌*◌, ◌≤◌}
use native.Mathlib.Omega.{arith}
use lib.ListN.{length, take}
use lib.Seq.{take_all, length-take-le}
use borrow.Author.Tests.{leb-true, leb-false}
use Rattle.wording.specs.Hex.{digits_of}
use Rattle.wording.specs.Writing.{writer_put}
use Rattle.wording.proofs.Digits.{length-digits_of}
use Rattle.wording.proofs.Puts.{writer-not, writer_wrote, hex_turn, writer-err}
use Rattle.wording.proofs.Wrote.{wrote_none, wrote-length}
use Rattle.wording.proofs.writing.Writer.put_hex.Goals as goal

pub returns-then-not-has_room : goal.returns-then-not-has_room
returns-then-not-has_room c =
    record { same_room = refl; put = writer-not _ _ _ (simp length-digits_of (leb-false _ _ (sym c.has_room.ensures ∙ c.if-not-has_room.true))) }

pub loop-b-init : goal.loop-b-init
unfolding digits_of
loop-b-init c =
    let a = c.args.self.now in
    let fits : a.at + 2 * length c.args.s.now ≤ length a.out.now = leb-true _ _ (sym c.has_room.ensures ∙ c.if-not-has_room.false) in
    record { same_room = refl; fits = fits; wrote = wrote_none a.at a.out.now (omega arith) }

pub returns-in_err-put_string : goal.returns-in_err-put_string
returns-in_err-put_string c =
    let held = c.loop-b.invariant in
    let long = writer-err (c.digit_of.result ∷ c.digit_of-in-loop-b.result ∷ []) _ _ c.in_err-put_string.ensures.put in
    absurd (omega (
      arith,
      held.fits,
      held.wrote.place,
      wrote-length held.wrote,
      length-digits_of c.args.capital (take c.loop-b.b-index c.args.s.now),
      length-take-le c.loop-b.b-index c.args.s.now (omega (arith, c.loop-b-test.true)),
      c.loop-b-test.true,
    ))

pub loop-b-preserved : goal.loop-b-preserved
loop-b-preserved c =
    let held = c.loop-b.invariant in record {
      same_room = c.in_ok-put_string.ensures.same_room ∙ held.same_room;
      fits = held.fits;
      wrote = hex_turn c.args.capital c.args.s.now c.loop-b-test.true held.wrote c.digit_of.ensures c.digit_of-in-loop-b.ensures c.in_ok-put_string.ensures.put;
    }

pub returns : goal.returns
returns c =
    let held = c.loop-b.invariant in record {
      same_room = held.same_room;
      put =
          ap (λ (t : List ℕ). writer_put (digits_of c.args.capital t) (c.args.self.now.at, c.args.self.now.out.now)) (sym (take_all c.loop-b.b-index c.args.s.now c.loop-b-test.false))
          ∙ writer_wrote held.wrote;
    }
