-- `wording::hex::fill_bytes` meets its contract: after i turns the bytes of the first i pairs are written.
-- Assumes nothing.
use mathlib.Core.Path.{◌≡◌, ◌∙◌}
use Prim.Native.Nat.{◌/◌}
use native.Mathlib.Omega.{arith}
use lib.ListN.{length, length-set}
use Rattle.octets.proofs.Lent.{over_turn, over_end}
use Rattle.wording.specs.Hex.{hex_bytes}
use Rattle.wording.proofs.Digits.{length-hex_bytes, get_d-hex_bytes}
use Rattle.wording.proofs.hex.fill_bytes.Goals.{At-loop-i}
use Rattle.wording.proofs.hex.fill_bytes.Goals as goal

size : (c : At-loop-i) → length (hex_bytes c.args.word.now) ≡ length c.args.word.now / 2
size c = length-hex_bytes _ c.args.word.now (omega (arith, c.requires.0))

pub loop-i-preserved : goal.loop-i-preserved
loop-i-preserved c =
    let word = c.args.word.now in (
      omega arith,
      simp length-set c.loop-i.invariant.1,
      rw (c.loop-i.invariant.2, c.byte_of.ensures, ← get_d-hex_bytes word c.loop-i.i c.loop-i-test.true)
          (over_turn (hex_bytes word) c.args.out.now c.loop-i.i (omega (arith, size (goal.at.loop-i-preserved c).At-loop-i)) (omega (arith, c.requires.1, c.loop-i-test.true))),
    )

pub returns : goal.returns
returns c =
    c.loop-i.invariant.2
    ∙ over_end (hex_bytes c.args.word.now) c.args.out.now c.loop-i.i (omega (arith, size (goal.at.returns c).At-loop-i, c.requires.1, c.loop-i.invariant.0, c.loop-i-test.false))
