-- `modes::passes::pass` meets its contract: from the state and the counter reached the blocks that are left lead to the result, and the pad is that counter's.
-- Assumes nothing.
use mathlib.Core.Path.{◌≡◌, refl, ◌∙◌}
use mathlib.Core.Bool.{true, false}
use Prim.Native.Nat.{◌+◌}
use native.Mathlib.Omega.{arith}
use lib.ListN.{length}
use Rattle.octets.specs.Blocks.{cut, chain}
use Rattle.aes.specs.Cipher.{cipher}
use Rattle.aes.proofs.Laws.{cipher-length}
use Rattle.modes.specs.Counter.{counter_block, writes_into, front_of}
use Rattle.modes.proofs.CcmPass.{plain_text, passed_start, passed_block, passed_chained, passed-written, written_some, written_same, written_fits, over_none, over_some}
use Rattle.modes.proofs.passes.pass.Given.{Over}
use Rattle.modes.proofs.passes.pass.Goals.{After-chain_last-z}
use Rattle.modes.proofs.passes.pass.Goals as goal

-- the pad of its counter
pad-is : (g : Over) (c : After-chain_last-z g) → (let a = c.args in c.from-last.result ≡ cipher c.of-aes.result.keyed.keys.now (counter_block 3 (front_of false a.pads.base) c.loop-at.k))
pad-is g c = c.from-last.ensures ∙ c.loop-at.invariant.1

chained : (g : Over) (c : After-chain_last-z g)
    → (let a = c.args in
    c.chain_last-z.result ≡ chain (cipher c.of-aes.result.keyed.keys.now) a.y
    (cut (plain_text g.D.Direction.opening (cipher c.of-aes.result.keyed.keys.now) 3 (front_of false a.pads.base) 1 a.text.now)))
chained g c =
    let a = c.args in
    passed_chained (cipher c.of-aes.result.keyed.keys.now) (cipher-length c.of-aes.result.keyed.keys.now) 3 (front_of false a.pads.base) g.D.Direction.opening
    (writes_into a.out.now) c.loop-at.invariant.2
    (omega (arith, c.loop-at-test.false)) c.from-h.ensures (pad-is g c) c.from.ensures c.chain_last-z.ensures

pub loop-at-init : goal.loop-at-init
loop-at-init g c =
    let serves = c.start_at-s.ensures in
    let a = c.args in (
      serves,
      c.encrypt_from-pad.ensures ∙ serves.pads 1 refl,
      passed_start (cipher c.of-aes.result.keyed.keys.now) (cipher-length c.of-aes.result.keyed.keys.now) 3 (front_of false a.pads.base)
          g.D.Direction.opening (writes_into a.out.now) _ a.text.now a.out.now,
    )

pub loop-at-preserved : goal.loop-at-preserved
loop-at-preserved g c =
    let a = c.args in
    let l = c.loop-at in
    let serves = c.renewed-v.ensures in
    let both = c.pass_block-both.ensures in (
      serves,
      both.other_value ∙ serves.pads (l.k + 1) refl,
      passed_block (cipher c.of-aes.result.keyed.keys.now) (cipher-length c.of-aes.result.keyed.keys.now) 3 (front_of false a.pads.base) g.D.Direction.opening (writes_into a.out.now) l.invariant.2
          (written_fits a.out.now (length a.text.now) c.requires.1)
          (omega (arith, c.loop-at-test.true)) l.invariant.1 both.one_value (rw (written_same l.out a.out.now l.invariant.2.room) at both.out_after),
    )

pub returns-then-out-eq0-clause-value : goal.returns-then-out-eq0-clause-value
returns-then-out-eq0-clause-value g c = rw c.of-aes.ensures.1 at (chained g (goal.at.returns-then-out-eq0-clause-value g c).After-chain_last-z)

pub returns-then-out-eq0-clause-out_after : goal.returns-then-out-eq0-clause-out_after
returns-then-out-eq0-clause-out_after g c = over_none _ c.loop-at.out c.args.out.now c.if-out-eq0.true c.loop-at.invariant.2.room

pub returns-clause-value : goal.returns-clause-value
returns-clause-value g c = rw c.of-aes.ensures.1 at (chained g (goal.at.returns-clause-value g c).After-chain_last-z)

pub returns-clause-out_after : goal.returns-clause-out_after
returns-clause-out_after g c =
    let a = c.args in
    let some : writes_into a.out.now ≡ true = written_some a.out.now (λ e. c.if-out-eq0.false (c.loop-at.invariant.2.room ∙ e)) in
    rw c.of-aes.ensures.1 at
    (passed-written (cipher c.of-aes.result.keyed.keys.now) (cipher-length c.of-aes.result.keyed.keys.now) 3 (front_of false a.pads.base) g.D.Direction.opening (writes_into a.out.now) some
    c.loop-at.invariant.2 (written_fits a.out.now (length a.text.now) c.requires.1) (omega (arith, c.loop-at-test.false))
    (pad-is g (goal.at.returns-clause-out_after g c).After-chain_last-z) c.put_last.ensures
    ∙ over_some _ a.out.now some)
