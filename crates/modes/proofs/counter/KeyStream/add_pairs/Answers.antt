-- `modes::counter::KeyStream::add_pairs` meets its contract: two blocks a turn, whose counters one start serves, and then the rest.
-- Assumes nothing.
use mathlib.Core.Path.{◌≡◌, refl, ◌∙◌}
use Prim.Native.Nat.{◌+◌, ◌-◌, ◌%◌}
use native.Mathlib.Omega.{arith}
use lib.ListN.{length, take}
use Rattle.aes.specs.Cipher.{cipher}
use Rattle.aes.proofs.Laws.{cipher-length}
use Rattle.aes_fast.specs.Halves.{halves_block}
use Rattle.aes_fast.specs.Start.{cipher_from}
use Rattle.modes.proofs.Limits.{pair_within, pair_even, pair_same}
use Rattle.modes.proofs.Stream.{Partly, partly_block}
use Rattle.modes.proofs.Pads.{serves-also}
use Rattle.modes.proofs.counter.KeyStream.add_pairs.Given.{Over}
use Rattle.modes.proofs.counter.KeyStream.add_pairs.Goals.{After-add_at, After-add_at-in-loop-at}
use Rattle.modes.proofs.counter.KeyStream.add_pairs.Goals as goal

-- after the first block of a pair
first : (g : Over) (c : After-add_at g)
    → (let a = c.args in
    Partly (cipher c.of-aes.result.keyed.keys.now) g.row.W (take (16 - g.row.W) a.self.base) a.i a.text.now a.out.now (c.loop-at.at + 16) (c.loop-at.k + 1) c.add_at.new.out)
first g c =
    let a = c.args in
    let l = c.loop-at in
    let pad : halves_block c.encrypt_two_from-pads.result.one ≡ cipher_from c.of-aes.result.keyed.tables.now c.of-aes.result.keyed.keys.now l.s (l.k % 256) = c.encrypt_two_from-pads.ensures.0 in
    partly_block l.invariant.2 (omega (arith, c.requires.0)) (cipher-length c.of-aes.result.keyed.keys.now) (pair_within l.at (length a.text.now) c.loop-at-test.true).0
    (pad ∙ l.invariant.1.pads l.k refl) c.add_at.ensures

-- after the second block
second : (g : Over) (c : After-add_at-in-loop-at g)
    → (let a = c.args in
    Partly (cipher c.of-aes.result.keyed.keys.now) g.row.W (take (16 - g.row.W) a.self.base) a.i a.text.now a.out.now (c.loop-at.at + 16 + 16) (c.loop-at.k + 1 + 1)
    c.add_at-in-loop-at.new.out)
second g c =
    let a = c.args in
    let l = c.loop-at in
    partly_block (first g (goal.at.After-add_at-in-loop-at g c).After-add_at) (omega (arith, c.requires.0)) (cipher-length c.of-aes.result.keyed.keys.now)
    (pair_within l.at (length a.text.now) c.loop-at-test.true).1
    (c.encrypt_two_from-pads.ensures.1 ∙ l.invariant.1.pads (l.k + 1) (pair_same l.k l.invariant.0)) c.add_at-in-loop-at.ensures

-- the next counter differs in the last byte alone
pub loop-at-preserved-then-k-eq0 : goal.loop-at-preserved-then-k-eq0
loop-at-preserved-then-k-eq0 g c =
    let l = c.loop-at in
    (pair_even l.k l.invariant.0, c.start_at-v.ensures, second g (goal.at.loop-at-preserved-then-k-eq0 g c).After-add_at-in-loop-at)

pub loop-at-preserved : goal.loop-at-preserved
loop-at-preserved g c =
    let l = c.loop-at in (
      pair_even l.k l.invariant.0,
      serves-also l.invariant.1 (l.k + 1 + 1) (omega (arith, l.invariant.0, c.if-k-eq0.false)),
      second g (goal.at.loop-at-preserved g c).After-add_at-in-loop-at,
    )
