-- `modes::counter::KeyStream::add` meets its contract: its test is the definition's; a block first where the counter is odd, and then pairs.
-- Assumes nothing.
use mathlib.Core.Path.{sym, ap, ◌∙◌}
use mathlib.Core.List.{List}
use Prim.Native.Nat.{ℕ, ◌*◌, ◌%◌, ◌-◌}
use borrow.Author.Tests.{not-true, not-false}
use lib.ListN.{length, take}
use Rattle.aes.specs.Cipher.{cipher}
use Rattle.aes.proofs.Laws.{cipher-length}
use Rattle.modes.proofs.Limits.{least_inside, least-whole, odd-one, counter_answer_fits, counter_answer_past}
use Rattle.modes.proofs.Stream.{parts-over}
use Rattle.modes.proofs.counter.KeyStream.add.Goals as goal

pub returns-then-runs_over : goal.returns-then-runs_over
returns-then-runs_over g c = counter_answer_past _ _ _ _ _ _ (not-true _ (sym c.runs_over.ensures ∙ c.if-runs_over.true))

pub returns : goal.returns
returns g c =
    let a = c.args in
    let h = c.min-head in
    let n = length a.text.now in
    counter_answer_fits _ _ _ _ _ _ (not-false _ (sym c.runs_over.ensures ∙ c.if-runs_over.false))
    ∙ ap (λ (l : List ℕ). (0, l))
    (sym
    (parts-over (cipher a.self.aes.keyed.keys.now) (cipher-length a.self.aes.keyed.keys.now) g.row.W (take (16 - g.row.W) a.self.base) a.i (a.i % 2) h.result a.text.now a.out.now
    c.requires.0 (least_inside (16 * (a.i % 2)) n h.ensures) (odd-one a.i h.result) (least-whole (16 * (a.i % 2)) n h.ensures) c.add_single.ensures
    c.add_pairs.ensures))
