-- `cases::calls::rounds` meets its contract: the rounds of the whole are those that are left, of the block as it is now.
-- Assumes nothing.
use mathlib.Core.Path.{refl, sym, ◌∙◌}
use mathlib.Core.Bool.{Bool}
use mathlib.Core.List.{List}
use Prim.Native.Nat.{ℕ}
use Rattle.std.proofs.lemmas.Result.{err_from_is_err_and}
use Rattle.octets.specs.Lent.{when}
use Rattle.refusals.proofs.Laws.{not_zero}
use Rattle.aes.specs.Calls.{encrypt_block, decrypt_block}
use Rattle.cases.specs.Calls.{block_rounds}
use Rattle.cases.proofs.Rounds.{rounds_turn, rounds-stop, rounds_end}
use Rattle.cases.proofs.calls.rounds.Goals as goal

abbrev way : Bool → List ℕ → List ℕ → ℕ × List ℕ
way there = when there encrypt_block decrypt_block

pub returns-in_err-one_round : goal.returns-in_err-one_round
returns-in_err-one_round c =
    let s = c.args in
    let p = err_from_is_err_and c.from_residual.result c.from_residual.ensures.1 in
    rw (p.1, p.2)
    (c.loop.invariant
    ∙ rounds-stop (way s.there) s.key.now c.loop.block _ _ c.in_err-one_round.ensures block_rounds c.loop.counter c.loop-test.true (λ e. not_zero c.in_err-one_round.field-0.0 (sym e)))

pub loop-preserved : goal.loop-preserved
loop-preserved c =
    let s = c.args in
    c.loop.invariant ∙ rounds_turn (way s.there) s.key.now c.loop.block _ _ c.in_ok-one_round.ensures block_rounds c.loop.counter c.loop-test.true refl

pub returns : goal.returns
returns c =
    let s = c.args in
    c.loop.invariant ∙ rounds_end (way s.there) s.key.now _ block_rounds c.loop.counter c.loop-test.false
