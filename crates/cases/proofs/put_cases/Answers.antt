-- `cases::put_cases` meets its contract: after some turns the text of the lines so far is written.
-- Assumes nothing.
use lib.Dec.{eqb}
use Rattle.std.proofs.Common.{rules, tests}
use Rattle.std.proofs.lemmas.Iterator.Consumers.{YieldsList-at, YieldsList-end, YieldsList-from_enumerate}
use Rattle.std.proofs.lemmas.Iterator.Splits.{YieldsList-from_slice_split}
use Rattle.std.proofs.lemmas.Result.{err_from_is_err_and}
use Rattle.wording.specs.Lines.{newline}
use Rattle.wording.proofs.Puts.{adds_none, adds_then, adds_stop}
use Rattle.cases.proofs.Numbered.{numbered_turn, numbered_parted, lines_numbered}
use Rattle.cases.proofs.put_cases.Goals as goal

pub loop-i-init : goal.loop-i-init
loop-i-init c = adds_none

pub loop-i-preserved : goal.loop-i-preserved
loop-i-preserved c = rw (numbered_turn c.loop-i.yielded _) (adds_then c.loop-i.invariant c.in_ok-put_case.ensures)

pub returns-in_err-put_case : goal.returns-in_err-put_case
returns-in_err-put_case c =
    let p = err_from_is_err_and c.from_residual.result c.from_residual.ensures.1 in
    let parted =
    numbered_parted
    (YieldsList-at c.into_iter-i-iterator.ensures.into_iter_gives
    (YieldsList-from_enumerate
    (YieldsList-at c.enumerate-i-items.ensures.source
    (YieldsList-from_slice_split _ (λ b. eqb b newline) c.args.input.now c.split.ensures.rest c.split.ensures.done c.split.ensures.closure (λ x r q k. search (rules, tests))))
    c.enumerate-i-items.ensures.count))
    c.loop-i.yielded c.loop-i.yielded_by (c.in-Some.i, c.in-Some.line) c.next.new.self c.in-Some.ensures.steps in
    rw (p.1, p.2, lines_numbered c.args.input.now, parted.1) (adds_then c.loop-i.invariant (adds_stop parted.0 c.in_err-put_case.ensures))

pub returns : goal.returns
returns c =
    let all =
    YieldsList-end
    (YieldsList-at c.into_iter-i-iterator.ensures.into_iter_gives
    (YieldsList-from_enumerate
    (YieldsList-at c.enumerate-i-items.ensures.source
    (YieldsList-from_slice_split _ (λ b. eqb b newline) c.args.input.now c.split.ensures.rest c.split.ensures.done c.split.ensures.closure (λ x r q k. search (rules, tests))))
    c.enumerate-i-items.ensures.count))
    c.loop-i.yielded _ c.loop-i.yielded_by _ c.next.new.self c.in-None.is c.next.ensures.steps in
    rw (lines_numbered c.args.input.now, ← all.0) c.loop-i.invariant
