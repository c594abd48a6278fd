-- `descriptor_text::put_list` meets its contract: the count's line, and a line for each descriptor that the reader shows, up to the first that does not fit.
-- Assumes nothing.
use Rattle.std.proofs.Common.{◌∙◌, sym, ap, ℕ, List, arith}
use Rattle.std.specs.Prelude.{Ok}
use Rattle.std.proofs.lemmas.Result.{err_from_is_err_and}
use Rattle.wording.proofs.Puts.{adds, adds_stop}
use Rattle.descriptors.proofs.ReaderSteps.{Left, First, not_refused, none_more, one_shown}
use Rattle.descriptor_text.proofs.Texts.{counted, at_start}
use Rattle.descriptor_text.proofs.Written.{line_written, line_refused, all_written}
use Rattle.descriptor_text.proofs.put_list.Goals.{In-Some}
use Rattle.descriptor_text.proofs.put_list.Goals as goal

pub returns-in_err-put_line : goal.returns-in_err-put_line
returns-in_err-put_line c =
    let p = err_from_is_err_and c.from_residual-in_err-put_line.result c.from_residual-in_err-put_line.ensures.1 in
    rw (p.1, p.2, sym (counted c.args.list c.args.opening.label c.args.opening.strict c.requires _ _ c.in_ok-count.ensures)) (adds_stop _ (adds c.in_err-put_line.ensures))

pub loop-descriptor-init : goal.loop-descriptor-init
loop-descriptor-init c =
    let a = c.args in (
      _,
      at_start a.list a.opening.label a.opening.strict c.requires _ _ c.in_ok-count.ensures,
      record { text = _; adds = adds c.in_ok-put_line.ensures; whole = counted a.list a.opening.label a.opening.strict c.requires _ _ c.in_ok-count.ensures },
    )

pub returns-in_err-descriptor : goal.returns-in_err-descriptor
returns-in_err-descriptor c =
    let (us, left, text) = c.loop-descriptor.invariant in absurd (not_refused _ _ _ _ us left _ _ c.next.ensures _ c.in_err-descriptor.was)

module _ (c : In-Some) where
  first : (us : List (List ℕ)) → Left c.args.opening.label c.args.opening.strict c.args.list.now c.loop-descriptor.reader us
      → First c.args.opening.label c.args.opening.strict c.args.list.now c.loop-descriptor.reader c.in-Some.descriptor us c.next.new.r
  first us left = one_shown _ _ _ _ us left _ _ c.next.ensures _ (c.in_ok-descriptor.was ∙ ap Ok c.in-Some.is)

pub loop-descriptor-smaller : goal.loop-descriptor-smaller
loop-descriptor-smaller c =
    let (us, left, text) = c.loop-descriptor.invariant in
    let f = first (goal.at.loop-descriptor-smaller c).In-Some us left in omega (arith, f.moves, f.within)

pub loop-descriptor-preserved : goal.loop-descriptor-preserved
loop-descriptor-preserved c =
    let (us, left, text) = c.loop-descriptor.invariant in
    let f = first (goal.at.loop-descriptor-preserved c).In-Some us left in
    (f.others, f.left, line_written _ _ (rw f.first at text) c.in_ok-put_descriptor.ensures)

pub returns-in_err-put_descriptor : goal.returns-in_err-put_descriptor
returns-in_err-put_descriptor c =
    let (us, left, text) = c.loop-descriptor.invariant in
    let f = first (goal.at.returns-in_err-put_descriptor c).In-Some us left in
    let p = err_from_is_err_and c.from_residual-in_err-put_descriptor.result c.from_residual-in_err-put_descriptor.ensures.1 in
    rw (p.1, p.2) (line_refused _ _ (rw f.first at text) c.in_err-put_descriptor.ensures)

pub returns : goal.returns
returns c =
    let (us, left, text) = c.loop-descriptor.invariant in
    let none = none_more _ _ _ _ us left _ _ c.next.ensures (c.in_ok-descriptor.was ∙ ap Ok c.in_default.is) in
    all_written (rw none at text)
