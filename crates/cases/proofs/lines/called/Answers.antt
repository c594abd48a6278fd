-- `cases::lines::called` meets its contract: the first word that is not right decides, or the call's answer.
-- Assumes nothing.
use mathlib.Core.Path.{sym, ap, ◌∙◌}
use mathlib.Core.List.{List}
use Prim.Native.Nat.{ℕ}
use lib.Dec.{eqb}
use Rattle.refusals.specs.Numbers.{outcome_number}
use Rattle.cases.specs.Named.{entry}
use Rattle.cases.proofs.Named.{block_is}
use Rattle.cases.proofs.Told.{stop_a, stop_b, stop_c, stop_d, stop_e, stop_lent, all_right, answered, take_put}
use Rattle.cases.proofs.lines.called.Goals as goal

pub returns-in_err-a : goal.returns-in_err-a
returns-in_err-a c = rw c.from_residual.ensures (stop_a c.args.line.now (entry c.args.call) c.strings-n.ensures.0 c.in_err-a.ensures)

pub returns-in_err-b : goal.returns-in_err-b
returns-in_err-b c =
    rw c.from_residual-in_err-b.ensures (stop_b c.args.line.now (entry c.args.call) c.strings-n.ensures.0 c.in_ok-a.ensures.0 c.in_err-b.ensures)

pub returns-in_err-c : goal.returns-in_err-c
returns-in_err-c c =
    rw c.from_residual-in_err-c.ensures
    (stop_c c.args.line.now (entry c.args.call) c.strings-n.ensures.0 c.in_ok-a.ensures.0 c.in_ok-b.ensures.0 c.in_err-c.ensures)

pub returns-in_err-d : goal.returns-in_err-d
returns-in_err-d c =
    rw c.from_residual-in_err-d.ensures
    (stop_d c.args.line.now (entry c.args.call) c.strings-n.ensures.0 c.in_ok-a.ensures.0 c.in_ok-b.ensures.0 c.in_ok-c.ensures.0 c.in_err-d.ensures)

pub returns-in_err-e : goal.returns-in_err-e
returns-in_err-e c =
    rw c.from_residual-in_err-e.ensures
    (stop_e c.args.line.now (entry c.args.call) c.strings-n.ensures.0 c.in_ok-a.ensures.0 c.in_ok-b.ensures.0 c.in_ok-c.ensures.0 c.in_ok-d.ensures.0
    c.in_err-e.ensures)

pub returns-in_err-size : goal.returns-in_err-size
returns-in_err-size c =
    let b = ap (λ n. eqb n 1) c.strings-n.ensures.0 ∙ sym (block_is c.args.call) in
    rw c.from_residual-in_err-size.ensures
    (stop_lent c.args.line.now (entry c.args.call) c.strings-n.ensures.0 c.in_ok-a.ensures.0 c.in_ok-b.ensures.0 c.in_ok-c.ensures.0 c.in_ok-d.ensures.0
    c.in_ok-e.ensures.0 b (rw (← c.word.ensures) c.in_err-size.ensures))

pub returns : goal.returns
returns c =
    let b = ap (λ n. eqb n 1) c.strings-n.ensures.0 ∙ sym (block_is c.args.call) in (
      all_right c.args.line.now (entry c.args.call) c.strings-n.ensures.0 c.in_ok-a.ensures.0 c.in_ok-b.ensures.0 c.in_ok-c.ensures.0 c.in_ok-d.ensures.0
          c.in_ok-e.ensures.0 b (rw (← c.word.ensures) c.in_ok-size.ensures.0),
      ap (λ (l : List ℕ). (outcome_number c.run-outcome.result, l)) (take_put c.in_ok-size.field-0.size _ c.in_ok-size.field-0.bytes c.run-outcome.auto.lent)
          ∙ answered c.args.line.now (entry c.args.call) c.strings-n.ensures.0 b
          (c.as_bytes.ensures ∙ c.in_ok-a.ensures.1)
          (c.as_bytes-2.ensures ∙ c.in_ok-b.ensures.1)
          (c.as_bytes-3.ensures ∙ c.in_ok-c.ensures.1)
          (c.as_bytes-4.ensures ∙ c.in_ok-d.ensures.1)
          (c.as_bytes-5.ensures ∙ c.in_ok-e.ensures.1)
          (rw (← c.word.ensures) c.in_ok-size.ensures.1)
          c.run-outcome.ensures,
    )
