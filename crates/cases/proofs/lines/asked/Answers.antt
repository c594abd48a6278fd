-- `cases::lines::asked` meets its contract.
-- Assumes nothing.
use mathlib.Core.Path.{◌≡◌, sym, ap, ◌∙◌}
use native.Mathlib.Omega.{arith}
use Rattle.cases.specs.Words.{word_at}
use Rattle.cases.specs.Calls.{calls, call_named}
use Rattle.cases.specs.Named.{call_place}
use Rattle.cases.proofs.Named.{place_small}
use Rattle.cases.proofs.Told.{right-none, right-few, right-empty, right_all}
use Rattle.cases.proofs.lines.asked.Goals.{In_ok-call}
use Rattle.cases.proofs.lines.asked.Goals as goal

named : (c : In_ok-call) → call_named (word_at c.args.line.now 1) calls ≡ call_place c.in_ok-call.call
named c = sym (c.in_ok-call.ensures ∙ ap (λ n. call_named n calls) c.word.ensures)

pub returns-in_err-call : goal.returns-in_err-call
returns-in_err-call c =
    rw c.from_residual.ensures (right-none c.args.line.now _ (sym (c.in_err-call.ensures ∙ ap (λ n. call_named n calls) c.word.ensures)))

pub returns-then-spaces-strings : goal.returns-then-spaces-strings
returns-then-spaces-strings c =
    rw (named (goal.at.returns-then-spaces-strings c).In_ok-call)
    (right-few c.args.line.now (call_place c.in_ok-call.call) (λ e. c.if-spaces-strings.true (omega (arith, c.spaces.ensures, c.strings.ensures.0, e))))

pub returns-then-not-no_empty_word : goal.returns-then-not-no_empty_word
returns-then-not-no_empty_word c = right-empty c.args.line.now _ (sym c.no_empty_word.ensures ∙ c.if-not-no_empty_word.true)

pub returns : goal.returns
returns c =
    let e = named (goal.at.returns c).In_ok-call in (
      rw e
          (right_all c.args.line.now (call_place c.in_ok-call.call) (place_small c.in_ok-call.call)
          (omega (arith, c.spaces.ensures, c.strings.ensures.0, c.if-spaces-strings.false)) (sym c.no_empty_word.ensures ∙ c.if-not-no_empty_word.false)),
      e,
    )
