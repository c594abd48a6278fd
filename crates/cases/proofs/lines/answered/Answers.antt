-- `cases::lines::answered` meets its contract.
-- Assumes nothing.
use mathlib.Core.Path.{◌≡◌}
use mathlib.Core.Bool.{true}
use mathlib.Core.List.{List}
use Prim.Native.Nat.{ℕ}
use Rattle.std.specs.Prelude.{Option, Some, None}
use Rattle.cases.specs.declared.calls.Call.{Call as Named}
use Rattle.cases.specs.declared.lines.Answer.{Answer}
use Rattle.cases.specs.Words.{word_at}
use Rattle.cases.specs.Calls.{calls, call_named}
use Rattle.cases.specs.Line.{words_right, strings_right, answer_of}
use Rattle.cases.specs.Named.{call_place, entry}
use Rattle.cases.specs.Parts.{Answers, Says}
use Rattle.cases.proofs.Told.{text_unasked, text_refused, text_answered}
use Rattle.cases.proofs.lines.answered.Goals as goal

pub returns-in_err-call : goal.returns-in_err-call
returns-in_err-call c = rw c.from_residual.ensures (λ n other. text_unasked c.args.line.now n other c.in_err-call.ensures)

-- what the call answered, or that a word is not right

told : (line : List ℕ) (call : Named) (answer : Option Answer) → words_right line (call_named (word_at line 1) calls) ≡ true → call_named (word_at line 1) calls ≡ call_place call
    → Answers (strings_right line (entry call)) (answer_of line (entry call)) answer → Says line answer
told line call None asked is e = λ n other. text_refused line n other asked is e
told line call (Some a) asked is (right, e) = λ n other. text_answered line n other asked is right e

pub returns : goal.returns
returns c = told c.args.line.now c.in_ok-call.call c.called.result c.in_ok-call.ensures.0 c.in_ok-call.ensures.1 c.called.ensures
