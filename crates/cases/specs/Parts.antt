-- What the private functions promise: a word's bytes, an answer, and the text of the lines so far.
-- Assumes nothing.
use Rattle.std.specs.Prelude.{◌≡◌, ℕ, Bool, true, false, List, take, Option, Some, None}
use Rattle.refusals.specs.Numbers.{outcome_number}
use Rattle.wording.specs.declared.text.Text.{Text}
use Rattle.cases.specs.Strings.{word_max}
use Rattle.cases.specs.Words.{word_at}
use Rattle.cases.specs.Calls.{calls, call_named}
use Rattle.cases.specs.Named.{call_place}
use Rattle.cases.specs.Line.{is_comment, words_right, answer_text, refused_text, case_text}
use Rattle.cases.specs.declared.calls.Call.{Call as Named}
use Rattle.cases.specs.declared.lines.Answer.{Answer}

-- s where `test` holds, and nothing where it does not
abbrev pub Holds : Bool → List ℕ → Option (Text word_max) → Type 0
Holds test s None = test ≡ false
Holds test s (Some t) = (test ≡ true) × (take t.size t.bytes ≡ s)

abbrev pub said : Answer → ℕ × List ℕ
said a = (outcome_number a.outcome, take a.lent.size a.lent.bytes)

-- the number and what is lent after it, likewise
abbrev pub Answers : Bool → ℕ × List ℕ → Option Answer → Type 0
Answers test a None = test ≡ false
Answers test a (Some b) = (test ≡ true) × (said b ≡ a)

-- the call of a line with the words of one
abbrev pub Asks : List ℕ → Option Named → Type 0
Asks line None = words_right line (call_named (word_at line 1) calls) ≡ false
Asks line (Some c) = (words_right line (call_named (word_at line 1) calls) ≡ true) × (call_named (word_at line 1) calls ≡ call_place c)

-- the text of a line that is no comment: the answer's, or that it is refused
abbrev pub Says : List ℕ → Option Answer → Type 0
Says line None = (number : ℕ) → is_comment line ≡ false → case_text line number ≡ refused_text number
Says line (Some a) = (number : ℕ) → is_comment line ≡ false → case_text line number ≡ answer_text (word_at line 0) (said a)
