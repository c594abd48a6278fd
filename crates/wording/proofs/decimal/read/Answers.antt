-- `wording::decimal::read` meets its contract: each turn takes one digit more.
-- Assumes nothing.
use mathlib.Core.Path.{◌≡◌, sym, ◌∙◌}
use mathlib.Core.Bool.{true}
use borrow.Author.Tests.{eqb-true}
use lib.ListN.{get_or}
use Rattle.wording.specs.Decimal.{is_decimal_digit}
use Rattle.wording.proofs.Number.{read_empty, read-stop, read_turn, read_end}
use Rattle.wording.proofs.decimal.read.Goals.{Else-not-is_decimal}
use Rattle.wording.proofs.decimal.read.Goals as goal

digit : (c : Else-not-is_decimal)
    → is_decimal_digit (get_or c.args.word.now c.loop-c.c-index 0) ≡ true
digit c = sym c.is_decimal.ensures ∙ c.if-not-is_decimal.false

pub returns-then-is_empty : goal.returns-then-is_empty
returns-then-is_empty c = sym (read_empty _ (eqb-true _ 0 (sym c.is_empty.ensures ∙ c.if-is_empty.true)))

pub returns-then-not-is_decimal : goal.returns-then-not-is_decimal
returns-then-not-is_decimal c =
    sym (read-stop c.loop-c.invariant c.loop-c-test.true (sym c.is_decimal.ensures ∙ c.if-not-is_decimal.true))

pub loop-c-preserved : goal.loop-c-preserved
loop-c-preserved c =
    read_turn c.loop-c.invariant _ _ c.loop-c-test.true (digit (goal.at.loop-c-preserved c).Else-not-is_decimal) c.counts.ensures.0 c.with_digit-v.ensures

pub returns : goal.returns
returns c = sym (read_end c.loop-c.invariant c.loop-c-test.false)
