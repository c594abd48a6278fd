-- `cases::words::no_empty_word` meets its contract.
-- Assumes nothing.
use mathlib.Core.Path.{ap, ◌∙◌}
use lib.Dec.{eqb}
use Rattle.std.proofs.Common.{rules, tests}
use Rattle.std.proofs.lemmas.Iterator.Search.{all_from_yields_List}
use Rattle.std.proofs.lemmas.Iterator.Splits.{YieldsList-from_slice_split}
use Rattle.octets.specs.Tests.{all}
use Rattle.wording.specs.Lines.{space}
use Rattle.cases.specs.Words.{some_bytes}
use Rattle.cases.proofs.Splitting.{split_parts, all_list}
use Rattle.cases.proofs.words.no_empty_word.Goals as goal

pub returns : goal.returns
returns c =
    all_from_yields_List some_bytes _ _ c.all.result c.all.ensures.ran
    (YieldsList-from_slice_split _ (λ b. eqb b space) c.args.line.now c.split.ensures.rest c.split.ensures.done c.split.ensures.closure (λ x r q k. search (rules, tests)))
    (λ x b q k. search (rules, tests))
    ∙ all_list some_bytes _
    ∙ ap (all some_bytes) (split_parts space c.args.line.now)
