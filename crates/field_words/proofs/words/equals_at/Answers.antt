-- `field_words::words::equals_at` meets its contract.
-- Assumes nothing.
use mathlib.Core.Path.{◌∙◌}
use Rattle.std.proofs.Common.{rules, tests}
use Rattle.std.proofs.lemmas.Iterator.{YieldsList-from_slice}
use Rattle.std.proofs.lemmas.Iterator.Search.{position_from_yields_List}
use Rattle.field_words.specs.Words.{is_equals}
use Rattle.field_words.proofs.First.{place_or}
use Rattle.field_words.proofs.words.equals_at.Goals as goal

pub returns : goal.returns
returns c =
    c.unwrap_or.ensures
    ∙ place_or is_equals c.args.word.now c.position.result
    (position_from_yields_List is_equals _ _ c.position.result c.position.ensures.ran (YieldsList-from_slice c.args.word.now cc) (λ x b q k. search (rules, tests)))
