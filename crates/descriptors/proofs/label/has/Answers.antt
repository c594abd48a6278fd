-- `descriptors::label::has` meets its contract: `any` looks at each whole descriptor, and a refusal at the end has no type.
-- Assumes nothing.
use Rattle.std.proofs.Common.{rules, tests, ◌∙◌}
use Rattle.std.proofs.lemmas.Iterator.Search.{any_from_yields_List}
use Rattle.descriptors.proofs.Present.{has_type, any_present, walk_yields}
use Rattle.descriptors.proofs.label.has.Goals as goal

pub returns : goal.returns
returns c =
    any_from_yields_List (has_type c.args.kind) _ _ _ c.any.ensures.ran (walk_yields _) (λ x b q k. search (rules, tests))
    ∙ any_present c.args.kind c.args.list.now
