-- `cases::words::word` meets its contract.
-- Assumes nothing.
use mathlib.Core.Path.{ap, ◌∙◌}
use mathlib.Core.List.{List, []}
use Prim.Native.Nat.{ℕ}
use lib.Dec.{eqb}
use lib.ListN.{get_or}
use Rattle.std.specs.Prelude.{Option, unwrap_or}
use Rattle.std.specs.Borrow.{Bor}
use Rattle.std.proofs.Common.{rules, tests}
use Rattle.std.proofs.lemmas.Iterator.Consumers.{nth_from_yields_List}
use Rattle.std.proofs.lemmas.Iterator.Splits.{YieldsList-from_slice_split}
use Rattle.wording.specs.Lines.{space}
use Rattle.cases.proofs.Splitting.{split_parts, get_or_get, unwrapped_now}
use Rattle.cases.proofs.words.word.Goals as goal

pub returns : goal.returns
returns c =
    let n =
    nth_from_yields_List c.nth.result _ c.args.number c.nth.ensures.ran
    (YieldsList-from_slice_split _ (λ b. eqb b space) c.args.line.now c.split.ensures.rest c.split.ensures.done c.split.ensures.closure (λ x r q k. search (rules, tests))) in
    ap (λ (r : Bor (List ℕ)). r.now) c.unwrap_or.ensures
    ∙ unwrapped_now c.nth.result _
    ∙ ap (λ (o : Option (List ℕ)). unwrap_or o []) n
    ∙ get_or_get _ c.args.number []
    ∙ ap (λ (ws : List (List ℕ)). get_or ws c.args.number []) (split_parts space c.args.line.now)
