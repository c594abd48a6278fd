-- `cases::words::spaces` meets its contract.
-- Assumes nothing.
use mathlib.Core.Path.{◌≡◌, ◌∙◌}
use lib.Dec.{eqb}
use Rattle.std.specs.List.{count_by}
use Rattle.std.proofs.Common.{rules}
use Rattle.wording.specs.Lines.{space}
use Rattle.cases.proofs.Splitting.{count_parts}
use Rattle.cases.proofs.words.spaces.Goals as goal

pub returns : goal.returns
returns c = let n : c.count.result ≡ count_by (λ x. eqb x space) c.args.line.now = search rules in n ∙ count_parts space c.args.line.now
