-- `octets::strings::all_zero` meets its contract: the closure tests each byte as the definition does.
-- Assumes nothing.
use Rattle.std.proofs.Common.{◌≡◌, ℕ, rules, true, false}
use Rattle.std.proofs.lemmas.Iterator.{cases_from_all, YieldsList-from_slice}
use borrow.Author.Tests.{tests}
use lib.Dec.{eqb}
use Rattle.octets.proofs.Tests.{all-answer}
use Rattle.octets.proofs.strings.all_zero.Goals as goal

pub returns : goal.returns
returns c =
    all-answer _ c.args.s.now c.all.result
    (cases_from_all _ _ _ (λ (b : ℕ). eqb b 0 ≡ true) (λ (b : ℕ). eqb b 0 ≡ false) c.all.ensures.ran (YieldsList-from_slice c.args.s.now cc)
    (λ x q k. search (rules, tests)) (λ x q k. search (rules, tests)))
