-- `Fine::fill_window` meets its contract: the entries of the last four bits, and then those whose highest bit is 16 and 32.
-- Assumes nothing.
use mathlib.Core.Path.{◌≡◌, refl, ap, ◌∙◌}
use native.Mathlib.Omega.{arith}
use Rattle.ghash.specs.Field.{times_x, times_xs}
use Rattle.ghash.specs.Words.{val}
use Rattle.ghash.proofs.Entries.{window_sums, window_four, filled-same, twice}
use Rattle.ghash.proofs.table.FineCut.fill_window.Goals as goal

pub returns-clause-by_index : goal.returns-clause-by_index
returns-clause-by_index c =
    let a = c.args in
    let base = a.base in
    let v = val a.v in
    let e1 : val c.times_x-v1.result ≡ times_xs 1 (val a.v) = c.times_x-v1.ensures in
    let e2 : val c.times_x.result ≡ times_xs 2 (val a.v) = c.times_x.ensures ∙ ap times_x e1 in
    λ f w g.
    filled-same (twice base 32 64 refl)
    (c.extend-2.ensures.by_index f (window_sums f base 0 5 v v (omega arith) refl w)
    (filled-same (twice base 16 32 refl)
    (c.extend.ensures.by_index f (window_sums f base 1 4 v _ (omega arith) e1 w)
    (c.fill_four-next.ensures.by_index f (window_four f base v _ e2 w) g))))
