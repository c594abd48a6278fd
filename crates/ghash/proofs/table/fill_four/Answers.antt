-- `ghash::table::fill_four` meets its contract: the entry of no bit, and then those whose highest bit is 1, 2, 4 and 8.
-- Assumes nothing.
use mathlib.Core.Path.{◌≡◌, refl, ap, ◌∙◌}
use native.Mathlib.Omega.{arith}
use Rattle.ghash.specs.Field.{times_x, times_xs}
use Rattle.ghash.specs.Words.{val}
use Rattle.ghash.proofs.Entries.{window-none, window_sums, filled-same, twice}
use Rattle.ghash.proofs.table.fill_four.Goals as goal

pub returns-clause-by_index : goal.returns-clause-by_index
returns-clause-by_index c =
    let a = c.args in
    let base = a.base in
    let v = val a.v in
    let e1 : val c.times_x-v1.result ≡ times_xs 1 (val a.v) = c.times_x-v1.ensures in
    let e2 : val c.times_x-v2.result ≡ times_xs 2 (val a.v) = c.times_x-v2.ensures ∙ ap times_x e1 in
    let e3 : val c.times_x-v3.result ≡ times_xs 3 (val a.v) = c.times_x-v3.ensures ∙ ap times_x e2 in
    λ f w g.
    filled-same (twice base 8 16 refl)
    (c.extend-4.ensures.by_index f (window_sums f base 0 3 v v (omega arith) refl w)
    (filled-same (twice base 4 8 refl)
    (c.extend-3.ensures.by_index f (window_sums f base 1 2 v _ (omega arith) e1 w)
    (filled-same (twice base 2 4 refl)
    (c.extend-2.ensures.by_index f (window_sums f base 2 1 v _ (omega arith) e2 w)
    (filled-same (twice base 1 2 refl)
    (c.extend.ensures.by_index f (window_sums f base 3 0 v _ (omega arith) e3 w)
    (c.write_entry.ensures.by_index f (window-none f base 4 v (omega arith) w) g))))))))
