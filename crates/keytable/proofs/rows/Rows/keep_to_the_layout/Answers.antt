-- `keytable::rows::Rows::keep_to_the_layout` meets its contract: each row is looked at, by its number.
-- Assumes nothing.
use mathlib.Core.Path.{◌≡◌, refl}
use mathlib.Core.Bool.{true, false}
use Prim.Native.Nat.{ℕ}
use native.Mathlib.Omega.{arith}
use Rattle.std.proofs.Common.{rules}
use Rattle.std.proofs.lemmas.Iterator.{cases_from_all, YieldsList-from_range}
use Rattle.octets.specs.Tests.{part_of}
use Rattle.keytable.specs.Row.{row_ok, row_size}
use Rattle.keytable.specs.Table.{row_place}
use Rattle.keytable.proofs.Accepted.{rows_all}
use Rattle.keytable.proofs.rows.Rows.keep_to_the_layout.Goals as goal

pub returns : goal.returns
returns c =
    let t = c.args.self.table.now in
    let n = c.count.result in
    rows_all row_ok t n _ c.count.ensures
    (cases_from_all _ _ _ (λ (k : ℕ). row_ok (part_of t (row_place k) row_size) ≡ true) (λ (k : ℕ). row_ok (part_of t (row_place k) row_size) ≡ false) c.all.ensures.ran
    (YieldsList-from_range 0 n n refl (omega arith)) (λ x q k. search rules) (λ x q k. search rules))
