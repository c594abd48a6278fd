-- `ghash::table::fill_table` meets its contract. The loop's invariant: from the first four bits on, the entries of k windows are right, and V is after them.
-- Assumes nothing.
use mathlib.Core.Path.{◌≡◌, sym, ap, ◌∙◌}
use Prim.Native.Nat.{ℕ, ◌+◌, ◌*◌, ◌^◌}
use native.Mathlib.Omega.{arith}
use Rattle.ghash.specs.Field.{times_xs}
use Rattle.ghash.specs.Table.{window_width, windows, entry_at}
use Rattle.ghash.specs.Words.{val}
use Rattle.ghash.proofs.Entries.{first_window, window_at, filled_none, filled-same, next_window, next_place}
use Rattle.ghash.proofs.table.fill_table.Goals as goal

pub loop-k-preserved : goal.loop-k-preserved
loop-k-preserved g c =
    let l = c.loop-k in
    let b = window_width g.C.Cut.fine in
    let e = c.fill_window-next.ensures in
    let place : 16 + l.k * c.SIZE.result ≡ 16 + l.k * 2 ^ b = ap (λ (n : ℕ). 16 + l.k * n) (c.SIZE.ensures ∙ g.met.C.Cut.size_is) in (
      e.table_len_unchanged ∙ l.invariant.0,
      λ v ev filled.
          let prev = l.invariant.1 v ev filled in (
            next_window b l.k v (val l.next) _ prev.0 e.result_value,
            filled-same (next_place l.k (2 ^ b) (16 + l.k * c.SIZE.result) place)
                (e.by_index (entry_at b v) (window_at b v l.k _ (val l.next) place prev.0) (filled-same (sym place) prev.1)),
          ),
    )

pub returns : goal.returns
returns g c =
    let l = c.loop-k in
    let fine = g.C.Cut.fine in
    let b = window_width fine in
    let v = val c.args.v in
    let e = c.fill_four-next.ensures in
    let k : l.k ≡ windows fine = omega (arith, c.WINDOWS-k-end.ensures ∙ g.met.C.Cut.windows_are) in
    let end = l.invariant.1 v e.result_value (e.by_index (entry_at b v) (first_window b v) (filled_none _ _)) in record {
      table_of = filled-same (ap (λ (n : ℕ). 16 + n * 2 ^ b) k) end.1;
      result_value = end.0 ∙ ap (λ (n : ℕ). times_xs (4 + b * n) v) k;
      table_len_unchanged = l.invariant.0 ∙ e.table_len_unchanged;
    }
