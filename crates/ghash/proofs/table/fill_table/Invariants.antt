use mathlib.Core.Path.{◌≡◌}
use Prim.Native.Nat.{ℕ, ◌+◌, ◌*◌, ◌^◌}
use lib.ListN.{length}
use Rattle.ghash.specs.Field.{times_xs}
use Rattle.ghash.specs.Table.{window_width, entry_at, Filled}
use Rattle.ghash.specs.Words.{val}
use Rattle.ghash.proofs.table.fill_table.Given as goal

abbrev pub invariant-loop-k : goal.invariant-loop-k
invariant-loop-k g l =
    (length l.table ≡ length l.initial.table)
    × ((v : ℕ) → val l.initial.next ≡ times_xs 4 v → Filled (entry_at (window_width g.C.Cut.fine) v) l.initial.table 16
    → (val l.next ≡ times_xs (4 + window_width g.C.Cut.fine * l.k) v) × Filled (entry_at (window_width g.C.Cut.fine) v) l.table (16 + l.k * 2 ^ window_width g.C.Cut.fine))
