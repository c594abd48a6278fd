use mathlib.Core.Path.{◌≡◌}
use Prim.Native.Nat.{ℕ, ◌+◌}
use lib.ListN.{length}
use Rattle.ghash.specs.Table.{Sums, Filled}
use Rattle.ghash.specs.Words.{val}
use Rattle.ghash.proofs.table.extend.Given as goal

abbrev pub invariant-loop-m : goal.invariant-loop-m
invariant-loop-m l =
    (length l.table ≡ length l.initial.table)
    × ((f : ℕ → ℕ) → Sums f l.base l.t (val l.p) → Filled f l.initial.table (l.base + l.t) → Filled f l.table (l.base + l.t + l.m))
