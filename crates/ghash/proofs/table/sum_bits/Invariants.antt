use mathlib.Core.Path.{◌≡◌}
use Prim.Native.Nat.{ℕ, ◌+◌, ◌*◌}
use lib.Bits.{bit_xor}
use Rattle.ghash.specs.Table.{adds, window_width, table_bits, TableOf}
use Rattle.ghash.specs.Words.{val}
use Rattle.ghash.proofs.table.sum_bits.Given as goal

abbrev pub invariant-loop-k : goal.invariant-loop-k
invariant-loop-k g l =
    (v : ℕ) → TableOf g.C.Cut.fine v l.table
    → bit_xor (val l.sum) (adds (4 + window_width g.C.Cut.fine * l.k) v l.left) ≡ adds (table_bits g.C.Cut.fine) v l.initial.left
