use mathlib.Core.Path.{◌≡◌}
use Prim.Native.Nat.{ℕ, ◌*◌}
use lib.ListN.{drop}
use Rattle.octets.specs.Running.{absorb}
use Rattle.ghash.specs.Field.{times_h}
use Rattle.ghash.specs.Words.{block_of}
use Rattle.ghash.proofs.running.absorb_blocks.Given as goal

abbrev pub invariant-loop-b : goal.invariant-loop-b
invariant-loop-b g l =
    (h : ℕ) → g.T.Tables.are_of l.t h
    → absorb (times_h h) 0 (block_of l.s) (drop (l.b-index * 16) l.text) ≡ absorb (times_h h) 0 (block_of l.initial.s) l.text
