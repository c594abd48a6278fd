use mathlib.Core.Path.{◌≡◌}
use Rattle.aes_fast.specs.ByTables.{rounds_after}
use Rattle.aes_fast.specs.FourWords.{columns_in}
use Rattle.aes_fast.proofs.Keyed.rounds_after.Given as goal

abbrev pub invariant-loop-key : goal.invariant-loop-key
invariant-loop-key l = columns_in l.x ≡ rounds_after l.self.tables.now l.self.keys.now l.done l.key-index (columns_in l.initial.x)
