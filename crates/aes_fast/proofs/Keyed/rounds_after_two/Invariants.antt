use Rattle.aes_fast.proofs.Three.{BothDone}
use Rattle.aes_fast.proofs.Keyed.rounds_after_two.Given as goal

abbrev pub invariant-loop-key : goal.invariant-loop-key
invariant-loop-key l = BothDone l.self.tables.now l.self.keys.now l.done l.initial.x l.initial.y l.x l.y l.key-index
