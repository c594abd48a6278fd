use mathlib.Core.Path.{◌≡◌}
use Prim.Native.Nat.{◌-◌}
use Rattle.octets.specs.Lent.{when}
use Rattle.aes.specs.Calls.{encrypt_block, decrypt_block}
use Rattle.cases.specs.Calls.{repeated, block_rounds}
use Rattle.cases.proofs.calls.rounds.Given as goal

abbrev pub invariant-loop : goal.invariant-loop
invariant-loop l =
    repeated (when l.there encrypt_block decrypt_block) block_rounds l.key l.initial.block
    ≡ repeated (when l.there encrypt_block decrypt_block) (block_rounds - l.counter) l.key l.block
