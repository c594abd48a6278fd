use mathlib.Core.Path.{◌≡◌}
use Prim.Native.Nat.{◌*◌}
use lib.ListN.{length, drop}
use Rattle.octets.specs.Running.{absorb}
use Rattle.aes_fast.specs.ByTables.{cipher_by}
use Rattle.cbc_mac.proofs.absorb_blocks.Given as goal

abbrev pub invariant-loop-b : goal.invariant-loop-b
invariant-loop-b l =
    let f = cipher_by l.cipher.tables.now l.cipher.keys.now in
    (length l.x ≡ 16) × (absorb f 0 l.x (drop (l.b-index * 16) l.part) ≡ absorb f 0 l.initial.x l.part)
