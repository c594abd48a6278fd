-- `Keyed::rounds_after_two` meets its contract. The loop's invariant: of each state, as many rounds are done as round keys were read.
-- Assumes nothing.
use mathlib.Core.Path.{◌≡◌}
use Prim.Native.Nat.{◌-◌}
use native.Mathlib.Omega.{arith}
use Rattle.aes_fast.proofs.Steps.{middle_key}
use Rattle.aes_fast.proofs.Three.{both-none, both_more, both_last}
use Rattle.aes_fast.proofs.Keyed.rounds_after_two.Goals as goal

pub loop-key-init : goal.loop-key-init
loop-key-init c = both-none _ _ c.args.done _ _

pub loop-key-preserved : goal.loop-key-preserved
loop-key-preserved c =
    let l = c.loop-key in
    let ks = c.args.self.keys.now in
    both_more _ ks c.args.done _ _ l.x l.y l.key-index l.invariant _ c.from-k.result _ _
    (middle_key ks _ c.args.done l.key-index c.middle_keys-key-items.ensures.keys (omega (arith, c.middle_keys-key-items.ensures.count)))
    c.from-k.ensures c.round_of_three-x.ensures c.round_of_three-y.ensures

pub returns : goal.returns
returns c =
    let l = c.loop-key in
    let a = c.args in
    let all : l.key-index ≡ 13 - a.done = omega (arith, c.middle_keys-key-items.ensures.count) in
    let both = both_last a.self.tables.now a.self.keys.now a.done a.one a.other l.x l.y l.key-index l.invariant c.from-k-2.result _ _ all
    c.from-k-2.ensures c.last_of_three.ensures c.last_of_three-2.ensures in record {
      one_value = both.0;
      other_value = both.1;
    }
