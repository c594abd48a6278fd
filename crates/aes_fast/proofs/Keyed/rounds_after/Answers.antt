-- `Keyed::rounds_after` meets its contract. The loop's invariant: as many rounds are done as round keys were read.
-- Assumes nothing.
use mathlib.Core.Path.{◌≡◌, ap, ◌∙◌}
use mathlib.Core.List.{[]}
use Prim.Native.Nat.{◌-◌}
use native.Mathlib.Omega.{arith}
use lib.ListN.{get_or}
use Rattle.aes_fast.specs.ByTables.{later_rounds_by}
use Rattle.aes_fast.specs.FourWords.{columns_in}
use Rattle.aes_fast.specs.Halves.{columns_of}
use Rattle.aes_fast.proofs.Steps.{key_bytes, round_by_key, last_round_by_key, middle_key, rounds_after-none, rounds_after_more, last_rounds}
use Rattle.aes_fast.proofs.Keyed.rounds_after.Goals as goal

pub loop-key-init : goal.loop-key-init
loop-key-init c = rounds_after-none _ _ c.args.done _

pub loop-key-preserved : goal.loop-key-preserved
loop-key-preserved c =
    let l = c.loop-key in
    let ks = c.args.self.keys.now in
    rounds_after_more _ ks c.args.done l.key-index _ l.invariant
    (round_by_key _ (columns_in l.x) _ c.round_of_four-x.ensures
    (c.from.ensures ∙ ap key_bytes (middle_key ks _ c.args.done l.key-index c.middle_keys-key-items.ensures.keys (omega (arith, c.middle_keys-key-items.ensures.count)))))

pub returns : goal.returns
returns c =
    let l = c.loop-key in
    let a = c.args in
    let all : l.key-index ≡ 13 - a.done = omega (arith, c.middle_keys-key-items.ensures.count) in
    last_rounds a.self.tables.now a.self.keys.now a.done l.key-index (columns_in c.from-x.result) (columns_of c.from-h.result) _ all
    (last_round_by_key _ _ (get_or a.self.keys.now 14 []) c.last_round.ensures c.from-2.ensures)
    (c.from-h.ensures ∙ l.invariant)
    ∙ ap (later_rounds_by a.self.tables.now a.self.keys.now a.done) c.from-x.ensures
