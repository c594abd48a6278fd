-- `aes_fast::start::start_of` meets its contract: the states after no, one and two rounds, and what is taken away from them.
-- Assumes nothing.
use mathlib.Core.Path.{refl, ◌∙◌}
use native.Mathlib.Omega.{arith}
use Rattle.aes_fast.proofs.Starts.{after_0, after_more, start_steps}
use Rattle.aes_fast.proofs.Keyed.start_of.Goals as goal

pub returns : goal.returns
returns c =
    let a = c.args in
    let x = c.add_halves-s.result in
    let y = c.round_of_three-one.result in
    let after0 =
    after_0 a.self.tables.now a.self.keys.now a.b c.from.result c.from-2.result x
    c.from.ensures c.from-2.ensures c.add_halves-s.ensures in
    let after1 =
    after_more a.self.tables.now a.self.keys.now a.b 0 _ _ _ (c.from-3.ensures ∙ after0) c.from-4.ensures c.round_of_three-one.ensures in
    let after2 = after_more a.self.tables.now a.self.keys.now a.b 1 _ _ _ after1 c.from-5.ensures c.round_of_three-two.ensures in
    start_steps a.self.tables.now a.self.keys.now a.b _ x y c.from-6.result c.column_adds.result after0 after1 (c.from-6.ensures ∙ after2)
    refl c.add_entry.ensures c.column_adds.ensures c.add_halves.ensures
    (omega arith) (omega (arith, c.add_halves.type_inv.1.1.0.1)) (omega (arith, c.add_halves.type_inv.1.1.1.0.1))
