-- `record::sealing::Contents::fill` meets its contract: the front, the IV, and what the mode makes after them.
-- Assumes nothing.
use mathlib.Core.Path.{◌≡◌, sym, ap, ap₂, ◌∙◌}
use mathlib.Core.List.{List, ◌++◌}
use Prim.Native.Nat.{ℕ}
use lib.ListN.{length, take, drop}
use Rattle.octets.specs.Lent.{over}
use Rattle.octets.proofs.Lent.{over-whole}
use Rattle.refusals.specs.Numbers.{outcome_number}
use Rattle.refusals.proofs.Laws.{is_done}
use Rattle.modes.specs.Calls.{encrypt_answer}
use Rattle.modes.specs.Modes.{mode_of}
use Rattle.record.specs.Record.{iv_at_lem, record_front}
use Rattle.record.proofs.Filled.{front_written, filled}
use Rattle.record.proofs.sealing.Contents.fill.Goals.{After-encrypt}
use Rattle.record.proofs.sealing.Contents.fill.Goals as goal

module _ (c : After-encrypt) where
  abbrev front : List ℕ
  front = let a = c.args in record_front a.u a.self.name.now (length a.self.plain.now)

  abbrev rest : List ℕ
  rest = let a = c.args in drop (length a.self.iv.now) (drop (iv_at_lem (length a.self.name.now)) a.out.now)

  is_front : c.put_both.new.out ≡ front
  is_front =
      let a = c.args in
      let cut = c.split_at_mut-front.ensures.front ∙ ap (λ (n : ℕ). take n a.out.now) c.places.ensures.iv in
      front_written a.u a.key.now a.self.name.now a.self.iv.now a.self.aad.now a.self.plain.now a.out.now c.requires _ _ c.bytes.ensures
      (c.put_both.ensures ∙ ap (over (c.bytes.result ++ a.self.name.now)) cut)

  is_rest : c.split_at_mut-iv.result.1.now ≡ rest
  is_rest =
      let a = c.args in
      c.split_at_mut-iv.ensures.back ∙ ap (drop (length a.self.iv.now)) (c.split_at_mut-front.ensures.back ∙ ap (λ (n : ℕ). drop n a.out.now) c.places.ensures.iv)

  ran : let a = c.args in
      encrypt_answer (mode_of a.u) a.key.now a.self.iv.now front a.self.aad.now a.self.plain.now rest ≡ (outcome_number c.encrypt.result, c.encrypt.new.out)
  ran = rw (is_front, is_rest) at c.encrypt.ensures

pub unwrap-requires : goal.unwrap-requires
unwrap-requires c =
    let a = c.args in
    is_done _ (filled a.u a.key.now a.self.name.now a.self.iv.now a.self.aad.now a.self.plain.now a.out.now c.requires _ _ (ran (goal.at.unwrap-requires c).After-encrypt)).0

pub returns : goal.returns
returns c =
    let a = c.args in
    let w = (goal.at.returns c).After-encrypt in
    ap₂ (λ (f v : List ℕ). f ++ (v ++ c.encrypt.new.out)) (is_front w) (c.put.ensures ∙ over-whole _ _ (sym c.split_at_mut-iv.ensures.front_len))
    ∙ (filled a.u a.key.now a.self.name.now a.self.iv.now a.self.aad.now a.self.plain.now a.out.now c.requires _ _ (ran w)).1
