-- `modes::passes::pass_block` meets its contract: by what each call ensures.
-- Assumes nothing.
use mathlib.Core.Path.{ap, ◌∙◌}
use mathlib.Core.List.{List}
use Prim.Native.Nat.{ℕ}
use Rattle.octets.specs.Lent.{when}
use Rattle.octets.specs.Xor.{xors}
use Rattle.aes.specs.Cipher.{cipher}
use Rattle.aes_fast.specs.Halves.{halves_block}
use Rattle.aes_fast.proofs.Laws.{ready-cipher, halves-length, halves_bytes, block_at-whole}
use Rattle.modes.proofs.passes.pass_block.Goals as goal

pub returns-clause-one_value : goal.returns-clause-one_value
returns-clause-one_value g c =
    let a = c.args in
    let sum = c.add_halves in
    c.encrypt_beside.ensures.0
    ∙ ready-cipher a.aes.keyed.tables.now a.aes.keyed.keys.now (halves_block sum.result) a.aes.ready (halves_bytes sum.result) (halves-length sum.result)
    ∙ ap (cipher a.aes.keyed.keys.now)
    (sum.ensures
    ∙ ap (xors (halves_block a.y))
    (c.plain-plain.ensures
    ∙ ap (λ (b : List ℕ). when g.D.Direction.opening (xors b (halves_block a.pad)) b)
    (c.halves_at.ensures ∙ block_at-whole a.text.now a.at c.requires.0)))
