-- `cbc_mac::absorb_blocks` meets its contract. The loop's invariant: from the state reached, the bytes that are left lead to the result.
-- Assumes nothing.
use mathlib.Core.Path.{refl, ap, ap₂, ◌∙◌}
use mathlib.Core.List.{List}
use Prim.Native.Nat.{ℕ, ◌+◌, ◌*◌}
use native.Mathlib.Omega.{arith}
use lib.ListN.{drop}
use Rattle.octets.specs.Xor.{xors}
use Rattle.octets.specs.Running.{absorb}
use Rattle.octets.proofs.Chunks.{absorb_chunk, absorb_after-chunks}
use Rattle.aes_fast.specs.ByTables.{cipher_by}
use Rattle.cbc_mac.proofs.absorb_blocks.Goals as goal

pub loop-b-init : goal.loop-b-init
loop-b-init c = (c.well_formed.1.0.1.0.1, refl)

pub loop-b-preserved : goal.loop-b-preserved
loop-b-preserved c =
    let l = c.loop-b in
    let a = c.args in
    let f = cipher_by a.cipher.tables.now a.cipher.keys.now in (
      omega arith,
      ap (λ (x : List ℕ). absorb f 0 x (drop ((l.b-index + 1) * 16) a.part.now))
          (c.encrypt-x.ensures.by-tables ∙ ap f (c.from-in-loop-b-2.ensures ∙ c.add_halves.ensures ∙ ap₂ xors c.from.ensures c.from-in-loop-b.ensures))
          ∙ absorb_chunk f l.x a.part.now l.b-index l.invariant.0 c.as_chunks.result.0.now c.as_chunks.ensures.front
          (omega (arith, c.as_chunks.ensures.front_len))
          ∙ l.invariant.1,
    )

pub returns : goal.returns
returns c =
    let l = c.loop-b in
    let a = c.args in
    c.add_part.ensures
    ∙ absorb_after-chunks (cipher_by a.cipher.tables.now a.cipher.keys.now) l.x a.part.now l.b-index l.invariant.0 c.as_chunks.result.1.now
    c.as_chunks.ensures.back (omega (arith, c.as_chunks.ensures.front_len))
    ∙ l.invariant.1
