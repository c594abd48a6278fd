-- `aes_fast::halves::halves_at` meets its contract: a block lies at the place, or the words are zero.
-- Assumes nothing.
use mathlib.Core.Path.{sym, ap, ◌∙◌}
use mathlib.Core.Logic.{◌⊎◌}
use Prim.Native.Nat.{◌≤◌, ◌<◌}
use native.Mathlib.Omega.{arith}
use lib.ListN.{length, take}
use Rattle.octets.proofs.Tests.{rest_all}
use Rattle.aes_fast.proofs.Strings.{blockAt-whole, block_at-none, halves_block-zero}
use Rattle.aes_fast.proofs.halves.halves_at.Goals as goal

pub returns-in_default : goal.returns-in_default
returns-in_default c =
    let a = c.args in
    let past : (length a.s.now < a.i) ⊎ (length a.s.now < length a.s.now) = c.in_default.ensures.lookup.0 in
    halves_block-zero ∙ sym (block_at-none a.s.now a.i (omega arith))

pub returns-in-Some-first_chunk : goal.returns-in-Some-first_chunk
returns-in-Some-first_chunk c =
    let a = c.args in
    let rest = c.in-Some.ensures.lookup.0 in
    let chunk = c.in-Some-first_chunk.ensures.cases in
    let fits : 16 ≤ length c.in-Some.rest.now = chunk.enough in
    c.from.ensures ∙ chunk.same ∙ ap (take 16) (rest.2 ∙ rest_all a.s.now a.i) ∙ sym (blockAt-whole a.s.now a.i (omega (arith, rest.3)))

pub returns-in-None : goal.returns-in-None
returns-in-None c =
    let a = c.args in
    let short : length c.in-Some.rest.now < 16 = c.in-None.ensures.cases in
    halves_block-zero ∙ sym (block_at-none a.s.now a.i (omega (arith, c.in-Some.ensures.lookup.0.3)))
