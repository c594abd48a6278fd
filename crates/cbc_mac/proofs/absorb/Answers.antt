-- `cbc_mac::absorb` meets its contract: the bytes up to the end of a block, and then from the start of one.
-- Assumes nothing.
use mathlib.Core.Path.{sym, ap, ap₂, ◌∙◌}
use Prim.Native.Nat.{ℕ, ◌-◌, ◌%◌}
use native.Mathlib.Nat.{mod-lt}
use native.Mathlib.Omega.{arith}
use lib.Dec.{lit<}
use lib.ListN.{take, length-take}
use Rattle.octets.specs.Blocks.{IsBlock}
use Rattle.octets.specs.Running.{absorb}
use Rattle.octets.proofs.Arrays.{array_bytes}
use Rattle.octets.proofs.Tests.{rest_all}
use Rattle.octets.proofs.Running.{absorb_within, absorb-whole, absorb_to_block}
use Rattle.aes_fast.specs.ByTables.{cipher_by}
use Rattle.cbc_mac.proofs.Ready.{absorb_ciphered}
use Rattle.cbc_mac.proofs.absorb.Goals.{Start}
use Rattle.cbc_mac.proofs.absorb.Goals as goal

-- the state is a block of bytes

state : (c : Start) → IsBlock c.args.y
state c = record { size = c.well_formed.1.1.0.1.0.1; bytes = array_bytes 16 c.args.y _ c.well_formed.1.1.0 }

pub returns-then-place-eq0 : goal.returns-then-place-eq0
returns-then-place-eq0 c =
    let a = c.args in
    absorb_ciphered a.cipher.tables.now a.cipher.keys.now a.y (state (goal.at.returns-then-place-eq0 c).Start) (a.k % 16) a.part.now (record { byte = λ k. omega (arith, c.type_inv.part k) })
    (c.absorb_blocks.ensures
    ∙ ap (λ (k : ℕ). absorb (cipher_by a.cipher.tables.now a.cipher.keys.now) k a.y a.part.now) (sym c.if-place-eq0.true))

pub returns-then-part-room : goal.returns-then-part-room
returns-then-part-room c =
    let a = c.args in
    let f = cipher_by a.cipher.tables.now a.cipher.keys.now in
    absorb_ciphered a.cipher.tables.now a.cipher.keys.now a.y (state (goal.at.returns-then-part-room c).Start) (a.k % 16) a.part.now (record { byte = λ k. omega (arith, c.type_inv.part k) })
    (c.add_part.ensures ∙ sym (absorb_within f (a.k % 16) a.y a.part.now (state (goal.at.returns-then-part-room c).Start).size (omega arith)))

pub returns : goal.returns
returns c =
    let a = c.args in
    let f = cipher_by a.cipher.tables.now a.cipher.keys.now in
    let n = 16 - a.k % 16 in
    let head = take n a.part.now in
    absorb_ciphered a.cipher.tables.now a.cipher.keys.now a.y (state (goal.at.returns c).Start) (a.k % 16) a.part.now (record { byte = λ k. omega (arith, c.type_inv.part k) })
    (c.absorb_blocks-2.ensures
    ∙ ap₂ (absorb f 0)
    (c.encrypt-x.ensures.by-tables
    ∙ ap f c.add_part-2.ensures
    ∙ sym (absorb-whole f (a.k % 16) a.y head (state (goal.at.returns c).Start).size (simp length-take (omega arith)) (simp length-take (omega arith))))
    (rest_all a.part.now n)
    ∙ absorb_to_block f (a.k % 16) a.y a.part.now n (mod-lt a.k (lit< tt)) (omega arith) (omega arith))
