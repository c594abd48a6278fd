-- `modes::passes::chain_last` meets its contract: by what each call ensures.
-- Assumes nothing.
use mathlib.Core.Path.{sym, ◌∙◌}
use native.Mathlib.Omega.{arith}
use Rattle.octets.specs.Lent.{when}
use Rattle.octets.specs.Xor.{xors}
use Rattle.aes.specs.Cipher.{cipher}
use Rattle.modes.proofs.CcmPass.{last_none, last_filled, length_last}
use Rattle.modes.proofs.passes.chain_last.Goals as goal

pub returns-then-text-eq0 : goal.returns-then-text-eq0
returns-then-text-eq0 g c =
    let a = c.args in
    last_none (cipher a.aes.keyed.keys.now) g.D.Direction.opening a.y a.text.bytes.now a.pad c.if-text-eq0.true

pub returns : goal.returns
returns g c =
    let a = c.args in
    let long = length_last g.D.Direction.opening a.text.bytes.now a.pad (omega (arith, a.text.short, c.well_formed.1.1.0.1.0.1)) in
    last_filled (cipher a.aes.keyed.keys.now) a.y (when g.D.Direction.opening (xors a.text.bytes.now a.pad) a.text.bytes.now) (λ e. c.if-text-eq0.false (sym long ∙ e))
    (omega (arith, long, a.text.short)) c.last.ensures c.xor.ensures c.encrypt.ensures
