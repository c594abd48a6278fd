-- `modes::ccm::chain_data` meets its contract: nothing where there is no data, and else the length and the two parts.
-- Assumes nothing.
use Rattle.aes.specs.Cipher.{cipher}
use Rattle.aes.proofs.Laws.{cipher-length}
use Rattle.modes.proofs.CcmFormat.{data-none, data_steps}
use Rattle.modes.proofs.ccm.chain_data.Goals as goal

pub returns-then-n-eq0 : goal.returns-then-n-eq0
returns-then-n-eq0 c =
    let a = c.args in
    data-none (cipher a.aes.keyed.keys.now) a.y a.m.a.now a.m.b.now c.if-n-eq0.true

pub returns : goal.returns
returns c =
    let a = c.args in
    let ready = a.aes.ready in
    data_steps (cipher a.aes.keyed.keys.now) (cipher-length a.aes.keyed.keys.now) a.y a.m.a.now a.m.b.now _ _ _ _ _ c.well_formed.1.0.1.0.1 c.if-n-eq0.false
    c.bytes16-size.ensures (c.absorb-x.ensures.by-cipher ready) (c.absorb-u.ensures.by-cipher ready)
    (c.absorb-v.ensures.by-cipher ready) (c.close.ensures.by-cipher ready)
