-- Of a last part of a ciphertext the pad is written, as far as that part reaches.
-- Assumes nothing.
use native.Mathlib.Omega.{arith}
use Rattle.modes.proofs.CcmPass.{pad-put}
use Rattle.modes.proofs.passes.OpeningDirection.put_last.Goals as goal

pub returns : goal.returns
returns c =
    let a = c.args in
    pad-put a._text.bytes.now a.pad a.out.now (omega arith) a._text.short c.requires c.put.ensures
