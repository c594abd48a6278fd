-- `octets::strings::xor` meets its contract: after the last turn the whole sum is written.
-- Assumes nothing.
use Rattle.std.proofs.Common.{◌≡◌, length}
use Rattle.octets.proofs.Written.{sum_end}
use Rattle.octets.proofs.strings.xor.Goals as goal

pub returns : goal.returns
returns g c =
    let a = c.args in
    let m : length a.a ≡ g.row.N = c.well_formed.0.1.0.1 in
    let n : length a.b ≡ g.row.N = c.well_formed.1.0.1.0.1 in
    sum_end a.a a.b g.row.N m n c.loop-i.i c.loop-i-test.false c.loop-i.invariant
