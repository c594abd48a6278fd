use Rattle.std.proofs.Common.{◌≡◌, ◌&&◌, length}
use Rattle.std.specs.Iterator.Adapters.{zip_first, zip_second}
use Rattle.std.specs.Slice.Iter.{iter_rest}
use lib.Dec.{eqb}
use Rattle.octets.specs.Same.{same}
use Rattle.octets.proofs.strings.equal.Given as goal

abbrev pub invariant-loop-x : goal.invariant-loop-x
invariant-loop-x l =
    let s = iter_rest (zip_first l.x-iterator) in
    let t = iter_rest (zip_second l.x-iterator) in
    (length s ≡ length t) × (same l.a l.b ≡ (eqb l.different 0 && same s t))
