-- `aes_fast::words::column_word` meets its contract: the bytes of the number are those that were read.
-- Assumes nothing.
use mathlib.Core.Path.{sym, ◌∙◌}
use native.Mathlib.Omega.{arith}
use Rattle.std.proofs.lemmas.Nat.{le_bytes_4}
use Rattle.octets.proofs.Arrays.{array_bytes}
use Rattle.octets.proofs.Values.{values_list}
use Rattle.aes_fast.specs.ByTables.Inside.{column_from_is}
use Rattle.aes_fast.proofs.words.column_word.Goals as goal

pub returns : goal.returns
returns c =
    let a = c.args.a in
    let bytes = array_bytes 4 a _ c.well_formed.0 in
    column_from_is _ ∙ le_bytes_4 a _ (omega (arith, c.well_formed.0.1.0.1)) bytes.byte c.from_le_bytes.ensures ∙ sym (values_list a 0 4 (omega (arith, c.well_formed.0.1.0.1)))
