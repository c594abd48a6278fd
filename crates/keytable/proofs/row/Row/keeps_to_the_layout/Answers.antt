-- `keytable::row::Row::keeps_to_the_layout` meets its contract: a name length above 32 fails its test, and else the result is made of what its callees ensure.
-- Assumes nothing.
use borrow.Author.Tests.{lt-leb}
use native.Mathlib.Omega.{arith}
use mathlib.Core.Path.{sym}
use Rattle.keytable.specs.Row.{name_length, row_ok, row_tests}
use Rattle.octets.proofs.Tests.{every-not}
use Rattle.keytable.proofs.row.Row.keeps_to_the_layout.Goals as goal

pub returns-then-k-gt-NAME_MAX : goal.returns-then-k-gt-NAME_MAX
unfolding row_ok
returns-then-k-gt-NAME_MAX c =
    let row = c.args.self.bytes.now in
    sym (every-not (row_tests row) 1 (lt-leb (name_length row) 32 (omega arith)))
