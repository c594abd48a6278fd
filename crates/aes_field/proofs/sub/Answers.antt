-- `aes_field::sub` meets its contract: the table follows the rule.
-- Assumes nothing.
use Rattle.std.proofs.Common.{ap, ◌∙◌, List, ℕ, get_or, arith}
use Rattle.aes_field.specs.Field.{sbox}
use Rattle.aes_field.proofs.Tables.{sbox_table_is, table_of_at}
use Rattle.aes_field.proofs.sub.Goals as goal

pub returns : goal.returns
returns c = ap (λ (t : List ℕ). get_or t c.args.a 0) sbox_table_is ∙ table_of_at sbox c.args.a (omega arith)
