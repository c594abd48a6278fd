-- `aes_fast::round_tables` meets its contract: one computed test of the first table says that each entry follows the rule, and one of each other that it
-- is the first, turned.
-- Assumes nothing.
use mathlib.Core.Path.{refl, sym, ◌∙◌}
use Rattle.aes_field.specs.Field.{xtime, times, inverse, sbox, affine}
use Rattle.aes_fast.specs.Right.Inside.{round_tables_is}
use Rattle.aes_fast.proofs.Entries.{tables_tested}
use Rattle.aes_fast.proofs.round_tables.Goals as goal

pub returns : goal.returns
unfolding sbox affine inverse times xtime
returns c = tables_tested _ _ _ _ tt refl tt tt tt ∙ sym round_tables_is
