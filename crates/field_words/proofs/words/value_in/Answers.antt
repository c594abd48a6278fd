-- `field_words::words::value_in` meets its contract.
-- Assumes nothing.
use native.Mathlib.Omega.{arith}
use Rattle.field_words.specs.Words.{is_equals}
use Rattle.field_words.proofs.First.{first_within}
use Rattle.field_words.proofs.words.value_in.Goals as goal

pub overflow_add-equals_at : goal.overflow_add-equals_at
overflow_add-equals_at c = omega (arith, c.equals_at.ensures, first_within is_equals c.args.word.now)
