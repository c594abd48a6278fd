-- `aes_fast::rounds::last_round` meets its contract: its four columns.
-- Assumes nothing.
use mathlib.Core.Path.{ap, ◌∙◌}
use Rattle.aes.specs.State.{State}
use Rattle.aes.specs.Cipher.{add_round_key}
use Rattle.aes_fast.specs.Halves.{columns_of}
use Rattle.aes_fast.proofs.Pairs.{columns_of_xor, last_round_by-words}
use Rattle.aes_fast.proofs.rounds.last_round.Goals as goal

pub returns : goal.returns
returns c =
    let a = c.args in
    columns_of_xor c.from_columns.result a.k c.add_halves.result c.add_halves.ensures
    ∙ ap (λ (s : State). add_round_key s (columns_of a.k)) c.from_columns.ensures
    ∙ last_round_by-words a.s a.t.now (columns_of a.k)
    c.last_column-c0.ensures c.last_column-c1.ensures c.last_column-c2.ensures c.last_column-c3.ensures
