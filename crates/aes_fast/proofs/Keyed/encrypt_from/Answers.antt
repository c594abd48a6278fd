-- `aes_fast::encrypt_from` meets its contract: by what each call ensures.
-- Assumes nothing.
use Rattle.aes_fast.proofs.Steps.{cipher_from_begun}
use Rattle.aes_fast.proofs.Keyed.encrypt_from.Goals as goal

pub returns : goal.returns
returns c =
    let a = c.args in
    cipher_from_begun a.self.tables.now a.self.keys.now a.s a.low _ _ c.begun.ensures c.rounds_after.ensures
