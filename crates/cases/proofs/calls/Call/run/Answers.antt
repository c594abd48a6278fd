-- `cases::calls::Call::run` meets its contract: each arm is the call's entry in the table.
-- Assumes nothing.
use Rattle.cases.proofs.calls.Call.run.Goals as goal

pub returns-in-EncryptRounds : goal.returns-in-EncryptRounds
returns-in-EncryptRounds c = rw c.in-EncryptRounds.is c.rounds.ensures
