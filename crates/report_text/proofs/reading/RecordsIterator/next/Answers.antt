-- What is left of a dump after its first record has the other records.
-- Assumes nothing.
use Rattle.std.proofs.Common.{◌∷◌, ◌∙◌, length, ap, sym, rules}
use Rattle.std.proofs.lemmas.List.{take_rest}
use Rattle.report_text.specs.Dump.{records_in}
use Rattle.report_text.proofs.Dump.{records_end, records_turn}
use Rattle.report_text.proofs.reading.RecordsIterator.next.Goals as goal

pub returns-in_err-record-clause-steps : goal.returns-in_err-record-clause-steps
returns-in_err-record-clause-steps c = let none = records_end _ c.in_err-record.ensures in rw c.from_residual.ensures (none, none)

pub returns-clause-steps : goal.returns-clause-steps
returns-clause-steps c =
    let record_now = c.in_ok-record.record.now in
    records_turn _ c.in_ok-record.ensures ∙ sym (ap (λ l. record_now ∷ records_in l) (take_rest c.args.self.now.rest.now (length record_now)))

pub returns-clause-goes : goal.returns-clause-goes
returns-clause-goes c =
    let rest = c.args.self.now.rest.now in
    let record_now = c.in_ok-record.record.now in
    let fewer = ap length (records_turn _ c.in_ok-record.ensures ∙ sym (ap (λ l. record_now ∷ records_in l) (take_rest rest (length record_now)))) in
    search rules
