-- `cases::strings::read_word` meets its contract.
-- Assumes nothing.
use mathlib.Core.Path.{refl, sym, ◌∙◌}
use Prim.Native.Nat.{ℕ}
use lib.ListN.{length-replicate, replicate}
use Rattle.refusals.proofs.Laws.{not_zero}
use Rattle.cases.proofs.Held.{dash-reads, no_bytes, bytes_fit, bytes_read}
use Rattle.cases.proofs.strings.read_word.Goals as goal

pub returns-then-equal : goal.returns-then-equal
returns-then-equal c = dash-reads c.args.word.now (replicate 4368 0) (sym c.equal.ensures ∙ c.if-equal.true)

pub returns-in_default : goal.returns-in_default
returns-in_default c =
    no_bytes c.args.word.now _ _ _ (length-replicate {A = ℕ} 4368 0) (sym c.equal.ensures ∙ c.if-equal.false) c.in_default.ensures (λ e. not_zero c.in_default.field-0 (sym e))

pub invariant_of-result-2 : goal.invariant_of-result-2
invariant_of-result-2 c =
    record { within = bytes_fit c.args.word.now _ _ _ (length-replicate {A = ℕ} 4368 0) (sym c.equal.ensures ∙ c.if-equal.false) c.in-Ok.ensures refl }

pub returns : goal.returns
returns c = bytes_read c.args.word.now _ _ _ (length-replicate {A = ℕ} 4368 0) (sym c.equal.ensures ∙ c.if-equal.false) c.in-Ok.ensures refl
