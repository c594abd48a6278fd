-- `keypage::loading::load_wrapped` meets its contract: the number is that of the unwrapping by the row that was found.
-- Assumes nothing.
use mathlib.Core.Path.{sym, ap₂, ◌∙◌}
use mathlib.Core.List.{List}
use Prim.Native.Nat.{ℕ}
use Rattle.octets.proofs.Places.{its_bytes}
use Rattle.keytable.specs.Table.{row_for}
use Rattle.keywrap.specs.Calls.{unwrap_answer}
use Rattle.keypage.proofs.LoadNumbers.{wrapped_rest}
use Rattle.keypage.proofs.loading.load_wrapped.Goals as goal

pub returns : goal.returns
returns c algorithm =
    let a = c.args in
    let sought = ap₂ (row_for a.table.bytes.now) (sym c.kek_type-kind.ensures) (sym c.identifier.ensures) in
    wrapped_rest _ _ algorithm a.s.now a.out.now (sought ∙ c.in-Some.ensures.0) c.in-Some.ensures.1 c.requires
    ∙ ap₂ (λ (k w : List ℕ). unwrap_answer k w a.out.now) (sym (its_bytes c.key_at.ensures)) (sym c.wrapped.ensures)
    ∙ c.unwrap.ensures
