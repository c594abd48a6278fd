-- `keytable::row::Row::answers_to` meets its contract: a row with another byte where the name ends has another name; else the type is compared, and the whole name.
-- Assumes nothing.
use mathlib.Core.Path.{sym, ap, ◌∙◌}
use mathlib.Core.Bool.{Bool, ◌&&◌}
use mathlib.Core.List.{List}
use Prim.Native.Nat.{ℕ, ◌-◌}
use lib.Dec.{eqb}
use lib.ListN.{length, get_or}
use Rattle.keytable.specs.Row.{type_in, row_in, matches}
use Rattle.keytable.proofs.Lookup.{unmatched, name_part}
use Rattle.keytable.proofs.row.Row.answers_to.Goals as goal

pub returns-then-read8 : goal.returns-then-read8
returns-then-read8 c =
    let a = c.args in
    let byte : List ℕ → ℕ = λ l. get_or l (length a.name.now - 1) 0 in
    let own = c.read8.ensures.0 ∙ ap byte c.part.ensures in
    let given = c.read8-then-n-gt0.ensures.0 in
    sym
    (unmatched a.kind a.name.now (row_in a.self.bytes.now) (λ kind is. c.if-read8.true (own ∙ ap byte (name_part a.self.bytes.now a.name.now is) ∙ sym given)))

pub returns : goal.returns
unfolding matches
returns c =
    let a = c.args in
    ap (λ (t : ℕ). eqb t a.kind && c.equal.result) c.kind.ensures
    ∙ ap (λ (same_name : Bool). eqb (type_in a.self.bytes.now) a.kind && same_name) (c.equal.ensures ∙ cc)
