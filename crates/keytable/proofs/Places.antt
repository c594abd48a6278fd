-- What the lookup answers: the place that the table has for the type and the name, and whether a row has them.
-- Assumes nothing.
use mathlib.Core.Path.{◌≡◌, refl, sym, ap, ◌∙◌}
use mathlib.Core.Bool.{Bool, true, false, not, false≢true}
use mathlib.Core.List.{List, [], ◌∷◌}
use Prim.Native.Nat.{ℕ}
use lib.ListN.{get_or}
use Rattle.std.specs.Prelude.{Option, None, Some, is_some, ok_or, Result, is_err}
use Rattle.refusals.specs.declared.Refusal.TheVariants.{NoRow}
use Rattle.refusals.specs.declared.Refusal.{Refusal}
use Rattle.refusals.proofs.Laws
use Rattle.keytable.specs.Row.{Row}
use Rattle.keytable.specs.Table.{absent}
use Rattle.keytable.specs.Find.{found_says, place_from}
use Rattle.keytable.proofs.Lookup.{place_from-absent}

-- the number and the place that comes with 0 tell the answer
pub says_same : (f g : Result ℕ Refusal) → found_says f ≡ found_says g → f ≡ g
says_same = Rattle.refusals.proofs.Laws.says_same (λ i. i ∷ []) (λ a b. ap (λ (l : List ℕ). get_or l 0 0))

-- along rows: whether one of them has the type and the name
pub none_absent : (at type : ℕ) (name : List ℕ) (xs : List Row) (o : Option ℕ) (none : Bool) → is_some o ≡ not none → ok_or o NoRow ≡ place_from at type name xs
    → none ≡ absent type name xs
none_absent at type name xs o none is e = go o none is ∙ ap is_err e ∙ place_from-absent at type name xs
  where
    go : (o : Option ℕ) (none : Bool) → is_some o ≡ not none → none ≡ is_err (ok_or o NoRow)
    go None true h = refl
    go None false h = absurd (false≢true h)
    go (Some i) true h = absurd (false≢true (sym h))
    go (Some i) false h = refl
