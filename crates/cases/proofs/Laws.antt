-- The laws of specs/Laws.antt.
-- Assumes nothing.
use mathlib.Core.Path.{◌≡◌, refl, ap, ◌∙◌}
use mathlib.Core.Bool.{Bool, true, false}
use mathlib.Core.List.{List, [], ◌∷◌}
use Prim.Native.Nat.{ℕ, ◌≤◌}
use borrow.Author.Tests.{eqb-true, leb-true, ltb-false}
use lib.Dec.{eqb, ltb}
use lib.ListN.{length}
use Rattle.octets.specs.Lent.{when}
use Rattle.wording.proofs.Told.{text_unique}
use Rattle.cases.specs.Words.{up_to, parts_after, parts_by}
use Rattle.cases.specs.Run.{lines_text, input_max, run_max, input_refused, text_refused, run_text, in_room}
use Rattle.cases.specs.Laws.{rejoined, PartsJoin, CallsCounted, RunFits, RunUnique}

-- ---- a string is its parts joined

join_first : (c x : ℕ) (w : List ℕ) (ws : List (List ℕ)) → rejoined c ((x ∷ w) ∷ ws) ≡ x ∷ rejoined c (w ∷ ws)
join_first c x w [] = refl
join_first c x w (v ∷ ws) = refl

pub parts_join : PartsJoin
unfolding up_to parts_after
parts_join c [] = refl
parts_join c (x ∷ s) = go (eqb x c) refl (parts_join c s)
  where
    go : (t : Bool) → eqb x c ≡ t → rejoined c (parts_by c s) ≡ s → rejoined c (when t [] (x ∷ up_to c s) ∷ when t (parts_by c s) (parts_after c s)) ≡ x ∷ s
    go true e ih = rw (ih, eqb-true x c e)
    go false e ih = join_first c x (up_to c s) (parts_after c s) ∙ ap (λ (l : List ℕ). x ∷ l) ih

-- ---- the table, and the text of a run

pub calls-counted : CallsCounted
calls-counted = refl

pub run_fits : RunFits
unfolding run_text
run_fits input = go (ltb input_max (length input)) (ltb run_max (length (lines_text input))) refl
  where
    go : (t u : Bool) → ltb run_max (length (lines_text input)) ≡ u → length (when t input_refused (when u text_refused (lines_text input))) ≤ run_max
    go true u e = leb-true (length input_refused) run_max refl
    go false true e = leb-true (length text_refused) run_max refl
    go false false e = ltb-false run_max (length (lines_text input)) e

pub run_unique : RunUnique
run_unique input = text_unique (in_room (run_text input))
