-- What splitting a line and running an input promise, as statements; proofs/Laws.antt proves each.
-- Assumes nothing.
use Rattle.std.specs.Prelude.{◌≡◌, List, [], ◌∷◌, ◌++◌, ℕ, ◌≤◌, length}
use Rattle.octets.specs.Unique.{UniqueBy}
use Rattle.wording.specs.declared.text.Text.{Text}
use Rattle.cases.specs.Words.{parts_by}
use Rattle.cases.specs.Calls.{calls, call_count}
use Rattle.cases.specs.Run.{run_max, run_text, in_room}

-- parts with one c between each two
abbrev pub rejoined : ℕ → List (List ℕ) → List ℕ
rejoined c [] = []
rejoined c (w ∷ []) = w
rejoined c (w ∷ v ∷ ws) = w ++ c ∷ rejoined c (v ∷ ws)

-- a line is its words so joined, and an input its lines
abbrev pub PartsJoin : Type 0
PartsJoin = (c : ℕ) (s : List ℕ) → rejoined c (parts_by c s) ≡ s

-- there are as many calls as are counted
abbrev pub CallsCounted : Type 0
CallsCounted = length calls ≡ call_count

-- the whole text has room
abbrev pub RunFits : Type 0
RunFits = (input : List ℕ) → length (run_text input) ≤ run_max

-- for each input one text
abbrev pub RunUnique : Type 0
RunUnique = (input : List ℕ) → UniqueBy (λ (t : Text run_max). (t.size, t.bytes)) (in_room (run_text input))
