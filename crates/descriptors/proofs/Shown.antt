-- As many steps as an accepted list has unreserved descriptors show them all, in order.
-- Assumes nothing.
use mathlib.Core.Path.{◌≡◌, refl, sym, ap, ap₂, ◌∙◌}
use mathlib.Core.Bool.{Bool, true}
use mathlib.Core.List.{List, [], ◌∷◌}
use mathlib.Core.Option.{some}
use Prim.Native.Nat.{ℕ, suc, ◌<◌}
use native.Mathlib.Omega.{arith}
use lib.ListN.{length, get_or}
use Rattle.descriptors.specs.Parse.{parse, split}
use Rattle.descriptors.specs.Tested.{list_ok, unreserved, count_of}
use Rattle.descriptors.specs.Steps.{cursor_at_start, advance_of, part_shown, cursor_after, shown_by}
use Rattle.descriptors.specs.declared.cursor.Cursor.{Cursor}
use Rattle.descriptors.proofs.Laws.{accepts_exactly, shows_in_order}
use Rattle.descriptors.proofs.Answers.{list_accepted}
use Rattle.descriptors.proofs.Split.{split-parse, parse-split}
use Rattle.descriptors.specs.Laws.{ShowsAll}

-- a list of n is what n steps show, where each step shows its element
shown-each : (s : List ℕ) (c : Cursor) (ds : List (List ℕ)) → ((i : ℕ) → i < length ds → part_shown s (advance_of s (cursor_after i s c)) ≡ get_or ds i [])
    → shown_by (length ds) s c ≡ ds
shown-each s c [] each = refl
shown-each s c (d ∷ ds) each =
    ap₂ (λ (x : List ℕ) (xs : List (List ℕ)). x ∷ xs) (each 0 (omega arith)) (shown-each s (advance_of s c).next ds (λ i h. each (suc i) (omega (arith, h))))

-- an accepted list is parsed into what is cut from it
pub ok-parse : (label strict : Bool) (s : List ℕ) → list_ok label strict s ≡ true → parse s ≡ some (split s).0
ok-parse label strict s ok =
    let accepted = (accepts_exactly label strict s (count_of label s)).0 (list_accepted label strict s (count_of label s) ok refl) in
    split-parse s (split s).0 (sym (cut accepted.descriptors accepted.parsed))
  where
    cut : (ds : List (List ℕ)) → parse s ≡ some ds → ((split s).0, []) ≡ split s
    cut ds e = ap (λ (p : List (List ℕ) × List ℕ). (p.0, [])) (parse-split s ds e) ∙ sym (parse-split s ds e)

pub shows-all : ShowsAll
shows-all label strict s ok =
    shown-each s (cursor_at_start label strict) (unreserved label (split s).0) (λ i h. (shows_in_order label strict s (split s).0 i ok (ok-parse label strict s ok) h).2)
