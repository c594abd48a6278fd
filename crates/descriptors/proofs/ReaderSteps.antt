-- A reader on an accepted list, step by step to its end: for whoever walks one.
-- Assumes nothing.
use mathlib.Core.Path.{◌≡◌, refl, sym, ap, ◌∙◌, subst}
use mathlib.Core.Bool.{Bool, true, false, false≢true}
use mathlib.Core.List.{List, [], ◌∷◌}
use Prim.Native.Nat.{ℕ, ◌-◌, ◌≤◌, ◌<◌}
use denote.Ref.{Bor}
use Rattle.std.specs.Prelude.{Option, Some, None, Result, Ok, Err}
use Rattle.refusals.specs.declared.Refusal.{Refusal}
use Rattle.refusals.proofs.Laws.{not_zero}
use Rattle.octets.specs.Places.{placed, part_in}
use Rattle.octets.specs.Tests.{part_of}
use lib.ListN.{length}
use Rattle.descriptors.specs.Parse.{split}
use Rattle.descriptors.specs.Tested.{list_ok, unreserved}
use Rattle.descriptors.specs.Steps.{step_answer, cursor_on, cursor_at_start, advanced_by}
use Rattle.descriptors.specs.Readers.{standing, ShownAnswer, shown_says, next_of}
use Rattle.descriptors.specs.declared.cursor.Cursor.{Cursor}
use Rattle.descriptors.specs.declared.reader.Reader.{Reader}
use Rattle.descriptors.proofs.Laws.{starts}
use Rattle.descriptors.proofs.Shown.{ok-parse}
use Rattle.descriptors.proofs.Steps.{Stands, Shows, shows, shows-none}

-- number 0 and nothing shown is the answer that nothing is left
pub none_shown : (d : Reader) (x : Result (Option (Bor (List ℕ))) Refusal) → (shown_says d x).number ≡ 0 → (shown_says d x).shows ≡ false → x ≡ Ok None
none_shown d (Ok (Some p)) n b = absurd (false≢true (sym b))
none_shown d (Ok None) n b = refl
none_shown d (Err e) n b = absurd (not_zero e (sym n))

-- ---- what is left of an accepted list

-- the descriptors us, which are not reserved, are still to be shown by the reader d
pub record Left (label strict : Bool) (s : List ℕ) (d : Reader) (us : List (List ℕ)) : Type 0 where
  pub list : d.list.now ≡ s
  pub place : d.place ≡ cursor_on label strict d.place.at
  pub descriptors : List (List ℕ)
  pub stands : Stands label strict s d.place.at descriptors
  pub left : unreserved label descriptors ≡ us

pub all_left : (l : Bor (List ℕ)) (label strict : Bool) → list_ok label strict l.now ≡ true
    → Left label strict l.now (standing l (cursor_at_start label strict)) (unreserved label (split l.now).0)
all_left l label strict ok = record {
  list = refl;
  place = refl;
  descriptors = (split l.now).0;
  stands = starts label strict l.now (split l.now).0 ok (ok-parse label strict l.now ok);
  left = refl;
}

-- the first of those left is shown, and then the others are left; or there are none; and no step is refused
module _ (label strict : Bool) (s : List ℕ) (d : Reader) where
  pub record First (p : Bor (List ℕ)) (us : List (List ℕ)) (e : Reader) : Type 0 where
    pub others : List (List ℕ)
    pub first : us ≡ p.now ∷ others
    pub left : Left label strict s e others
    pub moves : d.place.at < e.place.at
    pub within : e.place.at ≤ length s

  abbrev Told : List (List ℕ) → Reader → Result (Option (Bor (List ℕ))) Refusal → Type 0
  Told us e (Ok (Some p)) = First p us e
  Told us e (Ok None) = us ≡ []
  Told us e (Err r) = ⊥

  -- the answer to a step, and the reader after it, by what the step from the cursor gives
  abbrev next_for : ℕ × List ℕ → ShownAnswer × Reader
  next_for a =
      let b = advanced_by d.place a in
      (record { number = b.number; shows = b.shows; part = part_in (placed d.list) b.from (b.end - b.from) }, standing d.list b.next)

  module _ (us : List (List ℕ)) (h : Left label strict s d us) where
    stepped : (a : ℕ × List ℕ) → step_answer label strict s d.place.at ≡ a → next_of d ≡ next_for a
    stepped a is =
        ap next_for
        (ap (λ (c : Cursor). step_answer c.opening.label c.opening.strict d.list.now d.place.at) h.place
        ∙ ap (λ (l : List ℕ). step_answer label strict l d.place.at) h.list ∙ is)

    module _ (x : Result (Option (Bor (List ℕ))) Refusal) (e : Reader) (says : next_of d ≡ (shown_says d x, e)) where
      none_left : us ≡ [] → Told us e x
      none_left none =
          let n = sym says ∙ stepped (0, []) (shows-none label strict s d.place.at h.descriptors h.stands (h.left ∙ none)) in
          subst (Told us e) (sym (none_shown d x (ap (λ (m : ShownAnswer × Reader). m.0.number) n) (ap (λ (m : ShownAnswer × Reader). m.0.shows) n))) none

      one_left : (u : List ℕ) (ts : List (List ℕ)) → us ≡ u ∷ ts → Shows label strict s d.place.at u ts → Told us e x
      one_left u ts some w = told x (sym says ∙ stepped (0, w.from ∷ w.end ∷ []) w.answer)
        where
          told : (y : Result (Option (Bor (List ℕ))) Refusal) → (shown_says d y, e) ≡ next_for (0, w.from ∷ w.end ∷ []) → Told us e y
          told (Ok None) n = absurd (false≢true (ap (λ (m : ShownAnswer × Reader). m.0.shows) n))
          told (Err r) n = absurd (false≢true (ap (λ (m : ShownAnswer × Reader). m.0.shows) n))
          told (Ok (Some p)) n =
              let there : e ≡ standing d.list (record { at = w.end; opening = d.place.opening }) = ap (λ (m : ShownAnswer × Reader). m.1) n in
              let shown : p.now ≡ u = ap (λ (m : ShownAnswer × Reader). m.0.part.bytes) n
              ∙ ap (λ (l : List ℕ). part_of l w.from (w.end - w.from)) h.list ∙ w.part in
              rw there (record {
                others = ts;
                first = some ∙ ap (λ (f : List ℕ). f ∷ ts) (sym shown);
                left = record {
                  list = h.list;
                  place = ap (λ (c : Cursor). record { at = w.end; opening = c.opening }) h.place;
                  descriptors = w.rest;
                  stands = w.stands;
                  left = w.later;
                };
                moves = w.moves;
                within = w.stands.inside;
              })

      left_step : Told us e x
      left_step = go us refl
        where
          go : (vs : List (List ℕ)) → us ≡ vs → Told us e x
          go [] none = none_left none
          go (u ∷ ts) some = one_left u ts some (shows label strict s d.place.at h.descriptors u ts h.stands (h.left ∙ some))

      -- so by what the step answered
      pub not_refused : (r : Refusal) → x ≡ Err r → ⊥
      not_refused r is = subst (Told us e) is left_step

      pub none_more : x ≡ Ok None → us ≡ []
      none_more is = subst (Told us e) is left_step

      pub one_shown : (p : Bor (List ℕ)) → x ≡ Ok (Some p) → First p us e
      one_shown p is = subst (Told us e) is left_step
