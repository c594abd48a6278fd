-- Calls on one session, one after another: where the session stands after i of them, and that no two give the same IV.
-- Assumes nothing.
use mathlib.Core.Path.{◌≡◌, refl, sym, ap, ap₂, subst, ◌∙◌}
use mathlib.Core.Logic.{◌⊎◌, ⊎_elim, inl, inr}
use mathlib.Core.Bool.{Bool, true, false, false≢true}
use mathlib.Core.List.{List, ◌++◌}
use Prim.Native.Nat.{ℕ, zero, suc, ◌+◌, ◌^◌, ◌≤◌, ◌<◌}
use native.Mathlib.Nat.{add-zero, add-suc, eq-or-lt_of_le, le_of_suc-le-suc}
use native.Mathlib.Omega.{arith}
use lib.Dec.{eqb}
use lib.ListN.{length, drop}
use lib.Seq.{drop-append_seam}
use borrow.Author.Tests.{eqb-true, eqb-false, ne_eqb}
use Rattle.octets.specs.BigEndian.{be}
use Rattle.octets.specs.Lent.{when}
use Rattle.octets.proofs.BigEndian.{be_injective}
use Rattle.session.specs.Iv.{field_size, last_field, with_fields, started, is_spent, iv_of, next_session}
use Rattle.session.specs.Calls.{session_after}
use Rattle.session.specs.Laws.{SessionRun, RunDiffers}
use Rattle.session.specs.declared.Session.{Session}
use Rattle.session.proofs.Calls.{after_last, after_next, prefix_stays}

-- ---- one call

refused-same : (n : ℕ) (s : Session) → (n ≡ 0 → ⊥) → session_after n s ≡ s
refused-same n s h = rw (ne_eqb n 0 h)

-- by cases, what holds of the session before a call and of the one after an IV holds of the session after the call
after_cases : (P : Session → Type 0) (n : ℕ) (s : Session) → (n ≡ 0 → P (next_session s)) → P s → P (session_after n s)
after_cases P n s done same = go (eqb n 0) refl
  where
    go : (b : Bool) → eqb n 0 ≡ b → P (when b (next_session s) s)
    go true e = done (eqb-true n 0 e)
    go false e = same

iv_cases : (P : Session → Type 0) (s : Session) → P (with_fields s.prefix s.next 1) → ((s.next ≡ last_field → ⊥) → P (with_fields s.prefix (s.next + 1) 0)) → P (next_session s)
iv_cases P s last more = go (eqb s.next last_field) refl
  where
    go : (b : Bool) → eqb s.next last_field ≡ b → P (when b (with_fields s.prefix s.next 1) (with_fields s.prefix (s.next + 1) 0))
    go true e = last
    go false e = more (eqb-false s.next last_field e)

-- the session that has given its last IV
abbrev pub ended : List ℕ → Session
ended p = with_fields p last_field 1

-- ---- a run

module _ (before : ℕ → Session) (number : ℕ → ℕ) (run : SessionRun before number) where
  -- the prefix stays, and the next number keeps to its eight bytes
  pub run_prefix : (i : ℕ) → (before i).prefix ≡ (before 0).prefix
  run_prefix zero = refl
  run_prefix (suc i) = ap (λ (s : Session). s.prefix) (run.moves i) ∙ prefix_stays (number i) (before i) ∙ run_prefix i

  run_below : (before 0).next < 2 ^ 64 → (i : ℕ) → (before i).next < 2 ^ 64
  run_below h zero = h
  run_below h (suc i) =
      let below = run_below h i in
      subst (λ (s : Session). s.next < 2 ^ 64) (sym (run.moves i))
      (after_cases (λ s. s.next < 2 ^ 64) (number i) (before i)
      (λ done. iv_cases (λ s. s.next < 2 ^ 64) (before i) below (λ more. omega (arith, below, more))) below)

  -- past an IV's number: spent, or at a later number
  abbrev Past : ℕ → Session → Type 0
  Past m s = (is_spent s ≡ true) ⊎ (m < s.next)

  past_iv : (m : ℕ) (s : Session) → m ≤ s.next → Past m (next_session s)
  past_iv m s h = iv_cases (Past m) s (inl refl) (λ more. inr (omega (arith, h)))

  past_live : (m : ℕ) (s : Session) → is_spent s ≡ false → Past m s → m < s.next
  past_live m s live = ⊎_elim (λ spent. absurd (false≢true (sym live ∙ spent))) (λ later. later)

  run_past : (i j : ℕ) → i < j → number i ≡ 0 → Past (before i).next (before j)
  run_past i zero h done = absurd (omega (arith, h))
  run_past i (suc j) h done =
      subst (Past (before i).next) (sym (run.moves j))
      (⊎_elim
      (λ e. first j e)
      (λ l. let past = run_past i j l done in
      after_cases (Past (before i).next) (number j) (before j)
      (λ given. past_iv (before i).next (before j) (omega (arith, past_live (before i).next (before j) (run.live j given) past))) past)
      (eq-or-lt_of_le (le_of_suc-le-suc h)))
    where
      first : (j : ℕ) → i ≡ j → Past (before i).next (session_after (number j) (before j))
      first j e = subst (λ (k : ℕ). Past (before i).next (session_after (number k) (before k))) e
          (subst (λ (n : ℕ). Past (before i).next (session_after n (before i))) (sym done) (past_iv (before i).next (before i) (omega arith)))

  -- so a later call that gives 0 gives another IV
  run-later : (before 0).next < 2 ^ 64 → (i j : ℕ) → i < j → number i ≡ 0 → number j ≡ 0 → iv_of (before i) ≡ iv_of (before j) → ⊥
  run-later h i j l hi hj e =
      let later = past_live (before i).next (before j) (run.live j hj) (run_past i j l hi) in
      omega (arith, later, be_injective field_size (run_below h i) (run_below h j) fields)
    where
      front : (k : ℕ) → iv_of (before k) ≡ (before 0).prefix ++ be field_size (before k).next
      front k = ap (λ (p : List ℕ). p ++ be field_size (before k).next) (run_prefix k)

      fields : be field_size (before i).next ≡ be field_size (before j).next
      fields =
          sym (drop-append_seam (before 0).prefix _) ∙ ap (drop (length (before 0).prefix)) (sym (front i) ∙ e ∙ front j) ∙ drop-append_seam (before 0).prefix _

  -- ---- a run that a session which is not spent is never refused in

  module _ (p : List ℕ) (n : ℕ) (starts : before 0 ≡ started p n) (ready : (i : ℕ) → is_spent (before i) ≡ false → number i ≡ 0) where
    pub run_at : (i : ℕ) → n + i < 2 ^ 64 → before i ≡ started p (n + i)
    run_at zero h = starts ∙ ap (started p) (sym (add-zero n))
    run_at (suc i) h =
        let e = run_at i (omega (arith, add-suc n i)) in
        run.moves i ∙ ap₂ session_after (ready i (ap is_spent e)) e
        ∙ after_next p (n + i) (λ last. omega (arith, add-suc n i)) ∙ ap (started p) (omega (arith, add-suc n i))

    pub run_ends : (i : ℕ) → n < 2 ^ 64 → 2 ^ 64 ≤ n + i → before i ≡ ended p
    run_ends zero below h = absurd (omega (arith, add-zero n))
    run_ends (suc i) below h = ⊎_elim
        (λ e. let last : n + i ≡ last_field = omega (arith, add-suc n i) in
        let at = run_at i (omega arith) in
        run.moves i ∙ ap₂ session_after (ready i (ap is_spent at)) at ∙ after_last p (n + i) last ∙ ap (λ (m : ℕ). with_fields p m 1) last)
        (λ l. let at = run_ends i below (omega (arith, add-suc n i)) in
        run.moves i ∙ refused-same (number i) (before i) (λ given. false≢true (sym (run.live i given) ∙ ap is_spent at)) ∙ at)
        (eq-or-lt_of_le h)

pub run_differs : RunDiffers
run_differs before number run h i j hi hj e =
    let up : i < j → ⊥ = λ l. run-later before number run h i j l hi hj e in
    let down : j < i → ⊥ = λ l. run-later before number run h j i l hj hi (sym e) in
    omega (arith, up, down)
