-- Sealing with a session, case by case: over its definition, and from what the session's advance and sealing's tests gave.
-- Assumes nothing.
use mathlib.Core.Path.{◌≡◌, refl, sym, ap, ap₂, ◌∙◌}
use mathlib.Core.Bool.{Bool, true, false}
use mathlib.Core.List.{List, [], ◌∷◌}
use mathlib.Core.Option.{Option, some, none}
use Prim.Native.Nat.{ℕ}
use native.Mathlib.Omega.{arith}
use borrow.Author.Tests.{eqb-true, eqb-false, ne_eqb}
use lib.Dec.{eqb}
use lib.ListN.{length, length-replicate}
use Rattle.octets.specs.Lent.{when, lowest, over}
use Rattle.octets.proofs.Lowest.{lowest_then}
use Rattle.session.specs.Iv.{prefix_size, session_iv_size, is_spent, iv_of, next_session}
use Rattle.session.specs.Calls.{SessionAnswer, advance_answer}
use Rattle.session.specs.declared.Session.{Session}
use Rattle.session.proofs.Calls.{advance_spent, advance-done, advance_live}
use Rattle.session.proofs.Laws.{length_iv}
use Rattle.keytable.specs.Row.{Row}
use Rattle.record.specs.Seal.{record_by, seal_tests, seal_number, ready_by}
use Rattle.record.specs.Next.{seal_next_number, seal_next_row}
use Rattle.record.proofs.SealReady.{ready_refused, ready-number}

-- ---- over the definition

module _ (s : Session) (ok : Bool) (row : Option Row) (name a p : List ℕ) where
  next-number : (room : ℕ) → seal_next_number s ok row name a (length p) room
      ≡ when (eqb (seal_number ok row name (iv_of s) a (length p) room) 0) (lowest ((10, is_spent s) ∷ [])) (seal_number ok row name (iv_of s) a (length p) room)
  unfolding seal_next_number seal_number
  next-number room = lowest_then (seal_tests ok row name (iv_of s) a (length p) room) ((10, is_spent s) ∷ []) refl

  refused : (room n : ℕ) → seal_number ok row name (iv_of s) a (length p) room ≡ n → (n ≡ 0 → ⊥) → seal_next_number s ok row name a (length p) room ≡ n
  refused room n e h = next-number room ∙ rw (e, ne_eqb n 0 h)

  pub next_live : (room : ℕ) → is_spent s ≡ false → seal_next_number s ok row name a (length p) room ≡ seal_number ok row name (iv_of s) a (length p) room
  next_live room live = next-number room ∙ rw live (same (seal_number ok row name (iv_of s) a (length p) room))
    where
      go : (n : ℕ) (b : Bool) → eqb n 0 ≡ b → when b 0 n ≡ n
      go n true e = sym (eqb-true n 0 e)
      go n false e = refl

      same : (n : ℕ) → when (eqb n 0) 0 n ≡ n
      same n = go n (eqb n 0) refl

  -- where it gives 0: sealing does, and the session is not spent
  pub next-zero : (room : ℕ) → seal_next_number s ok row name a (length p) room ≡ 0 → (seal_number ok row name (iv_of s) a (length p) room ≡ 0) × (is_spent s ≡ false)
  next-zero room e =
      go (eqb (seal_number ok row name (iv_of s) a (length p) room) 0) refl (sym (next-number room) ∙ e)
    where
      number : ℕ
      number = seal_number ok row name (iv_of s) a (length p) room

      last : (b : Bool) → ◌≡◌ {A = ℕ} (when b 10 0) 0 → b ≡ false
      last true h = absurd (omega arith)
      last false h = refl

      go : (b : Bool) → eqb number 0 ≡ b → when b (lowest ((10, is_spent s) ∷ [])) number ≡ 0 → (number ≡ 0) × (is_spent s ≡ false)
      go true q h = (eqb-true number 0 q, last (is_spent s) h)
      go false q h = absurd (eqb-false number 0 q h)

  module _ (out : List ℕ) where
    pub next-refused : (n : ℕ) → seal_number ok row name (iv_of s) a (length p) (length out) ≡ n → (n ≡ 0 → ⊥) → seal_next_row s ok row name a p out ≡ (n, out, s)
    unfolding seal_next_row
    next-refused n e h = rw (refused (length out) n e h, ne_eqb n 0 h)

    module _ (e : seal_number ok row name (iv_of s) a (length p) (length out) ≡ 0) where
      pub next_spent : is_spent s ≡ true → seal_next_row s ok row name a p out ≡ (10, out, s)
      unfolding seal_next_row
      next_spent spent = rw (next-number (length out), e, spent)

      pub next-done : is_spent s ≡ false → seal_next_row s ok row name a p out ≡ (0, over (record_by row name (iv_of s) a p) out, next_session s)
      unfolding seal_next_row
      next-done live = rw (next-number (length out), e, live)

-- ---- from an advance

module _ (s : Session) (m : ℕ) (iv : List ℕ) (t : Session) (e : advance_answer s ≡ (m, iv, t)) where
  advance_told : (m ≡ 0 → ⊥) → (is_spent s ≡ true) × (10 ≡ m) × (s ≡ t)
  advance_told h = go (is_spent s) refl
    where
      go : (b : Bool) → is_spent s ≡ b → (b ≡ true) × (10 ≡ m) × (s ≡ t)
      go true p = let d = sym (advance_spent s p) ∙ e in (refl, ap (λ (x : SessionAnswer). x.0) d, ap (λ (x : SessionAnswer). x.2) d)
      go false p = absurd (h (sym (ap (λ (x : SessionAnswer). x.0) (sym (advance-done s p) ∙ e))))

  advance_gave : m ≡ 0 → (is_spent s ≡ false) × (iv_of s ≡ iv) × (next_session s ≡ t)
  advance_gave z =
      let live = advance_live s (ap (λ (x : SessionAnswer). x.0) e ∙ z) in
      let d = sym (advance-done s live) ∙ e in (live, ap (λ (x : SessionAnswer). x.1) d, ap (λ (x : SessionAnswer). x.2) d)

  -- the IV that came with it has the length of the session's next one, spent or not
  iv_alike : length s.prefix ≡ prefix_size → length iv ≡ length (iv_of s)
  iv_alike size = go (is_spent s) refl
    where
      go : (b : Bool) → is_spent s ≡ b → length iv ≡ length (iv_of s)
      go true p = ap length (sym (ap (λ (x : SessionAnswer). x.1) (sym (advance_spent s p) ∙ e))) ∙ length-replicate {A = ℕ} session_iv_size 0 ∙ sym (length_iv s size)
      go false p = ap length (sym (ap (λ (x : SessionAnswer). x.1) (sym (advance-done s p) ∙ e)))

  -- and sealing's number looks at that length alone
  module _ (size : length s.prefix ≡ prefix_size) (ok : Bool) (row : Option Row) (name a p out : List ℕ) where
    number_alike : seal_number ok row name iv a (length p) (length out) ≡ seal_number ok row name (iv_of s) a (length p) (length out)
    unfolding seal_number
    number_alike = rw (iv_alike size)

    pub by-refused : (n : ℕ) → ready_by ok row name iv a (length p) (length out) ≡ (n, none) → seal_next_row s ok row name a p out ≡ (n, out, s)
    by-refused n r =
        let (number, not-zero) = ready_refused ok row name iv a (length p) (length out) n r in
        next-refused s ok row name a p out n (sym number_alike ∙ number) not-zero

    module _ (found : Row) (r : ready_by ok row name iv a (length p) (length out) ≡ (0, some found)) where
      passed : seal_number ok row name (iv_of s) a (length p) (length out) ≡ 0
      passed = sym number_alike ∙ ready-number ok row name iv a (length p) (length out) found r

      pub by_spent : (m ≡ 0 → ⊥) → seal_next_row s ok row name a p out ≡ (m, out, t)
      by_spent h =
          let (spent, ten, same) = advance_told h in
          next_spent s ok row name a p out passed spent ∙ ap₂ (λ (k : ℕ) (u : Session). (k, out, u)) ten same

      pub by-done : (left : List ℕ) → m ≡ 0 → left ≡ over (record_by row name iv a p) out → seal_next_row s ok row name a p out ≡ (0, left, t)
      by-done left z is =
          let (live, made, moved) = advance_gave z in
          next-done s ok row name a p out passed live
          ∙ ap₂ (λ (l : List ℕ) (u : Session). (0, l, u)) (ap (λ (v : List ℕ). over (record_by row name v a p) out) made ∙ sym is) moved
