-- The answers of a session's calls, case by case, over plain variables.
-- Assumes nothing.
use mathlib.Core.Path.{◌≡◌, refl, ap, ap₂, ◌∙◌}
use mathlib.Core.Bool.{Bool, true, false}
use mathlib.Core.List.{List, ◌++◌}
use Prim.Native.Nat.{ℕ, ◌+◌}
use native.Mathlib.Omega.{arith}
use lib.Dec.{eqb, ltb}
use lib.ListN.{length, drop, replicate, length-append, length-drop}
use Rattle.std.proofs.lemmas.List.{drop_all}
use mathlib.Core.List.{append-nil}
use lib.Seq.{take_at}
use borrow.Rule.Slice.PartMut.{put_mid}
use borrow.Author.Tests.{eq-eqb, ne_eqb}
use Rattle.octets.specs.Lent.{when, over}
use Rattle.octets.proofs.Lent.{none_applies}
use Rattle.session.specs.Iv.{session_iv_size, last_field, with_fields, started, is_spent, iv_of, next_session}
use Rattle.session.specs.Calls.{session_after, advance_tests, advance_number, advance_answer, issue_tests, issue_number, issue_answer}
use Rattle.session.specs.declared.Session.{Session}

-- ---- the IV

-- four bytes and eight, each written to its place among twelve
pub joined : (x p y f zs : List ℕ) → x ≡ p → length p ≡ 4 → length zs ≡ 8 → y ≡ f → put_mid 4 8 (x ++ zs) y ≡ p ++ f
joined x p y f zs ex four eight ey =
    rw (ex, ey)
    (ap₂ (λ (a b : List ℕ). a ++ (f ++ b)) (take_at p zs 4 four)
    (drop_all 8 (drop 4 (p ++ zs)) (omega (arith, length-drop 4 (p ++ zs), length-append p zs))) ∙ ap (λ (b : List ℕ). p ++ b) (append-nil f))

-- ---- the session after an IV

module _ (p : List ℕ) (n : ℕ) where
  pub after_last : n ≡ last_field → next_session (started p n) ≡ with_fields p n 1
  after_last e = rw (eq-eqb n last_field e)

  pub after_next : (n ≡ last_field → ⊥) → next_session (started p n) ≡ with_fields p (n + 1) 0
  after_next e = rw (ne_eqb n last_field e)

-- ---- by value

module _ (s : Session) where
  pub advance_spent : is_spent s ≡ true → advance_answer s ≡ (10, replicate session_iv_size 0, s)
  unfolding advance_answer advance_number
  advance_spent e = rw e

  pub advance-done : is_spent s ≡ false → advance_answer s ≡ (0, iv_of s, next_session s)
  unfolding advance_answer advance_number
  advance-done e = rw e

-- ---- into lent bytes

module _ (s : Session) (out : List ℕ) where
  pub issue_spent : ltb (length out) session_iv_size ≡ false → is_spent s ≡ true → issue_answer s out ≡ (10, out, s)
  unfolding issue_answer issue_number
  issue_spent room e = rw (room, e)

  pub issue-done : ltb (length out) session_iv_size ≡ false → is_spent s ≡ false → issue_answer s out ≡ (0, over (iv_of s) out, next_session s)
  unfolding issue_answer issue_number
  issue-done room e = rw (room, e)

-- ---- the prefix stays

prefix-when : (b : Bool) (s t : Session) → s.prefix ≡ t.prefix → (when b s t).prefix ≡ t.prefix
prefix-when true s t e = e
prefix-when false s t e = refl

pub prefix_stays : (n : ℕ) (s : Session) → (session_after n s).prefix ≡ s.prefix
prefix_stays n s = prefix-when (eqb n 0) (next_session s) s (prefix-when (eqb s.next last_field) (with_fields s.prefix s.next 1) (with_fields s.prefix (s.next + 1) 0) refl)

-- ---- what a number given says of the session

pub advance_moves : (s : Session) → (advance_answer s).2 ≡ session_after (advance_answer s).0 s
unfolding advance_answer
advance_moves s = refl

pub issue_moves : (s : Session) (out : List ℕ) → (issue_answer s out).2 ≡ session_after (issue_answer s out).0 s
unfolding issue_answer
issue_moves s out = refl

pub advance_live : (s : Session) → (advance_answer s).0 ≡ 0 → is_spent s ≡ false
unfolding advance_answer advance_number
advance_live s e = none_applies (advance_tests s) 0 refl e

pub issue_live : (s : Session) (out : List ℕ) → (issue_answer s out).0 ≡ 0 → (ltb (length out) session_iv_size ≡ false) × (is_spent s ≡ false)
unfolding issue_answer issue_number
issue_live s out e = (none_applies (issue_tests s out) 0 refl e, none_applies (issue_tests s out) 1 refl e)
