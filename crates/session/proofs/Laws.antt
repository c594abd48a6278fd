-- The statements of specs/Laws.antt, proved.
-- Assumes nothing.
use mathlib.Core.Path.{◌≡◌, refl, sym, ap, ap₂, ◌∙◌}
use mathlib.Core.Bool.{false, not}
use mathlib.Core.List.{List, ◌++◌}
use Prim.Native.Nat.{ℕ, ◌+◌, ◌^◌, ◌≤◌, ◌<◌}
use native.Mathlib.Omega.{arith}
use lib.ListN.{length, take, drop, length-append}
use lib.Seq.{take_at}
use borrow.Author.Tests.{le-ltb, ltb-false, ne_eqb}
use Rattle.octets.specs.BigEndian.{be}
use Rattle.octets.specs.Lent.{over}
use Rattle.octets.proofs.BigEndian.{length-be}
use Rattle.octets.proofs.Lent.{over_fits, over-whole}
use Rattle.octets.proofs.Unique.{unique}
use Rattle.refusals.proofs.Laws.{refusal_unique, not_zero}
use Rattle.refusals.specs.declared.Refusal.{Refusal}
use Rattle.std.specs.Prelude.{Result, Ok, Err}
use Rattle.session.specs.Iv.{prefix_size, field_size, session_iv_size, with_fields, started, is_spent, iv_of, next_session}
use Rattle.session.specs.Calls.{SessionAnswer, advance_number, advance_answer, issued_says, issue_number, issue_answer}
use Rattle.session.specs.Laws.{SessionRun, advanced, AdvanceGives, AdvanceEnds, AdvancesDiffer, issue_before, issue_call, IssueGives, IssueEnds, IssuesDiffer, IssueRefused, SpentGives}
use Rattle.session.specs.Laws.{near_end, LastTwo, LastTwoHeld, AdvanceTestsRise, IssueTestsRise, StartUnique, AdvanceUnique, IssueUnique}
use Rattle.session.specs.declared.Session.{Session}
use Rattle.session.specs.declared.Issued.{Issued}
use Rattle.session.proofs.Calls.{advance_spent, advance-done, advance_moves, advance_live, issue_spent, issue-done, issue_moves, issue_live}
use Rattle.session.proofs.Runs.{ended, run_at, run_ends, run_prefix, run_differs}

-- ---- by value

advances : (s : Session) → SessionRun (advanced s) (λ i. (advance_answer (advanced s i)).0)
advances s = record { moves = λ i. advance_moves (advanced s i); live = λ i. advance_live (advanced s i) }

-- its IV where it gives one
advance_iv : (s : Session) → (advance_answer s).0 ≡ 0 → iv_of s ≡ (advance_answer s).1
advance_iv s e = sym (ap (λ (a : SessionAnswer). a.1) (advance-done s (advance_live s e)))

-- and a session that is not spent gives one
advance_ready : (s : Session) → is_spent s ≡ false → (advance_answer s).0 ≡ 0
advance_ready s live = ap (λ (a : SessionAnswer). a.0) (advance-done s live)

module _ (prefix : List ℕ) (start : ℕ) where
  abbrev turn : ℕ → Session
  turn = advanced (started prefix start)

  turn_at : (i : ℕ) → start + i < 2 ^ 64 → turn i ≡ started prefix (start + i)
  turn_at = run_at turn (λ i. (advance_answer (turn i)).0) (advances (started prefix start)) prefix start refl (λ i. advance_ready (turn i))

  turn-ends : (i : ℕ) → start < 2 ^ 64 → 2 ^ 64 ≤ start + i → turn i ≡ ended prefix
  turn-ends = run_ends turn (λ i. (advance_answer (turn i)).0) (advances (started prefix start)) prefix start refl (λ i. advance_ready (turn i))

pub advance_gives : AdvanceGives
advance_gives prefix start i h =
    let at = turn_at prefix start i h in
    let e = advance-done (advanced (started prefix start) i) (ap is_spent at) in
    e ∙ ap₂ (λ (iv : List ℕ) (s : Session). (0, iv, s)) (ap iv_of at) (sym (ap (λ (a : SessionAnswer). a.2) e))

pub advance-ends : AdvanceEnds
advance-ends prefix start i below past = advance_spent (advanced (started prefix start) i) (ap is_spent (turn-ends prefix start i below past))

pub advances-differ : AdvancesDiffer
advances-differ prefix start i j below hi hj e =
    run_differs (advanced (started prefix start)) _ (advances (started prefix start)) below i j hi hj
    (advance_iv (advanced (started prefix start) i) hi ∙ e ∙ sym (advance_iv (advanced (started prefix start) j) hj))

-- ---- where the caller holds it

calls : (outs : ℕ → List ℕ) (s : Session) → SessionRun (issue_before outs s) (λ i. (issue_call outs s i).0)
calls outs s = record { moves = λ i. issue_moves (issue_before outs s i) (outs i); live = λ i e. (issue_live (issue_before outs s i) (outs i) e).1 }

pub length_iv : (s : Session) → length s.prefix ≡ prefix_size → length (iv_of s) ≡ session_iv_size
length_iv s h = length-append s.prefix (be field_size s.next) ∙ ap₂ ◌+◌ h (length-be field_size s.next)

-- the IV written over the front
iv-over : (s : Session) (out : List ℕ) → length s.prefix ≡ prefix_size → session_iv_size ≤ length out → over (iv_of s) out ≡ iv_of s ++ drop session_iv_size out
iv-over s out h room =
    let l = length_iv s h in
    over_fits (iv_of s) out (omega (arith, l)) ∙ ap (λ (n : ℕ). iv_of s ++ drop n out) l

issue_iv : (s : Session) (out : List ℕ) → length s.prefix ≡ prefix_size → (issue_answer s out).0 ≡ 0 → take session_iv_size (issue_answer s out).1 ≡ iv_of s
issue_iv s out h e =
    let (room, live) = issue_live s out e in
    ap (take session_iv_size) (ap (λ (a : SessionAnswer). a.1) (issue-done s out room live) ∙ iv-over s out h (ltb-false (length out) session_iv_size room))
    ∙ take_at (iv_of s) (drop session_iv_size out) session_iv_size (length_iv s h)

issue_ready : (s : Session) (out : List ℕ) → session_iv_size ≤ length out → is_spent s ≡ false → (issue_answer s out).0 ≡ 0
issue_ready s out room live = ap (λ (a : SessionAnswer). a.0) (issue-done s out (le-ltb (length out) session_iv_size room) live)

module _ (prefix : List ℕ) (start : ℕ) (outs : ℕ → List ℕ) where
  abbrev stand : ℕ → Session
  stand = issue_before outs (started prefix start)

  abbrev answered : ℕ → ℕ
  answered k = (issue_call outs (started prefix start) k).0

  stand_prefix : (i : ℕ) → (stand i).prefix ≡ prefix
  stand_prefix = run_prefix stand answered (calls outs (started prefix start))

  module _ (room : (j : ℕ) → session_iv_size ≤ length (outs j)) where
    stand_at : (i : ℕ) → start + i < 2 ^ 64 → stand i ≡ started prefix (start + i)
    stand_at = run_at stand answered (calls outs (started prefix start)) prefix start refl (λ i. issue_ready (stand i) (outs i) (room i))

    stand-ends : (i : ℕ) → start < 2 ^ 64 → 2 ^ 64 ≤ start + i → stand i ≡ ended prefix
    stand-ends = run_ends stand answered (calls outs (started prefix start)) prefix start refl (λ i. issue_ready (stand i) (outs i) (room i))

pub issue_gives : IssueGives
issue_gives prefix start outs i size room h =
    let at = stand_at prefix start outs room i h in
    let s = issue_before outs (started prefix start) i in
    let e = issue-done s (outs i) (le-ltb (length (outs i)) session_iv_size (room i)) (ap is_spent at) in
    let bytes = iv-over s (outs i) (ap (λ (p : Session). length p.prefix) at ∙ size) (room i) in
    e ∙ ap₂ (λ (l : List ℕ) (t : Session). (0, l, t)) (bytes ∙ ap (λ (t : Session). iv_of t ++ drop session_iv_size (outs i)) at) (sym (ap (λ (a : SessionAnswer). a.2) e))

pub issue-ends : IssueEnds
issue-ends prefix start outs i room below past =
    issue_spent (issue_before outs (started prefix start) i) (outs i) (le-ltb (length (outs i)) session_iv_size (room i)) (ap is_spent (stand-ends prefix start outs room i below past))

pub issues-differ : IssuesDiffer
issues-differ prefix start outs i j size below hi hj e =
    run_differs (issue_before outs (started prefix start)) _ (calls outs (started prefix start)) below i j hi hj (sym (given i hi) ∙ e ∙ given j hj)
  where
    given : (k : ℕ) → (issue_call outs (started prefix start) k).0 ≡ 0 → take session_iv_size (issue_call outs (started prefix start) k).1 ≡ iv_of (issue_before outs (started prefix start) k)
    given k = issue_iv (issue_before outs (started prefix start) k) (outs k) (ap length (stand_prefix prefix start outs k) ∙ size)

pub issue-refused : IssueRefused
unfolding issue_answer
issue-refused s out h = rw (ne_eqb (issue_number s out) 0 h)

pub spent_gives : SpentGives
spent_gives prefix out next spent h room =
    issue_spent (with_fields prefix next spent) out (le-ltb (length out) session_iv_size room) (ap not (ne_eqb spent 0 h))

-- ---- the last two

pub last_two : LastTwo
unfolding advance_answer advance_number
last_two prefix = (refl, refl, refl)

-- into twelve bytes an IV is given as by value
issue-whole : (s : Session) (out : List ℕ) → length s.prefix ≡ prefix_size → length out ≡ session_iv_size → is_spent s ≡ false → issue_answer s out ≡ advance_answer s
issue-whole s out size room live =
    issue-done s out (le-ltb (length out) session_iv_size (omega (arith, room))) live
    ∙ ap (λ (l : List ℕ). (0, l, next_session s)) (over-whole (iv_of s) out (length_iv s size ∙ sym room))
    ∙ sym (advance-done s live)

pub last_two_held : LastTwoHeld
unfolding advance_answer advance_number
last_two_held prefix a b c size ha hb hc =
    let two = last_two prefix in (
      issue-whole (near_end prefix) a size ha refl ∙ two.0,
      issue-whole (advanced (near_end prefix) 1) b size hb refl ∙ two.1,
      issue_spent (advanced (near_end prefix) 2) c (le-ltb (length c) session_iv_size (omega (arith, hc))) refl,
    )

-- ---- the lowest

pub advance_tests_rise : AdvanceTestsRise
advance_tests_rise s = refl

pub issue_tests_rise : IssueTestsRise
issue_tests_rise s out = refl

-- ---- one answer

pub start_unique : StartUnique
start_unique prefix start = unique (started prefix start)

-- what is said of an issue tells it: its number whether it was given and else for what it was refused
issued_once : (s : Session) (x y : Result Issued Refusal) → issued_says s x ≡ issued_says s y → x ≡ y
issued_once s (Ok a) (Ok b) e = ap (λ (t : SessionAnswer). Ok (record { iv = t.1; session = t.2 })) e
issued_once s (Ok a) (Err f) e = absurd (not_zero f (ap (λ (t : SessionAnswer). t.0) e))
issued_once s (Err f) (Ok a) e = absurd (not_zero f (sym (ap (λ (t : SessionAnswer). t.0) e)))
issued_once s (Err f) (Err g) e = ap Err (refusal_unique f g (ap (λ (t : SessionAnswer). t.0) e))

pub advance_unique : AdvanceUnique
advance_unique s x y p q = issued_once s x y (p ∙ sym q)

pub issue_unique : IssueUnique
issue_unique s out = unique (issue_answer s out)
