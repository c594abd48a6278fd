-- The calls of a session: document 01's numbers ("Numbers given back"), the bytes lent for the IV, and the session.
-- Assumes nothing.
use Rattle.std.specs.Prelude.{ℕ, List, [], ◌∷◌, ltb, length, replicate, Result, Ok, Err}
use Rattle.octets.specs.Lent.{Tests, lowest, kept, answer}
use Rattle.refusals.specs.Numbers.{number_of}
use Rattle.refusals.specs.declared.Refusal.{Refusal}
use Rattle.session.specs.Iv.{session_iv_size, started, is_spent, iv_of, next_session}
use Rattle.session.specs.declared.Session.{Session}
use Rattle.session.specs.declared.Issued.{Issued}

-- a number, the bytes of the IV or those lent for it, and the session
abbrev pub SessionAnswer : Type 0
SessionAnswer = ℕ × List ℕ × Session

-- "After any but 0, each lent buffer and session is unchanged": the session after a call that gave n
abbrev pub session_after : ℕ → Session → Session
session_after n s = kept n (next_session s) s

-- ---- a start is never refused

abbrev pub start_answer : List ℕ → ℕ → ℕ × Session
start_answer prefix start = (0, started prefix start)

-- ---- by value: 10, "IV session spent"; zeros stand for the IV then

abbrev pub advance_tests : Session → Tests
advance_tests s = (10, is_spent s) ∷ []

unfoldable pub advance_number : Session → ℕ
advance_number s = lowest (advance_tests s)

unfoldable pub advance_answer : Session → SessionAnswer
advance_answer s = (advance_number s, kept (advance_number s) (iv_of s) (replicate session_iv_size 0), session_after (advance_number s) s)

-- of the session s: the number, the IV given, and the session after it; of a refusal zeros for the IV, and s itself
abbrev pub issued_says : Session → Result Issued Refusal → SessionAnswer
issued_says s (Ok r) = (0, r.iv, r.session)
issued_says s (Err e) = (number_of e, replicate session_iv_size 0, s)

-- ---- into lent bytes: 5, "output shorter than the result", then 10

abbrev pub issue_tests : Session → List ℕ → Tests
issue_tests s out = (5, ltb (length out) session_iv_size) ∷ (10, is_spent s) ∷ []

unfoldable pub issue_number : Session → List ℕ → ℕ
issue_number s out = lowest (issue_tests s out)

unfoldable pub issue_answer : Session → List ℕ → SessionAnswer
issue_answer s out = (issue_number s out, (answer (issue_number s out) (iv_of s) out).1, session_after (issue_number s out) s)
