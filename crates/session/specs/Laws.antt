-- What a session promises, as statements; proofs/Laws.antt and proofs/Runs.antt prove them.
-- Assumes nothing.
use Rattle.std.specs.Prelude.{◌≡◌, true, false, List, [], ◌∷◌, ◌++◌, ℕ, zero, suc, ◌+◌, ◌-◌, ◌^◌, ◌≤◌, ◌<◌, length, take, drop, replicate}
use Rattle.octets.specs.BigEndian.{be}
use Rattle.octets.specs.Lowest.{rises}
use Rattle.octets.specs.Unique.{UniqueBy, Unique}
use Rattle.session.specs.Iv.{prefix_size, field_size, session_iv_size, with_fields, started, is_spent, iv_of}
use Rattle.session.specs.Calls.{SessionAnswer, session_after, advance_tests, advance_answer, issued_says, issue_tests, issue_answer}
use Rattle.session.specs.declared.Session.{Session}

-- ---- any calls on one session, one after another

-- before i is the session before call number i, from 0, and number i what that call gives: 0 only to a session that is not spent, and 0 alone advances it
pub record SessionRun (before : ℕ → Session) (number : ℕ → ℕ) : Type 0 where
  pub moves : (i : ℕ) → before (suc i) ≡ session_after (number i) (before i)
  pub live : (i : ℕ) → number i ≡ 0 → is_spent (before i) ≡ false

-- "So one session's IVs all differ", whatever was refused between them
abbrev pub RunDiffers : Type 0
RunDiffers =
    (before : ℕ → Session) (number : ℕ → ℕ) → SessionRun before number → (before 0).next < 2 ^ 64
    → (i j : ℕ) → number i ≡ 0 → number j ≡ 0 → iv_of (before i) ≡ iv_of (before j) → i ≡ j

-- ---- issues by value, one after another

-- the session after i issues
abbrev pub advanced : Session → ℕ → Session
advanced s zero = s
advanced s (suc i) = (advance_answer (advanced s i)).2

-- "Issue number i, from 0, gives the prefix then s+i, while s+i is below 2^64"
abbrev pub AdvanceGives : Type 0
AdvanceGives =
    (prefix : List ℕ) (start i : ℕ) → start + i < 2 ^ 64
    → advance_answer (advanced (started prefix start) i) ≡ (0, prefix ++ be field_size (start + i), advanced (started prefix start) (suc i))

-- "later calls give 10 and change nothing"
abbrev pub AdvanceEnds : Type 0
AdvanceEnds =
    (prefix : List ℕ) (start i : ℕ) → start < 2 ^ 64 → 2 ^ 64 ≤ start + i
    → advance_answer (advanced (started prefix start) i) ≡ (10, replicate session_iv_size 0, advanced (started prefix start) i)

abbrev pub AdvancesDiffer : Type 0
AdvancesDiffer =
    (prefix : List ℕ) (start i j : ℕ) → start < 2 ^ 64
    → (advance_answer (advanced (started prefix start) i)).0 ≡ 0 → (advance_answer (advanced (started prefix start) j)).0 ≡ 0
    → (advance_answer (advanced (started prefix start) i)).1 ≡ (advance_answer (advanced (started prefix start) j)).1 → i ≡ j

-- ---- issues where the caller holds the session, one after another: outs i is what is lent to call number i

-- the session before call number i, and that call
abbrev pub issue_before : (ℕ → List ℕ) → Session → ℕ → Session
issue_before outs s zero = s
issue_before outs s (suc i) = (issue_answer (issue_before outs s i) (outs i)).2

abbrev pub issue_call : (ℕ → List ℕ) → Session → ℕ → SessionAnswer
issue_call outs s i = issue_answer (issue_before outs s i) (outs i)

abbrev pub IssueGives : Type 0
IssueGives =
    (prefix : List ℕ) (start : ℕ) (outs : ℕ → List ℕ) (i : ℕ) → length prefix ≡ prefix_size → ((j : ℕ) → session_iv_size ≤ length (outs j))
    → start + i < 2 ^ 64
    → issue_call outs (started prefix start) i ≡ (0, prefix ++ be field_size (start + i) ++ drop session_iv_size (outs i), issue_before outs (started prefix start) (suc i))

abbrev pub IssueEnds : Type 0
IssueEnds =
    (prefix : List ℕ) (start : ℕ) (outs : ℕ → List ℕ) (i : ℕ) → ((j : ℕ) → session_iv_size ≤ length (outs j)) → start < 2 ^ 64 → 2 ^ 64 ≤ start + i
    → issue_call outs (started prefix start) i ≡ (10, outs i, issue_before outs (started prefix start) i)

-- whatever is lent: calls that are refused for want of room may lie between them
abbrev pub IssuesDiffer : Type 0
IssuesDiffer =
    (prefix : List ℕ) (start : ℕ) (outs : ℕ → List ℕ) (i j : ℕ) → length prefix ≡ prefix_size → start < 2 ^ 64
    → (issue_call outs (started prefix start) i).0 ≡ 0 → (issue_call outs (started prefix start) j).0 ≡ 0
    → take session_iv_size (issue_call outs (started prefix start) i).1 ≡ take session_iv_size (issue_call outs (started prefix start) j).1 → i ≡ j

-- "After any but 0, each lent buffer and session is unchanged"
abbrev pub IssueRefused : Type 0
IssueRefused = (s : Session) (out : List ℕ) → ((issue_answer s out).0 ≡ 0 → ⊥) → issue_answer s out ≡ ((issue_answer s out).0, out, s)

-- any value of the third field but 0 is spent, whatever the next number
abbrev pub SpentGives : Type 0
SpentGives =
    (prefix out : List ℕ) (next spent : ℕ) → (spent ≡ 0 → ⊥) → session_iv_size ≤ length out
    → issue_answer (with_fields prefix next spent) out ≡ (10, out, with_fields prefix next spent)

-- ---- "Session start 2^64-2: two IVs, then 10"

abbrev pub near_end : List ℕ → Session
near_end prefix = started prefix (2 ^ 64 - 2)

abbrev pub last_but : ℕ → List ℕ
last_but b = 0xff ∷ 0xff ∷ 0xff ∷ 0xff ∷ 0xff ∷ 0xff ∷ 0xff ∷ b ∷ []

abbrev pub LastTwo : Type 0
LastTwo =
    (prefix : List ℕ)
    → (advance_answer (near_end prefix) ≡ (0, prefix ++ last_but 0xfe, advanced (near_end prefix) 1))
    × (advance_answer (advanced (near_end prefix) 1) ≡ (0, prefix ++ last_but 0xff, advanced (near_end prefix) 2))
    × (advance_answer (advanced (near_end prefix) 2) ≡ (10, replicate session_iv_size 0, advanced (near_end prefix) 2))

-- the same where the caller holds it
abbrev pub LastTwoHeld : Type 0
LastTwoHeld =
    (prefix a b c : List ℕ) → length prefix ≡ prefix_size → length a ≡ session_iv_size → length b ≡ session_iv_size → length c ≡ session_iv_size
    → (issue_answer (near_end prefix) a ≡ (0, prefix ++ last_but 0xfe, advanced (near_end prefix) 1))
    × (issue_answer (advanced (near_end prefix) 1) b ≡ (0, prefix ++ last_but 0xff, advanced (near_end prefix) 2))
    × (issue_answer (advanced (near_end prefix) 2) c ≡ (10, c, advanced (near_end prefix) 2))

-- ---- "The lowest that applies is given, and no other."

abbrev pub AdvanceTestsRise : Type 0
AdvanceTestsRise = (s : Session) → rises (advance_tests s) ≡ true

abbrev pub IssueTestsRise : Type 0
IssueTestsRise = (s : Session) (out : List ℕ) → rises (issue_tests s out) ≡ true

-- ---- for each input one answer, and one state of what is lent

abbrev pub StartUnique : Type 0
StartUnique = (prefix : List ℕ) (start : ℕ) → Unique (started prefix start)

abbrev pub AdvanceUnique : Type 0
AdvanceUnique = (s : Session) → UniqueBy (issued_says s) (advance_answer s)

abbrev pub IssueUnique : Type 0
IssueUnique = (s : Session) (out : List ℕ) → Unique (issue_answer s out)
