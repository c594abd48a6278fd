-- Sealing with a session (document 01, "IV session", "Record"): the IV is the session's next one.
-- Assumes nothing.
use Rattle.std.specs.Prelude.{ℕ, Bool, List, [], ◌∷◌, ◌++◌, length, Result, Ok, Err}
use Rattle.std.proofs.Math.Option.{Option}
use Rattle.octets.specs.Lent.{Tests, lowest, answer}
use Rattle.refusals.specs.Numbers.{number_of}
use Rattle.refusals.specs.declared.Refusal.{Refusal}
use Rattle.keytable.specs.Row.{Row}
use Rattle.keytable.specs.Table.{table_ok, data_row}
use Rattle.session.specs.Iv.{is_spent, iv_of}
use Rattle.session.specs.Calls.{SessionAnswer, session_after}
use Rattle.session.specs.declared.Session.{Session}
use Rattle.record.specs.Seal.{record_by, seal_tests}

-- "The lowest that applies is given": sealing's own tests, and then 10, "IV session spent"
abbrev pub seal_next_tests : Session → Bool → Option Row → List ℕ → List ℕ → ℕ → ℕ → Tests
seal_next_tests s ok row name a n room = seal_tests ok row name (iv_of s) a n room ++ ((10, is_spent s) ∷ [])

unfoldable pub seal_next_number : Session → Bool → Option Row → List ℕ → List ℕ → ℕ → ℕ → ℕ
seal_next_number s ok row name a n room = lowest (seal_next_tests s ok row name a n room)

-- the number, the lent output, and the session: "After any but 0, each lent buffer and session is unchanged"
unfoldable pub seal_next_row : Session → Bool → Option Row → List ℕ → List ℕ → List ℕ → List ℕ → SessionAnswer
seal_next_row s ok row name a p out = (
  seal_next_number s ok row name a (length p) (length out),
  (answer (seal_next_number s ok row name a (length p) (length out)) (record_by row name (iv_of s) a p) out).1,
  session_after (seal_next_number s ok row name a (length p) (length out)) s,
)

abbrev pub seal_next_answer : Session → List ℕ → List ℕ → List ℕ → List ℕ → List ℕ → SessionAnswer
seal_next_answer s t name a p out = seal_next_row s (table_ok t) (data_row t name) name a p out

-- by value the session after it comes with 0, and a refusal leaves the session s; beside it stands the lent output
abbrev pub sealed_says : Session → Result Session Refusal × List ℕ → SessionAnswer
sealed_says s (Ok after, out) = (0, out, after)
sealed_says s (Err e, out) = (number_of e, out, s)
