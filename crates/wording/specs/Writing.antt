-- Text written into lent room from a place on: all of it, or nothing.
-- Assumes nothing.
use Rattle.std.specs.Prelude.{◌≡◌, List, [], ◌∷◌, ◌++◌, ℕ, ◌+◌, ◌≤◌, leb, length, take, drop, Result, Ok, Err}
use Rattle.refusals.specs.declared.Refusal.{Refusal}
use Rattle.refusals.specs.declared.Refusal.TheVariants.{NoRoom}
use Rattle.octets.specs.Lent.{when}

-- 2 ^ 64 - 1: a place that no room reaches
abbrev pub nowhere : ℕ
nowhere = 18446744073709551615

-- the place after s, and the room with s in it; or `nowhere`, and the room as it was
unfoldable pub put_at : ℕ → List ℕ → List ℕ → ℕ × List ℕ
put_at at s room =
    when (leb (at + length s) (length room)) (at + length s, take at room ++ (s ++ drop (at + length s) room)) (nowhere, room)

-- texts put one after the other, each at the place that the one before it answered
abbrev pub put_all : ℕ → List (List ℕ) → List ℕ → ℕ × List ℕ
put_all at [] room = (at, room)
put_all at (s ∷ ss) room = put_all (put_at at s room).0 ss (put_at at s room).1

-- s was written at the place `at`, where it fits; the rest is as before, and `end` is the place after it
pub record Wrote (at : ℕ) (s before after : List ℕ) (end : ℕ) : Type 0 where
  pub fits : at + length s ≤ length before
  pub place : end ≡ at + length s
  pub text : after ≡ take at before ++ (s ++ drop (at + length s) before)

-- ---- a writer: its place, and its room

abbrev pub Place : Type 0
Place = ℕ × List ℕ

abbrev pub Answer : Type 0
Answer = Result (Unit {0}) Refusal × Place

-- what a writer answers to a text, and its place and its room then: all of the text, and the place after it; or, where it does not fit, NoRoom and both as they were
unfoldable pub writer_put : List ℕ → Place → Answer
writer_put s w = when (leb (w.0 + length s) (length w.1)) (Ok tt, put_at w.0 s w.1) (Err NoRoom, w)

-- what comes after, where the answer was Ok
abbrev pub goes_on : Answer → (Place → Answer) → Answer
goes_on (Ok u, w) next = next w
goes_on (Err e, w) next = (Err e, w)

-- texts put one after the other, up to the first that does not fit
abbrev pub writer_puts : List (List ℕ) → Place → Answer
writer_puts [] w = (Ok tt, w)
writer_puts (s ∷ ss) w = goes_on (writer_put s w) (writer_puts ss)
