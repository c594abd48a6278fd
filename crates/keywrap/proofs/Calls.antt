-- The answers over lent bytes: each refusal by its test, and the result.
-- Assumes nothing.
use mathlib.Core.Path.{◌≡◌}
use mathlib.Core.Bool.{true, false, ◌||◌}
use mathlib.Core.List.{List}
use Prim.Native.Nat.{ℕ}
use lib.Dec.{ltb}
use lib.ListN.{length}
use Rattle.octets.specs.Lent.{is_not, over}
use Rattle.keywrap.specs.Wrap.{wrapped, start_right, unwrapped_key}
use Rattle.keywrap.specs.Calls.{wrap_number, wrap_answer, unwrap_number, unwrap_answer}

pub wrap-done : (kek key out : List ℕ) → (is_not 32 kek || is_not 32 key) ≡ false → ltb (length out) 40 ≡ false
    → wrap_answer kek key out ≡ (0, over (wrapped kek key) out)
unfolding wrap_answer wrap_number
wrap-done kek key out right room = rw (right, room)

module _ (kek w out : List ℕ) (right : is_not 32 kek ≡ false) (room : ltb (length out) 32 ≡ false) (long : is_not 40 w ≡ false) where
  pub unwrap_start : start_right kek w ≡ false → unwrap_answer kek w out ≡ (9, out)
  unfolding unwrap_answer unwrap_number
  unwrap_start wrong = rw (right, room, long, wrong)

  pub unwrap_key : start_right kek w ≡ true → unwrap_answer kek w out ≡ (0, over (unwrapped_key kek w) out)
  unfolding unwrap_answer unwrap_number
  unwrap_key start = rw (right, room, long, start)
