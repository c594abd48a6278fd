-- The text of an input, by the tests that are made of it.
-- Assumes nothing.
use mathlib.Core.Path.{◌≡◌, refl, sym, ap, ap₂, ◌∙◌}
use mathlib.Core.Bool.{Bool, true, false, false≢true}
use mathlib.Core.List.{List}
use Prim.Native.Nat.{ℕ, ◌≤◌, ◌<◌}
use native.Mathlib.Omega.{arith}
use lib.Dec.{leb}
use lib.ListN.{length, replicate, length-replicate}
use borrow.Author.Tests.{leb-true, leb-false, lt-ltb, le-ltb}
use Rattle.std.specs.Prelude.{Result, Ok, is_err}
use Rattle.octets.specs.Lent.{over}
use Rattle.refusals.specs.declared.Refusal.{Refusal}
use Rattle.wording.specs.declared.writing.Writer.{Writer}
use Rattle.wording.specs.ByValue.{text_of}
use Rattle.wording.specs.Writing.{Wrote}
use Rattle.wording.specs.Writer.{Adds}
use Rattle.wording.proofs.Puts.{adds_fit, adds-past}
use Rattle.wording.proofs.Wrote.{wrote_front}
use Rattle.cases.specs.Run.{lines_text, input_max, run_max, input_refused, text_refused, run_text, no_text, in_room}

size-zeros : (n : ℕ) {s : List ℕ} → s ≡ replicate n 0 → length s ≡ n
size-zeros n e = ap length e ∙ length-replicate {A = ℕ} n 0

zeros_are : no_text ≡ replicate run_max 0
unfolding no_text
zeros_are = refl

room_size : {room : List ℕ} → room ≡ no_text → length room ≡ run_max
room_size e = size-zeros run_max (e ∙ zeros_are)

-- what is said in place of the lines' text has room
said_in-room : (s : List ℕ) → length s ≤ run_max → in_room s ≡ text_of run_max s
said_in-room s h = ap₂ (λ (n : ℕ) (l : List ℕ). (n, l)) (omega arith) (ap (over s) zeros_are)

module _ (input : List ℕ) where
  pub run_long : input_max < length input → in_room (run_text input) ≡ text_of run_max input_refused
  unfolding run_text
  run_long h = rw (lt-ltb input_max (length input) h) (said_in-room input_refused (leb-true (length input_refused) run_max refl))

  module _ (short : length input ≤ input_max) {w v : Writer} {r : Result (Unit {0}) Refusal} (start : w.at ≡ 0) (empty : w.out.now ≡ no_text)
      (a : Adds (lines_text input) w v r) where
    fits-ok : length (lines_text input) ≤ run_max → (r ≡ Ok tt) × Wrote w.at (lines_text input) w.out.now v.out.now v.at
    fits-ok h = adds_fit a (omega (arith, start, room_size empty))

    past-err : run_max < length (lines_text input) → is_err r ≡ true
    past-err h = ap is_err (adds-past a (omega (arith, start)) (omega (arith, start, room_size empty)))

    pub run_full : is_err r ≡ true → in_room (run_text input) ≡ text_of run_max text_refused
    unfolding run_text
    run_full e =
        rw (le-ltb input_max (length input) short, lt-ltb run_max (length (lines_text input)) (go (leb (length (lines_text input)) run_max) refl))
        (said_in-room text_refused (leb-true (length text_refused) run_max refl))
      where
        go : (t : Bool) → leb (length (lines_text input)) run_max ≡ t → run_max < length (lines_text input)
        go true f = absurd (false≢true (sym (ap is_err (fits-ok (leb-true (length (lines_text input)) run_max f)).0) ∙ e))
        go false f = leb-false (length (lines_text input)) run_max f

    pub run_done : is_err r ≡ false → (in_room (run_text input) ≡ (v.at, v.out.now)) × (v.at ≤ run_max)
    unfolding run_text
    run_done e =
        let fits : length (lines_text input) ≤ run_max = go (leb (length (lines_text input)) run_max) refl in
        let w = rw (start, empty) at (fits-ok fits).1 in (
          rw (le-ltb input_max (length input) short, le-ltb run_max (length (lines_text input)) fits) (wrote_front w),
          omega (arith, w.place),
        )
      where
        go : (t : Bool) → leb (length (lines_text input)) run_max ≡ t → length (lines_text input) ≤ run_max
        go true f = leb-true (length (lines_text input)) run_max f
        go false f = absurd (false≢true (sym e ∙ past-err (leb-false (length (lines_text input)) run_max f)))
