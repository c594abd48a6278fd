-- Texts written into lent room: where one fits, and one after the other.
-- Assumes nothing.
use mathlib.Core.Path.{◌≡◌, sym, ap, ap₂, ◌∙◌}
use mathlib.Core.List.{List, [], ◌∷◌, ◌++◌, append_assoc}
use Prim.Native.Nat.{ℕ, ◌+◌, ◌^◌, ◌≤◌, ◌<◌}
use native.Mathlib.Nat.{zero-add, add-zero}
use native.Mathlib.Omega.{arith}
use lib.ListN.{length, take, drop, length-append, length-drop, take-append-drop}
use lib.Seq.{length-take-le, take_at, drop_at, drop-drop}
use borrow.Author.Tests.{le-leb, lt-leb}
use Rattle.octets.specs.Lent.{over}
use Rattle.octets.proofs.Lent.{over_fits}
use Rattle.wording.specs.Lines.{line, together}
use Rattle.wording.specs.Writing.{nowhere, put_at, Wrote}
use Rattle.wording.proofs.DecimalDigits.{length_decimal64}

-- ---- one text: it fits, or it does not

pub put-not : (at : ℕ) (s room : List ℕ) → length room < at + length s → put_at at s room ≡ (nowhere, room)
unfolding put_at
put-not at s room h = rw (lt-leb (at + length s) (length room) h)

module _ (at : ℕ) (s room : List ℕ) (h : at + length s ≤ length room) where
  put-done : put_at at s room ≡ (at + length s, take at room ++ (s ++ drop (at + length s) room))
  unfolding put_at
  put-done = rw (le-leb (at + length s) (length room) h)

  pub put_fits : {after : List ℕ} {end : ℕ} → put_at at s room ≡ (end, after) → Wrote at s room after end
  put_fits e = record {
    fits = h;
    place = ap (λ (a : ℕ × List ℕ). a.0) (sym e ∙ put-done);
    text = ap (λ (a : ℕ × List ℕ). a.1) (sym e ∙ put-done);
  }

pub put_wrote : {at end : ℕ} {s room after : List ℕ} → Wrote at s room after end → put_at at s room ≡ (end, after)
put_wrote {at} {end} {s} {room} {after} w =
    put-done at s room w.fits ∙ ap₂ (λ (n : ℕ) (l : List ℕ). (n, l)) (sym w.place) (sym w.text)

-- ---- s, and t after it

pub wrote-length : {at end : ℕ} {s before after : List ℕ} → Wrote at s before after end → length after ≡ length before
wrote-length {at} {end} {s} {before} w =
    ap length w.text ∙ simp (length-append, length-drop) (omega (arith, length-take-le at before (omega (arith, w.fits)), w.fits))

module _ {at m e : ℕ} {s t before between after : List ℕ} (first : Wrote at s before between m) (second : Wrote m t between after e) where
  both : between ≡ take at before ++ s ++ drop (at + length s) before
  both = first.text ∙ sym (append_assoc (take at before) s (drop (at + length s) before))

  front_length : length (take at before ++ s) ≡ m
  front_length = length-append (take at before) s ∙ (omega (arith, length-take-le at before (omega (arith, first.fits)), first.place))

  front : take m between ≡ take at before ++ s
  front = ap (take m) both ∙ take_at (take at before ++ s) (drop (at + length s) before) m front_length

  after_both : at + length s + length t ≡ at + length (s ++ t)
  after_both = simp length-append (omega arith)

  rest : drop (m + length t) between ≡ drop (at + length (s ++ t)) before
  rest =
      sym (drop-drop (length t) m between)
      ∙ ap (λ (l : List ℕ). drop (length t) l) (ap (drop m) both ∙ drop_at (take at before ++ s) (drop (at + length s) before) m front_length)
      ∙ drop-drop (length t) (at + length s) before
      ∙ ap (λ (k : ℕ). drop k before) after_both

  pub wrote_then : Wrote at (s ++ t) before after e
  wrote_then = record {
    fits = simp length-append (omega (arith, first.fits, first.place, second.fits, wrote-length first));
    place = simp length-append (omega (arith, first.place, second.place));
    text =
        second.text
        ∙ ap₂ (λ (a d : List ℕ). a ++ (t ++ d)) front rest
        ∙ append_assoc (take at before) s (t ++ drop (at + length (s ++ t)) before)
        ∙ ap (λ (l : List ℕ). take at before ++ l) (sym (append_assoc s t (drop (at + length (s ++ t)) before)));
  }

-- ---- any number of texts, one after the other

pub data Puts : ℕ → List ℕ → List (List ℕ) → ℕ → List ℕ → Type 0 where
  done : {at : ℕ} {room : List ℕ} → Puts at room [] at room
  puts : {at m end : ℕ} {s room between after : List ℕ} {ss : List (List ℕ)}
      → put_at at s room ≡ (m, between) → Puts m between ss end after → Puts at room (s ∷ ss) end after

pub wrote_none : (at : ℕ) (room : List ℕ) → at ≤ length room → Wrote at [] room room at
wrote_none at room h = record { fits = omega arith; place = omega arith; text = rw add-zero (sym (take-append-drop at room)) }

-- where all of them together fit
pub puts_wrote : {at end : ℕ} {ss : List (List ℕ)} {room after : List ℕ}
    → Puts at room ss end after → at + length (together ss) ≤ length room → Wrote at (together ss) room after end
puts_wrote {at} {room = room} done h = wrote_none at room (omega arith)
puts_wrote {at} {room = room} (puts {s = s} {ss = ss} e more) h =
    let size = length-append s (together ss) in
    let first = put_fits at s room (omega arith) e in
    wrote_then first (puts_wrote more (omega (arith, first.place, wrote-length first)))

-- a line is its word, and at most 22 bytes after it
pub length_line64 : (word : List ℕ) (n : ℕ) → n < 2 ^ 64 → length (line word n) ≤ length word + 22
length_line64 word n h = simp length-append (omega (arith, length_decimal64 n h))

-- ---- at the front

pub wrote_front : {s d after : List ℕ} {e : ℕ} → Wrote 0 s d after e → ◌≡◌ {A = ℕ × List ℕ} (length s, over s d) (e, after)
wrote_front {s} {d} {after} {e} w =
    ap₂ (λ (n : ℕ) (l : List ℕ). (n, l))
    (sym (zero-add (length s)) ∙ sym w.place)
    (over_fits s d (omega (arith, w.fits)) ∙ ap (λ (n : ℕ). s ++ drop n d) (sym (zero-add (length s))) ∙ sym w.text)

pub wrote_taken : {s d after : List ℕ} {e : ℕ} → Wrote 0 s d after e → take e after ≡ s
wrote_taken {s} {d} {after} {e} w =
    ap (take e) w.text ∙ take_at s (drop (0 + length s) d) e (omega (arith, w.place))
