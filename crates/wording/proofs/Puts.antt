-- What a writer answers to a text, and to texts one after the other.
-- Assumes nothing.
use mathlib.Core.Path.{◌≡◌, refl, sym, ap, ap₂, fun_ext, ◌∙◌}
use mathlib.Core.Bool.{Bool, true, false}
use mathlib.Core.List.{List, [], ◌∷◌, ◌++◌, append_assoc, append-nil}
use Prim.Native.Nat.{ℕ, ◌+◌, ◌/◌, ◌%◌, ◌^◌, ◌≤◌, ◌<◌}
use native.Mathlib.Omega.{arith}
use lib.Dec.{leb}
use lib.ListN.{length, get_or, take, replicate, length-append}
use borrow.Author.Tests.{le-leb, lt-leb, leb-true, leb-false}
use Rattle.std.specs.Prelude.{Result, Ok, Err}
use Rattle.refusals.specs.declared.Refusal.{Refusal}
use Rattle.refusals.specs.declared.Refusal.TheVariants.{NoRoom}
use Rattle.wording.specs.declared.writing.Writer.{Writer}
use Rattle.wording.specs.Decimal.{decimal}
use Rattle.wording.specs.Hex.{digit_of, digits_of}
use Rattle.wording.specs.Lines.{space, newline, together}
use Rattle.wording.specs.Writing.{Place, Answer, put_at, writer_put, writer_puts, goes_on, Wrote}
use Rattle.wording.specs.Writer.{Writes, Adds}
use Rattle.wording.proofs.DecimalDigits.{length_decimal64}
use Rattle.wording.proofs.Digits.{digits_turn}
use Rattle.wording.proofs.Wrote.{put_fits, put_wrote, wrote_then, wrote_none, wrote-length}

abbrev Outcome : Type 0
Outcome = Result (Unit {0}) Refusal

-- ---- one text: it fits, or it does not

module _ (s : List ℕ) (at : ℕ) (room : List ℕ) where
  pub writer-done : at + length s ≤ length room → writer_put s (at, room) ≡ (Ok tt, put_at at s room)
  unfolding writer_put
  writer-done h = rw (le-leb (at + length s) (length room) h)

  pub writer-not : length room < at + length s → writer_put s (at, room) ≡ (Err NoRoom, (at, room))
  unfolding writer_put
  writer-not h = rw (lt-leb (at + length s) (length room) h)

pub writer_wrote : {at end : ℕ} {s room after : List ℕ} → Wrote at s room after end → writer_put s (at, room) ≡ (Ok tt, (end, after))
writer_wrote {at} {s = s} {room} w = writer-done s at room w.fits ∙ ap (λ (p : Place). (Ok tt, p)) (put_wrote w)

-- which of the two, by the answer

abbrev Says : (s : List ℕ) (at : ℕ) (room : List ℕ) → Answer → Type 0
Says s at room (Ok u, (end, after)) = Wrote at s room after end
Says s at room (Err e, (end, after)) = (length room < at + length s) × ((end ≡ at) × (after ≡ room))

says : (s : List ℕ) (at : ℕ) (room : List ℕ) → Says s at room (writer_put s (at, room))
says s at room = go (leb (at + length s) (length room)) refl
  where
    go : (t : Bool) → leb (at + length s) (length room) ≡ t → Says s at room (writer_put s (at, room))
    go true e = let h = leb-true (at + length s) (length room) e in rw (writer-done s at room h) (put_fits at s room h refl)
    go false e = let h = leb-false (at + length s) (length room) e in rw (writer-not s at room h) (h, (refl, refl))

pub writer_ok : (s : List ℕ) {at end : ℕ} {room after : List ℕ} → writer_put s (at, room) ≡ (Ok tt, (end, after)) → Wrote at s room after end
writer_ok s {at} {room = room} e = let told : Says s at room (writer_put s (at, room)) = says s at room in rw e at told

pub writer-err : (s : List ℕ) (at : ℕ) (room : List ℕ) {r : Refusal} {w : Place} → writer_put s (at, room) ≡ (Err r, w) → length room < at + length s
writer-err s at room {w = (end, after)} e = let told : Says s at room (writer_put s (at, room)) = says s at room in (rw e at told).0

-- a text after one that was written, where both fit
pub writer_then : {at m : ℕ} {s room between : List ℕ} (t : List ℕ) {a : Answer} → Wrote at s room between m → at + (length s + length t) ≤ length room
    → writer_put t (m, between) ≡ a → writer_put (s ++ t) (at, room) ≡ a
writer_then {m = m} {between = between} t first h e =
    let fits : m + length t ≤ length between = omega (arith, first.place, wrote-length first) in
    writer_wrote (wrote_then first (put_fits m t between fits refl)) ∙ sym (writer-done t m between fits) ∙ e

-- ---- texts one after the other

goes_on_end : (a : Answer) → goes_on a (λ w. (Ok tt, w)) ≡ a
goes_on_end (Ok tt, w) = refl
goes_on_end (Err e, w) = refl

goes_on-assoc : (a : Answer) (f g : Place → Answer) → goes_on (goes_on a f) g ≡ goes_on a (λ w. goes_on (f w) g)
goes_on-assoc (Ok u, w) f g = refl
goes_on-assoc (Err e, w) f g = refl

puts_both : (ss ts : List (List ℕ)) (w : Place) → writer_puts (ss ++ ts) w ≡ goes_on (writer_puts ss w) (writer_puts ts)
puts_both [] ts w = refl
puts_both (s ∷ ss) ts w =
    ap (goes_on (writer_put s w)) (fun_ext (λ (v : Place). puts_both ss ts v)) ∙ sym (goes_on-assoc (writer_put s w) (writer_puts ss) (writer_puts ts))

together_both : (ss ts : List (List ℕ)) → together (ss ++ ts) ≡ together ss ++ together ts
together_both [] ts = refl
together_both (s ∷ ss) ts = ap (λ (t : List ℕ). s ++ t) (together_both ss ts) ∙ sym (append_assoc s (together ss) (together ts))

module _ {before : Writer} where
  pub adds : {s : List ℕ} {after : Writer} {r : Outcome} → Writes (writer_put s) before after r → Adds s before after r
  adds {s} w = record {
    parts = s ∷ [];
    whole = append-nil s;
    writes = record { same_room = w.same_room; put = goes_on_end (writer_put s (before.at, before.out.now)) ∙ w.put };
  }

  pub adds_none : Adds [] before before (Ok tt)
  adds_none = record { parts = []; whole = refl; writes = record { same_room = refl; put = refl } }

  module _ {s : List ℕ} {between : Writer} where
    pub adds_then : {t : List ℕ} {after : Writer} {r : Outcome} → Adds s before between (Ok tt) → Adds t between after r → Adds (s ++ t) before after r
    adds_then a b = record {
      parts = a.parts ++ b.parts;
      whole = together_both a.parts b.parts ∙ ap₂ (λ (x y : List ℕ). x ++ y) a.whole b.whole;
      writes = record {
        same_room = b.writes.same_room ∙ a.writes.same_room;
        put =
            puts_both a.parts b.parts (before.at, before.out.now)
            ∙ ap (λ (x : Answer). goes_on x (writer_puts b.parts)) a.writes.put
            ∙ b.writes.put;
      };
    }

    pub adds_stop : (t : List ℕ) {e : Refusal} → Adds s before between (Err e) → Adds (s ++ t) before between (Err e)
    adds_stop t a = record {
      parts = a.parts ++ (t ∷ []);
      whole = together_both a.parts (t ∷ []) ∙ ap₂ (λ (x y : List ℕ). x ++ y) a.whole (append-nil t);
      writes = record {
        same_room = a.writes.same_room;
        put = puts_both a.parts (t ∷ []) (before.at, before.out.now) ∙ ap (λ (x : Answer). goes_on x (writer_puts (t ∷ []))) a.writes.put;
      };
    }

-- all of them fit, and are written; or they do not, and that is refused with NoRoom

pub puts_fit : (ss : List (List ℕ)) {at : ℕ} {room : List ℕ} → at + length (together ss) ≤ length room
    → (end : ℕ) × (after : List ℕ) × (writer_puts ss (at, room) ≡ (Ok tt, (end, after))) × Wrote at (together ss) room after end
puts_fit [] {at} {room} h = (at, room, refl, wrote_none at room (omega arith))
puts_fit (s ∷ ss) {at} {room} h =
    let first = put_fits at s room (omega (arith, length-append s (together ss))) refl in
    let rest = puts_fit ss {at = (put_at at s room).0} {room = (put_at at s room).1} (omega (arith, length-append s (together ss), first.place, wrote-length first)) in
    (rest.0, rest.1, ap (λ (a : Answer). goes_on a (writer_puts ss)) (writer_wrote first) ∙ rest.2, wrote_then first rest.3)

abbrev pub Past : List (List ℕ) → Type 0
Past ss = (at : ℕ) (room : List ℕ) → at ≤ length room → length room < at + length (together ss) → (writer_puts ss (at, room)).0 ≡ Err NoRoom

pub puts-past : (ss : List (List ℕ)) → Past ss
puts-past [] at room within long = absurd (omega arith)
puts-past (s ∷ ss) at room within long = go (leb (at + length s) (length room)) refl (puts-past ss)
  where
    go : (t : Bool) → leb (at + length s) (length room) ≡ t → Past ss → (writer_puts (s ∷ ss) (at, room)).0 ≡ Err NoRoom
    go true e more =
        let first = put_fits at s room (leb-true (at + length s) (length room) e) refl in
        let size = wrote-length first in
        let both = length-append s (together ss) in
        ap (λ (a : Answer). (goes_on a (writer_puts ss)).0) (writer_wrote first)
        ∙ more (put_at at s room).0 (put_at at s room).1 (omega (arith, first.place, first.fits)) (omega (arith, first.place))
    go false e more = ap (λ (a : Answer). (goes_on a (writer_puts ss)).0) (writer-not s at room (leb-false (at + length s) (length room) e))

module _ {s : List ℕ} {before after : Writer} {r : Outcome} (a : Adds s before after r) where
  pub adds_fit : before.at + length s ≤ length before.out.now → (r ≡ Ok tt) × Wrote before.at s before.out.now after.out.now after.at
  adds_fit h =
      let f = puts_fit a.parts {at = before.at} {room = before.out.now} (rw a.whole h) in
      let same = sym f.2 ∙ a.writes.put in (
        sym (ap (λ (x : Answer). x.0) same),
        rw (← a.whole, ← ap (λ (x : Answer). x.1.0) same, ← ap (λ (x : Answer). x.1.1) same) f.3,
      )

  pub adds-past : before.at ≤ length before.out.now → length before.out.now < before.at + length s → r ≡ Err NoRoom
  adds-past within h = sym (ap (λ (x : Answer). x.0) a.writes.put) ∙ puts-past a.parts before.at before.out.now within (rw a.whole h)

-- one byte's two digits more
pub hex_turn : (capital : Bool) (s : List ℕ) {at i m e high low : ℕ} {room between after : List ℕ} → i < length s
    → Wrote at (digits_of capital (take i s)) room between m → high ≡ digit_of capital (get_or s i 0 / 16) → low ≡ digit_of capital (get_or s i 0 % 16)
    → writer_put (high ∷ low ∷ []) (m, between) ≡ (Ok tt, (e, after)) → Wrote at (digits_of capital (take (i + 1) s)) room after e
hex_turn capital s {i = i} {high = high} {low = low} h w eh el two = rw (digits_turn capital s i h, ← eh, ← el) (wrote_then w (writer_ok (high ∷ low ∷ []) two))

-- what ends a line, in 22 bytes: a space, a number and a newline, each of which has room
module _ (n : ℕ) (h : n < 2 ^ 64) where
  pub line-space : {r : Refusal} {w : Place} → writer_put (space ∷ []) (0, replicate 22 0) ≡ (Err r, w) → ⊥
  line-space e = omega (arith, writer-err (space ∷ []) 0 (replicate 22 0) e)

  module _ {a : ℕ} {s : List ℕ} (first : writer_put (space ∷ []) (0, replicate 22 0) ≡ (Ok tt, (a, s))) where
    one : Wrote 0 (space ∷ []) (replicate 22 0) s a
    one = writer_ok (space ∷ []) first

    pub line-number : {r : Refusal} {w : Place} → writer_put (decimal n) (a, s) ≡ (Err r, w) → ⊥
    line-number e = omega (arith, writer-err (decimal n) a s e, length_decimal64 n h, one.place, wrote-length one)

    module _ {b : ℕ} {t : List ℕ} (second : writer_put (decimal n) (a, s) ≡ (Ok tt, (b, t))) where
      two : Wrote 0 (space ∷ decimal n) (replicate 22 0) t b
      two = wrote_then one (writer_ok (decimal n) second)

      pub line-newline : {r : Refusal} {w : Place} → writer_put (newline ∷ []) (b, t) ≡ (Err r, w) → ⊥
      line-newline e = omega (arith, writer-err (newline ∷ []) b t e, length_decimal64 n h, two.place, wrote-length two)

      pub line_end : {e : ℕ} {after : List ℕ} → writer_put (newline ∷ []) (b, t) ≡ (Ok tt, (e, after)) → Wrote 0 (space ∷ (decimal n ++ newline ∷ [])) (replicate 22 0) after e
      line_end third = wrote_then two (writer_ok (newline ∷ []) third)

-- ---- what a method does, by the other method that it is

pub writes_same : {f g : Place → Answer} {before after : Writer} {answer : Outcome} → f (before.at, before.out.now) ≡ g (before.at, before.out.now)
    → Writes g before after answer → Writes f before after answer
writes_same e w = record { same_room = w.same_room; put = e ∙ w.put }
