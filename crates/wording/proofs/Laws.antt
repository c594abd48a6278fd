-- The laws of specs/Laws.antt.
-- Assumes nothing.
use mathlib.Core.Path.{◌≡◌, refl, sym, ap, ◌∙◌}
use mathlib.Core.Bool.{Bool, true, false}
use mathlib.Core.List.{List, [], ◌∷◌, ◌++◌, append_assoc}
use Prim.Native.Nat.{ℕ, ◌+◌, ◌-◌, ◌/◌, ◌%◌, ◌≤◌, ◌<◌}
use native.Mathlib.Omega.{arith}
use borrow.Author.Tests.{eq-eqb, leb-true, leb-false}
use lib.Dec.{leb}
use lib.ListN.{length, length-append}
use Rattle.octets.specs.Bytes.{Bytes}
use Rattle.octets.specs.Lent.{over}
use Rattle.octets.specs.Tests.{all, part_of}
use Rattle.octets.proofs.Bytes.{bytes_head, bytes_tail}
use Rattle.octets.proofs.Values.{cons_equal}
use Rattle.octets.proofs.Tests.{part_at}
use Rattle.octets.proofs.Unique.{unique}
use Rattle.wording.specs.Decimal.{decimal, value_of}
use Rattle.wording.specs.Hex.{is_hex_digit, digit_of, is_hex, hex_byte, hex_bytes, digits_of, hex_read}
use Rattle.wording.specs.Lines.{space, newline, line, together}
use Rattle.wording.specs.Writing.{nowhere, put_at, put_all, Answer, writer_put, writer_puts}
use Rattle.wording.specs.Laws.{DecimalReads, DecimalDigits, NoZeroBefore, LineReads, DigitsLength, ThereAndBack, ReadTestsRise, ReadUnique}
use Rattle.wording.specs.Laws.{NowhereStays, LastTells, put_said, WriterSays, WriterTells, WriterUnique, PutUnique}
use Rattle.wording.proofs.DecimalDigits.{decimal_value, decimal_are, decimal_first}
use Rattle.wording.proofs.Digits.{digit_counts, length-digits_of, read_done}
use Rattle.wording.proofs.Puts.{writer-done, writer-not, writer_wrote, puts_fit, puts-past}
use Rattle.wording.proofs.Wrote.{put-not, put_fits, put_wrote, wrote-length, Puts, puts, done, puts_wrote}

-- ---- decimal digits

pub decimal_reads : DecimalReads
decimal_reads = decimal_value

pub decimal_digits : DecimalDigits
decimal_digits = decimal_are

pub line_reads : LineReads
line_reads word n = ap value_of (ap (λ (l : List ℕ). part_of l (length word + 1) digits) (sym (append_assoc word (space ∷ []) (decimal n ++ newline ∷ []))) ∙ between) ∙ decimal_reads n
  where
    digits : ℕ
    digits = length (line word n) - (length word + 2)

    between : part_of (word ++ (space ∷ []) ++ (decimal n ++ newline ∷ [])) (length word + 1) digits ≡ decimal n
    between =
        part_at (word ++ (space ∷ [])) (decimal n) (newline ∷ []) (length word + 1) digits (length-append word (space ∷ []))
        (omega (arith, length-append word (space ∷ (decimal n ++ newline ∷ [])), length-append (decimal n) (newline ∷ [])))

pub no-zero_before : NoZeroBefore
no-zero_before n = (decimal_first n).1

-- ---- hexadecimal digits

pub digits-length : DigitsLength
digits-length = length-digits_of

module _ (capital : Bool) where
  byte_back : (b : ℕ) → b < 256 → hex_byte (digit_of capital (b / 16)) (digit_of capital (b % 16)) ≡ b
  byte_back b h = rw ((digit_counts (b / 16) (omega arith) capital).1, (digit_counts (b % 16) (omega arith) capital).1) (omega arith)

  bytes_back : {s : List ℕ} → Bytes s → hex_bytes (digits_of capital s) ≡ s
  unfolding hex_bytes digits_of
  bytes_back {s = []} h = refl
  bytes_back {s = b ∷ s} h = cons_equal (byte_back b (bytes_head h)) (bytes_back (bytes_tail h))

  digits-all : {s : List ℕ} → Bytes s → all is_hex_digit (digits_of capital s) ≡ true
  unfolding all digits_of
  digits-all {s = []} h = refl
  digits-all {s = b ∷ s} h =
      let small : b < 256 = bytes_head h in
      rw ((digit_counts (b / 16) (omega arith) capital).0, (digit_counts (b % 16) (omega arith) capital).0) (digits-all (bytes_tail h))

  digits_hex : {s : List ℕ} → Bytes s → is_hex (digits_of capital s) ≡ true
  unfolding is_hex
  digits_hex {s} h = rw (eq-eqb (length (digits_of capital s) % 2) 0 (omega (arith, length-digits_of capital s)), digits-all h)

pub there_and_back : ThereAndBack
there_and_back capital s out h room =
    read_done (digits_of capital s) out (digits_hex capital h) (omega (arith, length-digits_of capital s))
    ∙ ap (λ (t : List ℕ). (0, over t out)) (bytes_back capital h)

pub read_tests_rise : ReadTestsRise
read_tests_rise word out = refl

pub read_unique : ReadUnique
read_unique word out = unique (hex_read word out)

-- ---- writing

pub nowhere_stays : NowhereStays
nowhere_stays s room h = put-not nowhere s room (omega arith)

stays_all : (ss : List (List ℕ)) (room : List ℕ) → length room < nowhere → (put_all nowhere ss room).0 ≡ nowhere
stays_all [] room h = refl
stays_all (s ∷ ss) room h = ap (λ (a : ℕ × List ℕ). (put_all a.0 ss a.1).0) (nowhere_stays s room h) ∙ stays_all ss room h

-- texts that together do not fit
abbrev Overruns : List (List ℕ) → Type 0
Overruns ss =
    (at : ℕ) (room : List ℕ) → at ≤ length room → length room < nowhere → length room < at + length (together ss) → (put_all at ss room).0 ≡ nowhere

overruns : (ss : List (List ℕ)) → Overruns ss
overruns [] at room within h long = absurd (omega arith)
overruns (s ∷ ss) at room within h long = go (leb (at + length s) (length room)) refl (overruns ss)
  where
    go : (t : Bool) → leb (at + length s) (length room) ≡ t → Overruns ss → (put_all at (s ∷ ss) room).0 ≡ nowhere
    go true e more =
        let w = put_fits at s room (leb-true (at + length s) (length room) e) refl in
        let size = wrote-length w in
        let both = length-append s (together ss) in
        more (put_at at s room).0 (put_at at s room).1 (omega (arith, w.place, w.fits)) (omega arith) (omega (arith, w.place))
    go false e more =
        ap (λ (a : ℕ × List ℕ). (put_all a.0 ss a.1).0) (put-not at s room (leb-false (at + length s) (length room) e)) ∙ stays_all ss room h

puts-all : (ss : List (List ℕ)) (at : ℕ) (room : List ℕ) → Puts at room ss (put_all at ss room).0 (put_all at ss room).1
puts-all [] at room = done
puts-all (s ∷ ss) at room = puts refl (puts-all ss (put_at at s room).0 (put_at at s room).1)

pub last_tells : LastTells
last_tells ss at room within h = go (leb (at + length (together ss)) (length room)) refl
  where
    go : (t : Bool) → leb (at + length (together ss)) (length room) ≡ t → (put_all at ss room).0 ≡ (put_at at (together ss) room).0
    go true e =
        sym (ap (λ (a : ℕ × List ℕ). a.0) (put_wrote (puts_wrote (puts-all ss at room) (leb-true (at + length (together ss)) (length room) e))))
    go false e =
        let long = leb-false (at + length (together ss)) (length room) e in
        overruns ss at room within h long ∙ sym (ap (λ (a : ℕ × List ℕ). a.0) (put-not at (together ss) room long))

pub writer_says : WriterSays
writer_says s at room = go (leb (at + length s) (length room)) refl
  where
    go : (t : Bool) → leb (at + length s) (length room) ≡ t → put_said (writer_put s (at, room)) ≡ put_at at s room
    go true e = ap put_said (writer-done s at room (leb-true (at + length s) (length room) e))
    go false e =
        let long = leb-false (at + length s) (length room) e in
        ap put_said (writer-not s at room long) ∙ sym (put-not at s room long)

pub writer_tells : WriterTells
writer_tells ss at room within = go (leb (at + length (together ss)) (length room)) refl
  where
    go : (t : Bool) → leb (at + length (together ss)) (length room) ≡ t → (writer_puts ss (at, room)).0 ≡ (writer_put (together ss) (at, room)).0
    go true e =
        let h = leb-true (at + length (together ss)) (length room) e in
        ap (λ (a : Answer). a.0) ((puts_fit ss h).2 ∙ sym (writer_wrote (puts_fit ss h).3))
    go false e =
        let long = leb-false (at + length (together ss)) (length room) e in
        puts-past ss at room within long ∙ sym (ap (λ (a : Answer). a.0) (writer-not (together ss) at room long))

pub writer_unique : WriterUnique
writer_unique s w = unique (writer_put s w)

pub put_unique : PutUnique
put_unique at s room = unique (put_at at s room)
