-- Counter mode, for any f whose every value has 16 bytes: its length, block by block, twice, and as the code writes it into an output.
-- Assumes nothing.
use mathlib.Core.Path.{◌≡◌, refl, sym, ap, ap₂, subst, ◌∙◌}
use mathlib.Core.List.{List, [], ◌∷◌, ◌++◌, append_assoc, append-nil}
use Prim.Native.Nat.{ℕ, zero, suc, ◌+◌, ◌-◌, ◌*◌, ◌≤◌, ◌<◌}
use native.Mathlib.Nat.{add-zero, sub-zero}
use native.Mathlib.Numerals.{add-one}
use native.Mathlib.Omega.{arith}
use lib.ListN.{length, take, drop, length-append, length-take, length-drop, take-append-drop, drop_of_length-le}
use lib.Seq.{length-take-le, take-append-le, drop-append-le}
use Rattle.octets.specs.Values.{values}
use Rattle.octets.specs.Bytes.{Bytes}
use Rattle.octets.specs.Xor.{xors}
use Rattle.octets.specs.Blocks.{blocks}
use Rattle.octets.specs.Lent.{over}
use Rattle.octets.proofs.Values.{length-values}
use Rattle.octets.proofs.Bytes.{bytes_nil, bytes_append}
use Rattle.octets.proofs.BigEndian.{bytes-be}
use Rattle.octets.proofs.Xor.{length-xors, xors_cancel, xors_append, bytes-xors}
use Rattle.octets.proofs.Lent.{over_fits}
use Rattle.octets.proofs.Written.{drop_part, part_length, back-take, back-drop, back-length}
use Rattle.modes.specs.Counter.{stream, counter_block, ctr}
use Rattle.modes.specs.Laws.{CounterTwice}

pub ctr_nil : (f : List ℕ → List ℕ) (w : ℕ) (front : List ℕ) (i : ℕ) → ctr f w front i [] ≡ []
unfolding ctr
ctr_nil f w front i = refl

-- nothing is left
pub none_written : (f : List ℕ → List ℕ) (w : ℕ) (front : List ℕ) (i : ℕ) (s out : List ℕ) → length s ≡ 0 → length out ≡ length s → out ≡ ctr f w front i s
none_written f w front i [] [] h e = sym (ctr_nil f w front i)
none_written f w front i [] (y ∷ out) h e = absurd (omega arith)
none_written f w front i (x ∷ s) out h e = absurd (omega arith)

module _ (f : List ℕ → List ℕ) (size : (x : List ℕ) → length (f x) ≡ 16) where
  pub length-stream : (bs : List (List ℕ)) → length (stream f bs) ≡ 16 * length bs
  length-stream [] = refl
  length-stream (b ∷ bs) = length-append (f b) (stream f bs) ∙ omega (arith, size b, length-stream bs)

  module _ (w : ℕ) (front : List ℕ) where
    enough : (i : ℕ) (s : List ℕ) → length s ≤ length (stream f (values (counter_block w front) i (blocks (length s))))
    enough i s =
        omega (arith, length-stream (values (counter_block w front) i (blocks (length s))), length-values (counter_block w front) i (blocks (length s)))

    pub length-ctr : (i : ℕ) (s : List ℕ) → length (ctr f w front i s) ≡ length s
    unfolding ctr
    length-ctr i s = length-xors s (stream f (values (counter_block w front) i (blocks (length s)))) (enough i s)

    -- a block or less
    pub ctr_last : (i : ℕ) (s : List ℕ) → length s ≤ 16 → ctr f w front i s ≡ xors s (f (counter_block w front i))
    unfolding ctr
    ctr_last i [] h = refl
    ctr_last i (x ∷ s) h =
        ap (λ (m : ℕ). xors (x ∷ s) (stream f (values (counter_block w front) i m))) one
        ∙ ap (xors (x ∷ s)) (append-nil (f (counter_block w front i)))
      where
        one : blocks (length (x ∷ s)) ≡ 1
        one = omega arith

    -- a block, and the rest from the next counter on
    pub ctr_next : (i : ℕ) (s : List ℕ) → 16 ≤ length s
        → ctr f w front i s ≡ xors (take 16 s) (f (counter_block w front i)) ++ ctr f w front (i + 1) (drop 16 s)
    unfolding ctr
    ctr_next i s h =
        ap₂ (λ (l : List ℕ) (m : ℕ). xors l (stream f (values (counter_block w front) i m))) (sym (take-append-drop 16 s)) more
        ∙ xors_append (take 16 s) (drop 16 s) (f (counter_block w front i)) (after (suc i)) (length-take-le 16 s h ∙ sym (size (counter_block w front i)))
        ∙ ap (λ (k : ℕ). xors (take 16 s) (f (counter_block w front i)) ++ xors (drop 16 s) (after k)) (sym (add-one i))
      where
        after : ℕ → List ℕ
        after k = stream f (values (counter_block w front) k (blocks (length (drop 16 s))))

        more : blocks (length s) ≡ suc (blocks (length (drop 16 s)))
        more = omega (arith, length-drop 16 s)

    -- m blocks, or all that there is, and what comes after them
    pub ctr_append : (m i : ℕ) (a b : List ℕ) → (0 < length b → length a ≡ 16 * m)
        → ctr f w front i (a ++ b) ≡ ctr f w front i a ++ ctr f w front (i + m) b
    ctr_append m i a [] h =
        ap (ctr f w front i) (append-nil a)
        ∙ sym (ap (λ (l : List ℕ). ctr f w front i a ++ l) (ctr_nil f w front (i + m)) ∙ append-nil (ctr f w front i a))
    ctr_append m i a (x ∷ b) h = go m i a (h (omega arith))
      where
        go : (m i : ℕ) (a : List ℕ) → length a ≡ 16 * m → ctr f w front i (a ++ x ∷ b) ≡ ctr f w front i a ++ ctr f w front (i + m) (x ∷ b)
        go zero i [] e = ap₂ (λ (l : List ℕ) (k : ℕ). l ++ ctr f w front k (x ∷ b)) (sym (ctr_nil f w front i)) (sym (add-zero i))
        go zero i (y ∷ a) e = absurd (omega arith)
        go (suc m) i a e =
            ctr_next i (a ++ x ∷ b) (omega (arith, length-append a (x ∷ b)))
            ∙ ap₂ (λ (s t : List ℕ). xors s (f (counter_block w front i)) ++ t) (take-append-le 16 a (x ∷ b) (omega arith))
            (ap (ctr f w front (i + 1)) (drop-append-le 16 a (x ∷ b) (omega arith))
            ∙ go m (i + 1) (drop 16 a) (omega (arith, length-drop 16 a))
            ∙ ap (λ (k : ℕ). ctr f w front (i + 1) (drop 16 a) ++ ctr f w front k (x ∷ b)) later)
            ∙ sym (append_assoc (xors (take 16 a) (f (counter_block w front i))) (ctr f w front (i + 1) (drop 16 a)) (ctr f w front (i + suc m) (x ∷ b)))
            ∙ sym (ap (λ (l : List ℕ). l ++ ctr f w front (i + suc m) (x ∷ b)) (ctr_next i a (omega arith)))
          where
            later : i + 1 + m ≡ i + suc m
            later = omega arith

    -- twice gives the string back
    pub ctr-ctr : (i : ℕ) (s : List ℕ) → ctr f w front i (ctr f w front i s) ≡ s
    unfolding ctr
    ctr-ctr i s =
        ap (λ (n : ℕ). xors (ctr f w front i s) (stream f (values (counter_block w front) i (blocks n)))) (length-ctr i s)
        ∙ xors_cancel s (stream f (values (counter_block w front) i (blocks (length s)))) (enough i s)

-- ---- bytes, where the cipher makes bytes of bytes

module _ (f : List ℕ → List ℕ) (bytes : (x : List ℕ) → Bytes x → Bytes (f x)) (w : ℕ) {front : List ℕ} (front_Bytes : Bytes front) where
  bytes-stream : (i n : ℕ) → Bytes (stream f (values (counter_block w front) i n))
  bytes-stream i zero = bytes_nil
  bytes-stream i (suc n) = bytes_append (bytes (counter_block w front i) (bytes_append front_Bytes (bytes-be w i))) (bytes-stream (suc i) n)

  pub bytes-ctr : (i : ℕ) {s : List ℕ} → Bytes s → Bytes (ctr f w front i s)
  unfolding ctr
  bytes-ctr i {s} hs = bytes-xors hs (bytes-stream i (blocks (length s)))

pub counter_twice : CounterTwice
counter_twice f size w front i s = ctr-ctr f size w front i s

-- ---- the output while it is written: the bytes before place `at` are there, and counter k comes next

pub record Partly (f : List ℕ → List ℕ) (w : ℕ) (front : List ℕ) (i : ℕ) (s before : List ℕ) (at k : ℕ) (out : List ℕ) : Type 0 where
  pub inside : at ≤ length s
  pub room : length out ≡ length before
  pub counted : k ≤ i + 1 + at
  pub written : take at out ++ ctr f w front k (drop at s) ≡ ctr f w front i s
  pub kept : drop at out ≡ drop at before

module _ {f : List ℕ → List ℕ} {w : ℕ} {front : List ℕ} {i : ℕ} {s before : List ℕ} where
  pub partly_start : Partly f w front i s before 0 i before
  partly_start = record { inside = omega arith; room = refl; counted = omega arith; written = refl; kept = refl }

  module _ {at k : ℕ} {out : List ℕ} (p : Partly f w front i s before at k out) (fits : length s ≤ length before) (size : (x : List ℕ) → length (f x) ≡ 16) where
    -- m blocks more, or all that there is, up to place e
    pub partly_turn : (m e : ℕ) {ys : List ℕ} → at ≤ e → k + m ≤ i + 1 + e → e ≤ length s → (e < length s → e ≡ at + 16 * m)
        → ys ≡ ctr f w front k (take (e - at) (drop at s))
        → Partly f w front i s before e (k + m) (take at out ++ (ys ++ drop (e - at) (drop at out)))
    partly_turn m e {ys} more counts le whole is =
        record {
          inside = le;
          room = back-length out ys at e (omega arith) (omega (arith, p.room)) sized ∙ p.room;
          counted = counts;
          written =
              ap (λ (l : List ℕ). l ++ ctr f w front (k + m) (drop e s)) (back-take out ys at e (omega arith) (omega (arith, p.room)) sized)
              ∙ append_assoc (take at out) ys (ctr f w front (k + m) (drop e s))
              ∙ ap (λ (l : List ℕ). take at out ++ l) step
              ∙ p.written;
          kept =
              back-drop out ys at e (omega arith) (omega (arith, p.room)) sized
              ∙ sym (drop_part out at e (omega arith))
              ∙ ap (drop (e - at)) p.kept
              ∙ drop_part before at e (omega arith);
        }
      where
        part : length (take (e - at) (drop at s)) ≡ e - at
        part = part_length s at e le

        sized : length ys ≡ e - at
        sized = ap length is ∙ length-ctr f size w front k (take (e - at) (drop at s)) ∙ part

        rest : drop (e - at) (drop at s) ≡ drop e s
        rest = drop_part s at e (omega arith)

        blocks_more : 0 < length (drop (e - at) (drop at s)) → e - at ≡ 16 * m
        blocks_more h = omega (arith, whole (omega (arith, ap length rest, length-drop e s)))

        step : ys ++ ctr f w front (k + m) (drop e s) ≡ ctr f w front k (drop at s)
        step =
            ap₂ (λ (l r : List ℕ). l ++ ctr f w front (k + m) r) is (sym rest)
            ∙ sym (ctr_append f size w front m k (take (e - at) (drop at s)) (drop (e - at) (drop at s)) (λ h. part ∙ blocks_more h))
            ∙ ap (ctr f w front k) (take-append-drop (e - at) (drop at s))

    long : length (ctr f w front i s) ≡ length s
    long = length-ctr f size w front i s

    -- after the last part
    pub partly_end : length s ≤ at → out ≡ over (ctr f w front i s) before
    partly_end ge =
        sym (take-append-drop at out)
        ∙ ap₂ (λ (l r : List ℕ). l ++ r) (sym nothing ∙ p.written) (p.kept ∙ ap (λ (n : ℕ). drop n before) end)
        ∙ sym (over_fits (ctr f w front i s) before (omega (arith, long)))
      where
        nothing : take at out ++ ctr f w front k (drop at s) ≡ take at out
        nothing =
            ap (λ (l : List ℕ). take at out ++ l) (ap (ctr f w front k) (drop_of_length-le s {i = at} ge) ∙ ctr_nil f w front k) ∙ append-nil (take at out)

        end : at ≡ length (ctr f w front i s)
        end = omega (arith, p.inside, long)

    -- a block more
    pub partly_block : {pad after : List ℕ} → at + 16 ≤ length s → pad ≡ f (counter_block w front k)
        → after ≡ take at out ++ (xors (take 16 (drop at s)) pad ++ drop 16 (drop at out)) → Partly f w front i s before (at + 16) (k + 1) after
    partly_block {pad} {after} more ep is =
        rw (is ∙ ap (λ (n : ℕ). take at out ++ (xors (take 16 (drop at s)) pad ++ drop n (drop at out))) (sym one))
        (partly_turn 1 (at + 16) (omega arith) (omega (arith, p.counted)) more (λ h. refl)
        (ap (xors (take 16 (drop at s))) ep
        ∙ sym (ctr_last f size w front k (take 16 (drop at s)) (omega (arith, length-take 16 (drop at s))))
        ∙ ap (λ (n : ℕ). ctr f w front k (take n (drop at s))) (sym one)))
      where
        one : at + 16 - at ≡ 16
        one = omega arith

  -- and all that is left, as it is lent and comes back
  pub partly_last : {at k : ℕ} {out : List ℕ} → Partly f w front i s before at k out → length s ≤ length before → ((x : List ℕ) → length (f x) ≡ 16)
      → {ys : List ℕ} → ys ≡ ctr f w front k (take (length s - at) (drop at s))
      → take at out ++ (ys ++ drop (length s - at) (drop at out)) ≡ over (ctr f w front i s) before
  partly_last {at} p fits size is =
      partly_end (partly_turn p fits size (length s - at) (length s) p.inside (omega (arith, p.inside, p.counted)) (omega arith) (λ h. omega arith) is) fits size (omega arith)

-- ---- a text in two parts, lent one after the other: m whole blocks or all that there is, which came back as ys, and the rest

module _ (f : List ℕ → List ℕ) (size : (x : List ℕ) → length (f x) ≡ 16) (w : ℕ) (front : List ℕ) (i m n : ℕ) (s out : List ℕ) {ys : List ℕ} (fits : length s ≤ length out)
    (inside : n ≤ length s) (one : m ≤ n + 1) (whole : n < length s → n ≡ 16 * m) (first : ys ≡ ctr f w front i (take n s)) where
  written : Partly f w front i s out n (i + m) (ys ++ drop n out)
  written =
      subst (λ (k : ℕ). Partly f w front i s out n (i + m) (ys ++ drop k out)) (sub-zero n)
      (partly_turn (partly_start {f = f} {w = w} {front = front} {i = i} {s = s} {before = out}) fits size m n (omega arith) (omega arith) inside (λ h. omega (arith, whole h))
      (first ∙ ap (λ (k : ℕ). ctr f w front i (take k s)) (sym (sub-zero n))))

  pub parts-over : {zs : List ℕ} → zs ≡ ctr f w front (i + m) (take (length s - n) (drop n s))
      → take n (ys ++ drop n out) ++ (zs ++ drop (length s - n) (drop n (ys ++ drop n out))) ≡ over (ctr f w front i s) out
  parts-over = partly_last written fits size
