-- Strings written in parts: a part of the output that was lent and came back; what is made of each byte, written byte by byte; parts of zeros; and a sum
-- written byte by byte.
-- Assumes nothing.
use mathlib.Core.Path.{◌≡◌, refl, sym, ap, ap₂, ◌∙◌}
use mathlib.Core.List.{List, [], ◌∷◌, ◌++◌, append_assoc, append-nil, map, map-append}
use Prim.Native.Nat.{ℕ, zero, suc, ◌+◌, ◌-◌, ◌≤◌, ◌<◌}
use native.Mathlib.Nat.{sub-zero, zero-sub, suc-sub-suc, le_of_suc-le-suc, not-suc-le-zero}
use native.Mathlib.Numerals.{add-one}
use native.Mathlib.Omega.{arith}
use lib.Bits.{bit_xor}
use lib.ListN.{length, get_or, set, take, drop, replicate, length-replicate, length-append, length-take, length-drop, drop_of_length-le}
use lib.Seq.{take_all, take_at, take-suc, take-suc-set, drop_at, drop-drop}
use Rattle.octets.specs.Xor.{xors}
use Rattle.octets.specs.Blocks.{fill}
use Rattle.octets.specs.Lent.{over}
use Rattle.octets.proofs.Xor.{length-xors}
use Rattle.octets.proofs.Blocks.{length-fill}
use Rattle.octets.proofs.Lent.{over_fits, over_turn}
use Rattle.octets.proofs.Tests.{rest_all}

-- from a on, and then from e on
pub drop_part : (l : List ℕ) (a e : ℕ) → a ≤ e → drop (e - a) (drop a l) ≡ drop e l
drop_part l a e h = drop-drop (e - a) a l ∙ ap (λ (k : ℕ). drop k l) sum
  where
    sum : a + (e - a) ≡ e
    sum = omega arith

-- the part from a to e
pub part_length : (l : List ℕ) (a e : ℕ) → e ≤ length l → length (take (e - a) (drop a l)) ≡ e - a
part_length l a e h = simp (length-take, length-drop) (omega arith)

-- ---- a part from a to e of `out` that was lent and came back as ys

module _ (out ys : List ℕ) (a e : ℕ) (le : a ≤ e) (fits : e ≤ length out) (size : length ys ≡ e - a) where
  head_size : length (take a out ++ ys) ≡ e
  head_size = simp (length-append, length-take) (omega arith)

  pub back-take : take e (take a out ++ (ys ++ drop (e - a) (drop a out))) ≡ take a out ++ ys
  back-take = rw (← append_assoc) (take_at (take a out ++ ys) (drop (e - a) (drop a out)) e head_size)

  pub back-drop : drop e (take a out ++ (ys ++ drop (e - a) (drop a out))) ≡ drop e out
  back-drop =
      rw (← append_assoc) (drop_at (take a out ++ ys) (drop (e - a) (drop a out)) e head_size)
      ∙ drop_part out a e le

  pub back-length : length (take a out ++ (ys ++ drop (e - a) (drop a out))) ≡ length out
  back-length = simp (length-append, length-take, length-drop) (omega arith)

-- a block over the front of what is lent from place a on
pub block-put : (out b : List ℕ) (a : ℕ) {ys : List ℕ} → length b ≡ 16 → a + 16 ≤ length out → ys ≡ over b (take (length out - a) (drop a out))
    → take a out ++ (ys ++ drop (length out - a) (drop a out)) ≡ take a out ++ (b ++ drop 16 (drop a out))
block-put out b a {ys} size fits e =
    ap (λ (l : List ℕ). take a out ++ l)
    (ap₂ (λ (x y : List ℕ). x ++ y) (e ∙ ap (over b) (rest_all out a) ∙ over_fits b (drop a out) (omega (arith, length-drop a out)))
    (drop_of_length-le (drop a out) {i = length out - a} (omega (arith, length-drop a out)))
    ∙ append-nil (b ++ drop (length b) (drop a out))
    ∙ ap (λ (n : ℕ). b ++ drop n (drop a out)) size)

-- ---- what f makes of each byte of b, written byte by byte: the next one

pub map_turn : (f : ℕ → ℕ) (b r : List ℕ) (i : ℕ) → i < length b → i < length r → take i r ≡ map f (take i b)
    → take (i + 1) (set r i (f (get_or b i 0))) ≡ map f (take (i + 1) b)
map_turn f b r i hb hr done =
    rw (add-one i)
    (take-suc-set r i (f (get_or b i 0)) hr ∙ ap (λ (l : List ℕ). l ++ f (get_or b i 0) ∷ []) done
    ∙ sym (ap (map f) (take-suc b i 0 hb) ∙ map-append f (take i b) (get_or b i 0 ∷ [])))

-- ---- parts of zeros, and a string over them

drop-zeros : (n k : ℕ) → drop {A = ℕ} n (replicate k 0) ≡ replicate (k - n) 0
drop-zeros zero k = rw (sub-zero k)
drop-zeros (suc n) zero = rw (zero-sub (suc n))
drop-zeros (suc n) (suc k) = rw (suc-sub-suc k n) (drop-zeros n k)

take-zeros : (n k : ℕ) → n ≤ k → take {A = ℕ} n (replicate k 0) ≡ replicate n 0
take-zeros zero k h = refl
take-zeros (suc n) zero h = absurd (not-suc-le-zero h)
take-zeros (suc n) (suc k) h = ap (λ (l : List ℕ). 0 ∷ l) (take-zeros n k (le_of_suc-le-suc h))

pub part-zeros : (k at n : ℕ) → at + n ≤ k → take {A = ℕ} n (drop at (replicate k 0)) ≡ replicate n 0
part-zeros k at n h = ap (take n) (drop-zeros at k) ∙ take-zeros n (k - at) (omega arith)

pub over_filled : (s : List ℕ) → length s ≤ 16 → over s (replicate 16 0) ≡ fill s
over_filled s h = over_fits s (replicate 16 0) h ∙ ap (λ (l : List ℕ). s ++ l) (drop-zeros (length s) 16)

-- ---- a sum written byte by byte over zeros: the next byte, and after the last; and over an output that is as long

pub get_d-xors : (a b : List ℕ) (j : ℕ) → j < length a → j < length b → get_or (xors a b) j 0 ≡ bit_xor (get_or a j 0) (get_or b j 0)
get_d-xors [] b j h k = absurd (not-suc-le-zero h)
get_d-xors (x ∷ a) [] j h k = absurd (not-suc-le-zero k)
get_d-xors (x ∷ a) (y ∷ b) zero h k = refl
get_d-xors (x ∷ a) (y ∷ b) (suc j) h k = get_d-xors a b j (le_of_suc-le-suc h) (le_of_suc-le-suc k)

module _ (a b : List ℕ) (n : ℕ) (first : length a ≡ n) (second : length b ≡ n) where
  pub sum_turn : {x : List ℕ} (j : ℕ) → j < n → x ≡ take j (xors a b) ++ drop j (replicate n 0)
      → set x j (bit_xor (get_or a j 0) (get_or b j 0)) ≡ take (j + 1) (xors a b) ++ drop (j + 1) (replicate n 0)
  sum_turn j h e =
      ap₂ (λ (l : List ℕ) (v : ℕ). set l j v) e (sym (get_d-xors a b j (omega arith) (omega arith)))
      ∙ over_turn (xors a b) (replicate n 0) j (omega (arith, length-xors a b (omega arith))) (omega (arith, length-replicate {A = ℕ} n 0))

  pub sum_end : {x : List ℕ} (j : ℕ) → n ≤ j → x ≡ take j (xors a b) ++ drop j (replicate n 0) → x ≡ xors a b
  sum_end j h e =
      e
      ∙ ap₂ (λ (l m : List ℕ). l ++ m) (take_all j (xors a b) (omega (arith, length-xors a b (omega arith)))) (drop_of_length-le (replicate n 0) {i = j} (omega (arith, length-replicate {A = ℕ} n 0)))
      ∙ append-nil (xors a b)

module _ (s pad : List ℕ) (size : length pad ≡ 16) (short : length s ≤ 16) where
  pub summed-put : (out : List ℕ) {x after : List ℕ} → length out ≡ length s → x ≡ fill (xors s pad) → after ≡ over x out → after ≡ xors s pad
  summed-put out {x} room ex ea =
      ea
      ∙ ap₂ (λ (a b : List ℕ). a ++ b) (ap (take (length out)) ex ∙ take_at (xors s pad) (replicate (16 - length (xors s pad)) 0) (length out) (long ∙ sym room))
      (drop_of_length-le out {i = length x} (omega (arith, ap length ex, length-fill (xors s pad) (omega (arith, long)))))
      ∙ append-nil (xors s pad)
    where
      long : length (xors s pad) ≡ length s
      long = length-xors s pad (omega arith)
