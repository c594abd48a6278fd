-- Tests joined by && and || and along a list: what the outcome says of each; and the length of a part.
-- Assumes nothing.
use mathlib.Core.Path.{◌≡◌, refl, sym, ap, ◌∙◌}
use mathlib.Core.Bool.{Bool, true, false, ◌&&◌, ◌||◌, false≢true}
use mathlib.Core.List.{List, [], ◌∷◌, ◌++◌, append_assoc}
use Prim.Native.Nat.{ℕ, zero, suc, ◌+◌, ◌-◌, ◌≤◌, ◌<◌}
use native.Mathlib.Nat.{le_of_suc-le-suc, not-suc-le-zero}
use native.Mathlib.Numerals.{add-one}
use native.Mathlib.Omega.{arith}
use lib.ListN.{length, get_or, take, drop, drop_of_length-le, take-append-drop, length-append, length-take, length-drop}
use lib.Seq.{drop-cons, take_all, take_at, take-nil, take-take, drop_at, drop-drop}
use Rattle.std.specs.Bool.{MatchBool}
use Rattle.std.specs.List.{AllWithin, HoldsAt}
use Rattle.octets.specs.Tests.{also, every, all, part_of}

pub and_left : (a b : Bool) → (a && b) ≡ true → a ≡ true
and_left true b e = refl
and_left false b e = e

pub and_right : (a b : Bool) → (a && b) ≡ true → b ≡ true
and_right true b e = e
and_right false b e = absurd (false≢true e)

pub or_left : (a b : Bool) → (a || b) ≡ false → a ≡ false
or_left true b e = e
or_left false b e = refl

pub or_right : (a b : Bool) → (a || b) ≡ false → b ≡ false
or_right true b e = absurd (false≢true (sym e))
or_right false b e = e

-- ---- all

-- along a list: what is left at i decides, by its first element and what is left at i + 1
module _ {A : Type 0} (p : A → Bool) (s : List A) (i : ℕ) where
  pub all-stop : (d : A) → i < length s → p (get_or s i d) ≡ false → all p (drop i s) ≡ false
  unfolding all
  all-stop d h e = rw (drop-cons s i d h, e)

  pub all_turn : (d : A) → i < length s → p (get_or s i d) ≡ true → all p (drop i s) ≡ all p (drop (i + 1) s)
  unfolding all
  all_turn d h e = rw (drop-cons s i d h, e, add-one)

  pub all_end : length s ≤ i → all p (drop i s) ≡ true
  unfolding all
  all_end h = rw (drop_of_length-le s h)

pub all_at : {A : Type 0} (p : A → Bool) (s : List A) (i : ℕ) (d : A) → all p s ≡ true → i < length s → p (get_or s i d) ≡ true
unfolding all
all_at p [] i d e h = absurd (not-suc-le-zero h)
all_at p (x ∷ s) zero d e h = and_left (p x) (all p s) e
all_at p (x ∷ s) (suc i) d e h = all_at p s i d (and_right (p x) (all p s) e) (le_of_suc-le-suc h)

all_of : {A : Type 0} (p : A → Bool) (s : List A) → AllWithin (λ x. p x ≡ true) s 0 (length s) → all p s ≡ true
unfolding all
all_of p [] h = refl
all_of p (x ∷ s) h = rw (h 0 x (omega arith) (omega arith)) (all_of p s (λ k d lo hi. h (suc k) d (omega arith) (omega arith)))

all-not : {A : Type 0} (p : A → Bool) (s : List A) → (k : ℕ) × (k < length s) × HoldsAt (λ x. p x ≡ false) s k → all p s ≡ false
all-not p [] h = absurd (not-suc-le-zero h.1)
all-not p (x ∷ s) h = go (all p (x ∷ s)) refl
  where
    go : (t : Bool) → all p (x ∷ s) ≡ t → all p (x ∷ s) ≡ false
    go true e = absurd (false≢true (sym (h.2 x) ∙ all_at p (x ∷ s) h.0 x e h.1))
    go false e = e

-- what `all` of an iterator answers, by a closure that tests p
pub all-answer : {A : Type 0} (p : A → Bool) (s : List A) (r : Bool)
    → MatchBool r (AllWithin (λ x. p x ≡ true) s 0 (length s)) ((k : ℕ) × (k < length s) × HoldsAt (λ x. p x ≡ false) s k) → r ≡ all p s
all-answer p s true h = sym (all_of p s h)
all-answer p s false h = sym (all-not p s h)

-- ---- every

also_first : (ts : List Bool) (t : Bool) → also t ts ≡ true → t ≡ true
also_first [] t e = e
also_first (u ∷ us) t e = and_left t u (also_first us (t && u) e)

also_at : (ts : List Bool) (t : Bool) (i : ℕ) → also t ts ≡ true → get_or ts i true ≡ true
also_at [] t i e = refl
also_at (u ∷ us) t zero e = and_right t u (also_first us (t && u) e)
also_at (u ∷ us) t (suc i) e = also_at us (t && u) i e

pub every_at : (ts : List Bool) (i : ℕ) → every ts ≡ true → get_or ts i true ≡ true
every_at ts i e = also_at ts true i e

pub every-not : (ts : List Bool) (i : ℕ) → get_or ts i true ≡ false → every ts ≡ false
every-not ts i e = go (every ts) refl
  where
    go : (t : Bool) → every ts ≡ t → every ts ≡ false
    go true h = absurd (false≢true (sym e ∙ every_at ts i h))
    go false h = h

-- ---- a part

pub length_part : (s : List ℕ) (i n : ℕ) → i + n ≤ length s → length (part_of s i n) ≡ n
length_part s i n h = simp (length-take, length-drop) (omega arith)

-- a part is no longer than was asked for
pub part_short : (s : List ℕ) (i n : ℕ) → length (part_of s i n) ≤ n
part_short s i n = simp length-take (omega arith)

-- what is left from place `at`, as it is lent
pub rest_all : (s : List ℕ) (at : ℕ) → take (length s - at) (drop at s) ≡ drop at s
rest_all s at = take_all (length s - at) (drop at s) (omega (arith, length-drop at s))

-- a string from a place on: its next n elements, and what comes after them
pub part_next : (s : List ℕ) (i n : ℕ) → part_of s i n ++ drop (i + n) s ≡ drop i s
part_next s i n = ap (λ (l : List ℕ). part_of s i n ++ l) (sym (drop-drop n i s)) ∙ take-append-drop n (drop i s)

pub part_last : (s : List ℕ) (i n : ℕ) → length s ≡ i + n → part_of s i n ≡ drop i s
part_last s i n e = take_all n (drop i s) (omega (arith, length-drop i s))

-- a part without its first k elements, and a part of a part
pub drop_part : (s : List ℕ) (i n k : ℕ) → drop k (part_of s i n) ≡ part_of s (i + k) (n - k)
drop_part s i n k = go k n (drop i s) ∙ ap (take (n - k)) (drop-drop k i s)
  where
    go : (k n : ℕ) (l : List ℕ) → drop k (take n l) ≡ take (n - k) (drop k l)
    go zero n l = let all : n ≡ n - 0 = omega arith in ap (λ (m : ℕ). take m l) all
    go (suc k) zero l = let none : 0 ≡ 0 - suc k = omega arith in ap (λ (m : ℕ). take m (drop (suc k) l)) none
    go (suc k) (suc n) [] = sym (take-nil (suc n - suc k))
    go (suc k) (suc n) (x ∷ l) = let left : n - k ≡ suc n - suc k = omega arith in go k n l ∙ ap (λ (m : ℕ). take m (drop k l)) left

pub part_part : (s : List ℕ) (i n j m : ℕ) → j + m ≤ n → part_of (part_of s i n) j m ≡ part_of s (i + j) m
part_part s i n j m within = ap (take m) (drop_part s i n j) ∙ take-take m (n - j) (drop (i + j) s) (omega (arith, within))

-- four parts end to end
pub parts_whole : (s : List ℕ) (a b c d : ℕ) → length s ≡ a + b + c + d
    → part_of s 0 a ++ (part_of s a b ++ (part_of s (a + b) c ++ part_of s (a + b + c) d)) ≡ s
parts_whole s a b c d e =
    ap (λ (l : List ℕ). part_of s 0 a ++ (part_of s a b ++ (part_of s (a + b) c ++ l))) (part_last s (a + b + c) d e)
    ∙ ap (λ (l : List ℕ). part_of s 0 a ++ (part_of s a b ++ l)) (part_next s (a + b) c)
    ∙ ap (λ (l : List ℕ). part_of s 0 a ++ l) (part_next s a b)
    ∙ take-append-drop a s

-- three strings end to end
pub part_at : (a b c : List ℕ) (i n : ℕ) → length a ≡ i → length b ≡ n → part_of (a ++ (b ++ c)) i n ≡ b
part_at a b c i n ea eb = ap (take n) (drop_at a (b ++ c) i ea) ∙ take_at b c n eb

pub part_after : (a b c : List ℕ) (i n : ℕ) → length a + length b ≡ i → length c ≡ n → part_of (a ++ (b ++ c)) i n ≡ c
part_after a b c i n eab ec =
    ap (λ (l : List ℕ). part_of l i n) (sym (append_assoc a b c))
    ∙ ap (take n) (drop_at (a ++ b) c i (length-append a b ∙ eab))
    ∙ take_all n c (omega arith)

-- the rest from a place, as a part that may be as long as the whole
pub part-rest : (s : List ℕ) (i : ℕ) → part_of s i (length s) ≡ drop i s
part-rest s i = take_all (length s) (drop i s) (simp length-drop (omega arith))
