-- Decimal digits: the last digit and those before it, how many there are, and the number that they are read as.
-- Assumes nothing.
use mathlib.Core.Path.{◌≡◌, refl, sym, ap, ◌∙◌}
use mathlib.Core.Bool.{Bool, true, false}
use mathlib.Core.List.{List, [], ◌∷◌, ◌++◌, append_assoc, append-nil}
use Prim.Native.Nat.{ℕ, zero, suc, ◌+◌, ◌-◌, ◌*◌, ◌/◌, ◌%◌, ◌^◌, ◌≤◌, ◌<◌}
use Prim.Native.Char.{code}
use native.Mathlib.Nat.{pow-suc, div-lt_iff_lt-mul, lt_of_lt_of_le}
use native.Mathlib.Omega.{arith}
use lib.Dec.{ltb, lit<, lit≤}
use lib.ListN.{length, get_or, set, take, drop, replicate, length-append, length-drop, length-set, get_or-append}
use lib.Seq.{take_all, length-take-le, set_split, drop_at}
use borrow.Author.Tests.{ltb-true, ltb-false, lt-ltb, le-ltb, le-leb}
use Rattle.octets.specs.Tests.{all}
use Rattle.octets.proofs.Tests.{and_left, and_right}
use Rattle.wording.specs.Decimal.{is_decimal_digit, decimal_digit, digits_within, decimal, value_after, value_of}

-- ---- the divisions allowed do not matter, where there are enough

within_small : (k n : ℕ) → n < 10 → digits_within k n ≡ decimal_digit n ∷ []
unfolding digits_within
within_small zero n h = refl
within_small (suc k) n h = rw (lt-ltb n 10 h)

within_more : (k n : ℕ) → 10 ≤ n → digits_within (suc k) n ≡ digits_within k (n / 10) ++ decimal_digit (n % 10) ∷ []
unfolding digits_within
within_more k n h = rw (le-ltb n 10 h)

-- what holds of one digit, and of a string with a digit more where it holds of the string, holds of the digits of each number
module _ (P : ℕ → List ℕ → Type 0) (small : (n : ℕ) → n < 10 → P n (decimal_digit n ∷ []))
    (more : (n : ℕ) (s : List ℕ) → 10 ≤ n → P (n / 10) s → P n (s ++ decimal_digit (n % 10) ∷ [])) where
  within_by : (k n : ℕ) → n ≤ k → P n (digits_within k n)
  within_by zero n h = rw (within_small zero n (omega arith)) (small n (omega arith))
  within_by (suc k) n h = go (ltb n 10) refl (within_by k (n / 10) (omega arith))
    where
      go : (t : Bool) → ltb n 10 ≡ t → P (n / 10) (digits_within k (n / 10)) → P n (digits_within (suc k) n)
      go true e before = rw (within_small (suc k) n (ltb-true n 10 e)) (small n (ltb-true n 10 e))
      go false e before = rw (within_more k n (ltb-false n 10 e)) (more n (digits_within k (n / 10)) (ltb-false n 10 e) before)

  pub decimal-by : (n : ℕ) → P n (decimal n)
  unfolding decimal
  decimal-by n = within_by n n (omega arith)

-- ---- the last digit, and those before it

decimal_within : (n j : ℕ) → n ≤ j → decimal n ≡ digits_within j n
decimal_within = decimal-by (λ n s. (j : ℕ) → n ≤ j → s ≡ digits_within j n) (λ n h j e. sym (within_small j n h)) more
  where
    more : (n : ℕ) (s : List ℕ) → 10 ≤ n → ((j : ℕ) → n / 10 ≤ j → s ≡ digits_within j (n / 10))
        → (j : ℕ) → n ≤ j → s ++ decimal_digit (n % 10) ∷ [] ≡ digits_within j n
    more n s h same zero e = absurd (omega arith)
    more n s h same (suc j) e = ap (λ (l : List ℕ). l ++ decimal_digit (n % 10) ∷ []) (same j (omega arith)) ∙ sym (within_more j n h)

decimal_small : (n : ℕ) → n < 10 → decimal n ≡ decimal_digit n ∷ []
unfolding decimal
decimal_small n h = within_small n n h

decimal_more : (n : ℕ) → 10 ≤ n → decimal n ≡ decimal (n / 10) ++ decimal_digit (n % 10) ∷ []
decimal_more n h =
    decimal_within n (suc n) (omega arith)
    ∙ within_more n n h
    ∙ ap (λ (s : List ℕ). s ++ decimal_digit (n % 10) ∷ []) (sym (decimal_within (n / 10) n (omega arith)))

-- ---- how many there are: at most k + 1 below 10 ^ (k + 1)

length-decimal : (n k : ℕ) → n < 10 ^ suc k → length (decimal n) ≤ suc k
length-decimal = decimal-by (λ n s. (k : ℕ) → n < 10 ^ suc k → length s ≤ suc k) (λ n h k e. omega arith) more
  where
    more : (n : ℕ) (s : List ℕ) → 10 ≤ n → ((k : ℕ) → n / 10 < 10 ^ suc k → length s ≤ suc k)
        → (k : ℕ) → n < 10 ^ suc k → length (s ++ decimal_digit (n % 10) ∷ []) ≤ suc k
    more n s h shorter zero e = absurd (omega arith)
    more n s h shorter (suc k) e =
        simp length-append (omega (arith, shorter k ((div-lt_iff_lt-mul (lit< tt)).1 (rw pow-suc at e))))

pub length_decimal64 : (n : ℕ) → n < 2 ^ 64 → length (decimal n) ≤ 20
length_decimal64 n h = length-decimal n 19 (lt_of_lt_of_le h (lit≤ tt))

-- ---- the number that digits are read as

value_last : (v : ℕ) (s : List ℕ) (d : ℕ) → value_after v (s ++ d ∷ []) ≡ value_after v s * 10 + (d - code "0")
value_last v [] d = refl
value_last v (x ∷ s) d = value_last (v * 10 + (x - code "0")) s d

pub decimal_value : (n : ℕ) → value_of (decimal n) ≡ n
decimal_value = decimal-by (λ n s. value_of s ≡ n) (λ n h. omega arith) (λ n s h e. rw (value_last 0 s (decimal_digit (n % 10)), e) (omega arith))

-- ---- each is a digit, and the first is a zero for 0 alone

all_last : (p : ℕ → Bool) (s : List ℕ) (d : ℕ) → all p s ≡ true → p d ≡ true → all p (s ++ d ∷ []) ≡ true
unfolding all
all_last p [] d e f = rw f
all_last p (x ∷ s) d e f = rw (and_left (p x) (all p s) e) (all_last p s d (and_right (p x) (all p s) e) f)

digit_is : (d : ℕ) → d < 10 → is_decimal_digit (decimal_digit d) ≡ true
digit_is d h = rw (le-leb (code "0") (decimal_digit d) (omega arith), le-leb (decimal_digit d) (code "9") (omega arith))

pub decimal_are : (n : ℕ) → all is_decimal_digit (decimal n) ≡ true
unfolding all
decimal_are =
    decimal-by
    (λ n s. all is_decimal_digit s ≡ true)
    (λ n h. all_last is_decimal_digit [] (decimal_digit n) refl (digit_is n h))
    (λ n s h e. all_last is_decimal_digit s (decimal_digit (n % 10)) e (digit_is (n % 10) (omega arith)))

pub decimal_first : (n : ℕ) → (0 < length (decimal n)) × (get_or (decimal n) 0 0 ≡ decimal_digit 0 → n ≡ 0)
decimal_first =
    decimal-by (λ n s. (0 < length s) × (get_or s 0 0 ≡ decimal_digit 0 → n ≡ 0)) (λ n h. (lit< tt, λ e. omega arith)) (λ n s h f. (
      simp length-append (omega arith),
      λ e. let none : n / 10 ≡ 0 = f.1 (sym (get_or-append s (decimal_digit (n % 10) ∷ []) 0 0 f.0) ∙ e) in omega arith,
    ))

-- ---- found from the last to the first: the digits of n are those of what is left, and those that stand from a place on

pub record Found (n rest first : ℕ) (digits : List ℕ) : Type 0 where
  pub size : length digits ≡ 20
  pub within : first ≤ 20
  pub are : decimal n ≡ decimal rest ++ drop first digits

pub found_none : (n : ℕ) → Found n n 20 (replicate 20 0)
found_none n = record { size = refl; within = lit≤ tt; are = sym (append-nil (decimal n)) }

module _ {n rest first : ℕ} {digits : List ℕ} (small : n < 2 ^ 64) (f : Found n rest first digits) where
  -- 20 digits are enough, so that a place is left
  pub found_left : 0 < first
  found_left =
      omega (arith, length_decimal64 n small, (decimal_first rest).0, ap length f.are ∙ length-append (decimal rest) (drop first digits), length-drop first digits)

  one_more : (v : ℕ) → drop (first - 1) (set digits (first - 1) v) ≡ v ∷ drop first digits
  one_more v =
      let next : suc (first - 1) ≡ first = omega (arith, found_left) in
      let before : length (take (first - 1) digits) ≡ first - 1 = length-take-le (first - 1) digits (omega arith) in
      ap (drop (first - 1)) (set_split digits (first - 1) v (omega (arith, found_left)))
      ∙ drop_at (take (first - 1) digits) (v ∷ drop (suc (first - 1)) digits) (first - 1) before
      ∙ ap (λ (k : ℕ). v ∷ drop k digits) next

  pub found_turn : 10 ≤ rest → Found n (rest / 10) (first - 1) (set digits (first - 1) (decimal_digit (rest % 10)))
  found_turn h = record {
    size = simp length-set f.size;
    within = omega arith;
    are =
        f.are
        ∙ ap (λ (s : List ℕ). s ++ drop first digits) (decimal_more rest h)
        ∙ append_assoc (decimal (rest / 10)) (decimal_digit (rest % 10) ∷ []) (drop first digits)
        ∙ ap (λ (s : List ℕ). decimal (rest / 10) ++ s) (sym (one_more (decimal_digit (rest % 10))));
  }

  -- the last of them, and the string from its place on
  pub found_end : rest < 10 → take (20 - (first - 1)) (drop (first - 1) (set digits (first - 1) (decimal_digit rest))) ≡ decimal n
  found_end h =
      take_all (20 - (first - 1)) (drop (first - 1) (set digits (first - 1) (decimal_digit rest))) (simp (length-drop, length-set) (omega arith))
      ∙ one_more (decimal_digit rest)
      ∙ sym (f.are ∙ ap (λ (s : List ℕ). s ++ drop first digits) (decimal_small rest h))
