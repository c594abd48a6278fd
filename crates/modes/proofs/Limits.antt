-- The counter block as the code writes it, what blocks and counters come next, and the tests of lengths and of the counter field.
-- Assumes nothing.
use mathlib.Core.Path.{◌≡◌, ap, ap₂, ◌∙◌}
use mathlib.Core.Bool.{true, false}
use mathlib.Core.List.{List, ◌++◌, append-nil}
use Prim.Native.Nat.{ℕ, zero, suc, ◌+◌, ◌-◌, ◌/◌, ◌%◌, ◌^◌, ◌≤◌, ◌<◌, min}
use native.Mathlib.Omega.{arith}
use borrow.Author.Tests.{le-leb}
use lib.Dec.{lit<}
use lib.ListN.{length, take, drop, length-drop, drop_of_length-le}
use Rattle.std.proofs.Math.Nat.{pow-le-pow_right}
use lib.Seq.{take_all}
use Rattle.octets.specs.BigEndian.{be}
use Rattle.octets.proofs.BigEndian.{length-be}
use Rattle.octets.specs.Blocks.{blocks}
use Rattle.octets.specs.Lent.{over}
use Rattle.modes.specs.Counter.{counter_block, ctr, counter_fits, counter_number, counter_answer}
use Rattle.modes.specs.Calls.{text_max}

-- ---- the counter block: the last w bytes of a number in eight, over the last w of a block

be_tail : (k w m n : ℕ) → m ≡ k + w → drop k (be m n) ≡ be w n
be_tail zero w m n e = ap (λ (m : ℕ). be m n) (omega (arith, e))
be_tail (suc k) w zero n e = absurd (omega arith)
be_tail (suc k) w (suc m) n e = be_tail k w m n (omega arith)

module _ (w : ℕ) (base : List ℕ) (i : ℕ) (short : w < 8) (size : length base ≡ 16) where
  pub field_stored : {ys : List ℕ} → ys ≡ take (8 - (8 - w)) (drop (8 - w) (be 8 i))
      → take (16 - w) base ++ (ys ++ drop (16 - (16 - w)) (drop (16 - w) base)) ≡ counter_block w (take (16 - w) base) i
  field_stored {ys} e =
      ap (λ (l : List ℕ). take (16 - w) base ++ l)
      (ap₂ (λ (a b : List ℕ). a ++ b) (e ∙ ap (take (8 - (8 - w))) low ∙ take_all (8 - (8 - w)) (be w i) (omega (arith, length-be w i)))
      (drop_of_length-le (drop (16 - w) base) {i = 16 - (16 - w)} (omega (arith, length-drop (16 - w) base)))
      ∙ append-nil (be w i))
    where
      low : drop (8 - w) (be 8 i) ≡ be w i
      low = be_tail (8 - w) w 8 i (omega arith)

-- ---- blocks that are left from place `at` on, and pairs of counters

module _ (at n : ℕ) where
  pub pair_within : 32 ≤ n - at → (at + 16 ≤ n) × (at + 16 + 16 ≤ n)
  pair_within h = (omega arith, omega arith)

module _ (k : ℕ) (even : k % 2 ≡ 0) where
  pub pair_even : (k + 1 + 1) % 2 ≡ 0
  pair_even = omega arith

  pub pair_same : (k + 1) / 256 ≡ k / 256
  pair_same = omega arith

-- a first part of b bytes, or all n that there are
module _ (b n : ℕ) {h : ℕ} (is : h ≡ min n b) where
  pub least_inside : h ≤ n
  least_inside = omega arith

  pub least-whole : h < n → h ≡ b
  least-whole less = omega arith

-- a block first where the counter i is odd
pub odd-one : (i h : ℕ) → i % 2 ≤ h + 1
odd-one i h = omega arith

-- ---- the limit of a field of less than eight bytes is a number of 64 bits

pub limit_fits : (w : ℕ) → w < 8 → 256 ^ w < 18446744073709551616
limit_fits w h = let le : 256 ^ w ≤ 256 ^ 7 = pow-le-pow_right {n = 256} (lit< tt) {i = w} {j = 7} (omega arith) in omega arith

-- ---- counter_fits: what fits, and the answer then

-- from the first counters on, 3 bytes as in CCM and 4 as in GCM: every text that document 01 permits
pub counter_fits_three : (i n : ℕ) → i ≤ 2 → n ≤ text_max → counter_fits 3 i n ≡ true
counter_fits_three i n first h = le-leb (i + blocks n) (256 ^ 3) (omega arith)

pub counter_fits_four : (i n : ℕ) → i ≤ 2 → n ≤ text_max → counter_fits 4 i n ≡ true
counter_fits_four i n first h = le-leb (i + blocks n) (256 ^ 4) (omega arith)

module _ (f : List ℕ → List ℕ) (w : ℕ) (front : List ℕ) (i : ℕ) (s out : List ℕ) where
  pub counter_answer_fits : counter_fits w i (length s) ≡ true → counter_answer f w front i s out ≡ (0, over (ctr f w front i s) out)
  unfolding counter_answer counter_number
  counter_answer_fits e = rw e

  pub counter_answer_past : counter_fits w i (length s) ≡ false → counter_answer f w front i s out ≡ (11, out)
  unfolding counter_answer counter_number
  counter_answer_past e = rw e
