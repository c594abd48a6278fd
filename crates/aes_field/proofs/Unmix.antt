-- The matrices of MixColumns and InvMixColumns undo one another: the product is linear, and one test over the bits of a byte in each of four
-- places says what the two matrices together make of a byte there. antt computes the tests.
-- Assumes nothing.
use mathlib.Core.Path.{◌≡◌, refl, sym, ap, ap₂, ◌∙◌}
use mathlib.Core.Bool.{Bool, true, false}
use mathlib.Core.List.{◌∷◌}
use Prim.Native.Nat.{ℕ, suc, ◌+◌, ◌-◌, ◌*◌, ◌/◌, ◌%◌, ◌^◌, ◌<◌}
use native.Mathlib.Omega.{arith}
use lib.Dec.{T, eqb, eqb-suc-zero, lit<}
use lib.Bits.{bit_xor, xor_comm, xor_zero_r}
use lib.ListN.{get_or}
use Rattle.octets.specs.Lent.{when}
use Rattle.octets.proofs.Xor.{xor_assoc}
use Rattle.aes_field.specs.Field.{xtime, times}
use Rattle.aes_field.specs.Words.{Column, column_of, sum4, times_matrix, mix_row, inv_mix_row}
use Rattle.aes_field.proofs.Computed.{agree, agree_at}
use Rattle.aes_field.proofs.Linear.{times_byte, times_linear, times-sum4, sum4_add, sum4_swap}
use Rattle.aes_field.proofs.Additive.{Adds, bytes_agree}

abbrev entry : Column → ℕ → ℕ
entry k i = get_or k (i % 4) 0

-- what reaches row 0, through the matrix k and then l, of a byte x in row d by way of row m
abbrev part : Column → Column → ℕ → ℕ → ℕ → ℕ
part k l d x m = times (times x (entry k (d + 4 - m))) (entry l m)

abbrev reaches : Column → Column → ℕ → ℕ → ℕ
reaches k l d x = sum4 (part k l d x)

-- a sum of four, from another place on
turn : (a b c d : ℕ) → bit_xor (bit_xor (bit_xor d a) b) c ≡ bit_xor (bit_xor (bit_xor a b) c) d
turn a b c d = ap (λ (x : ℕ). bit_xor x c) (xor_assoc d a b) ∙ xor_assoc d (bit_xor a b) c ∙ xor_comm d (bit_xor (bit_xor a b) c)

from_3 : (g : ℕ → ℕ) → bit_xor (bit_xor (bit_xor (g 3) (g 0)) (g 1)) (g 2) ≡ sum4 g
from_3 g = turn (g 0) (g 1) (g 2) (g 3)

from_2 : (g : ℕ → ℕ) → bit_xor (bit_xor (bit_xor (g 2) (g 3)) (g 0)) (g 1) ≡ sum4 g
from_2 g = turn (g 3) (g 0) (g 1) (g 2) ∙ from_3 g

from_1 : (g : ℕ → ℕ) → bit_xor (bit_xor (bit_xor (g 1) (g 2)) (g 3)) (g 0) ≡ sum4 g
from_1 g = turn (g 2) (g 3) (g 0) (g 1) ∙ from_2 g

pub add4 : {a b c d a' b' c' d' : ℕ} → a ≡ a' → b ≡ b' → c ≡ c' → d ≡ d' → bit_xor (bit_xor (bit_xor a b) c) d ≡ bit_xor (bit_xor (bit_xor a' b') c') d'
add4 p q r s = ap₂ bit_xor (ap₂ bit_xor (ap₂ bit_xor p q) r) s

-- of a byte in row d: itself where d is 0, and else nothing
abbrev own : ℕ → ℕ → ℕ
own d x = when (eqb d 0) x 0

-- only a byte in row 0 reaches row 0
module _ (k l : Column) (only : (d : ℕ) → d < 4 → (x : ℕ) → x < 256 → reaches k l d x ≡ own d x)
    (f : ℕ → ℕ) (bytes : (i : ℕ) → f i < 256) where
  itself : (i : ℕ) → reaches k l 0 (f i) ≡ f i
  itself i = only 0 (lit< tt) (f i) (bytes i)

  nothing : (d i : ℕ) → d < 3 → reaches k l (suc d) (f i) ≡ 0
  nothing d i h = only (suc d) (omega arith) (f i) (bytes i) ∙ ap (λ (t : Bool). when t (f i) 0) (eqb-suc-zero d)

  -- what reaches row r from row i
  cell : ℕ → ℕ → ℕ
  cell r i = sum4 (λ j. times (times (f i) (entry k (i + 4 - j))) (entry l (j + 4 - r)))

  row : (r : ℕ) → sum4 (λ j. times (sum4 (λ i. times (f i) (entry k (i + 4 - j)))) (entry l (j + 4 - r))) ≡ sum4 (cell r)
  unfolding cell
  row r =
      let linear : (j : ℕ) → times (sum4 (λ i. times (f i) (entry k (i + 4 - j)))) (entry l (j + 4 - r)) ≡ sum4 (λ i. times (times (f i) (entry k (i + 4 - j))) (entry l (j + 4 - r))) =
      λ j. times-sum4 (λ i. times (f i) (entry k (i + 4 - j))) (entry l (j + 4 - r)) (λ i. times_byte (entry k (i + 4 - j)) (bytes i)) in
      add4 (linear 0) (linear 1) (linear 2) (linear 3)
      ∙ sum4_swap (λ j i. times (times (f i) (entry k (i + 4 - j))) (entry l (j + 4 - r)))

  row_0 : sum4 (cell 0) ≡ f 0
  unfolding cell
  row_0 =
      add4 (itself 0) (nothing 0 1 (lit< tt))
      (nothing 1 2 (lit< tt)) (nothing 2 3 (lit< tt))
      ∙ simp xor_zero_r

  row_1 : sum4 (cell 1) ≡ f 1
  unfolding cell
  row_1 =
      add4 (from_3 (part k l 3 (f 0)) ∙ nothing 2 0 (lit< tt)) (from_3 (part k l 0 (f 1)) ∙ itself 1)
      (from_3 (part k l 1 (f 2)) ∙ nothing 0 2 (lit< tt)) (from_3 (part k l 2 (f 3)) ∙ nothing 1 3 (lit< tt))
      ∙ simp xor_zero_r

  row_2 : sum4 (cell 2) ≡ f 2
  unfolding cell
  row_2 =
      add4 (from_2 (part k l 2 (f 0)) ∙ nothing 1 0 (lit< tt)) (from_2 (part k l 3 (f 1)) ∙ nothing 2 1 (lit< tt))
      (from_2 (part k l 0 (f 2)) ∙ itself 2) (from_2 (part k l 1 (f 3)) ∙ nothing 0 3 (lit< tt))
      ∙ simp xor_zero_r

  row_3 : sum4 (cell 3) ≡ f 3
  unfolding cell
  row_3 =
      add4 (from_1 (part k l 1 (f 0)) ∙ nothing 0 0 (lit< tt)) (from_1 (part k l 2 (f 1)) ∙ nothing 1 1 (lit< tt))
      (from_1 (part k l 3 (f 2)) ∙ nothing 2 2 (lit< tt)) (from_1 (part k l 0 (f 3)) ∙ itself 3)

  undone : times_matrix l (times_matrix k (column_of f)) ≡ column_of f
  undone =
      ap₂ ◌∷◌ (row 0 ∙ row_0) (ap₂ ◌∷◌ (row 1 ∙ row_1) (ap₂ ◌∷◌ (row 2 ∙ row_2) (ap₂ ◌∷◌ (row 3 ∙ row_3) refl)))

-- what reaches row 0 keeps sums, so one test over the eight bits in each of the four rows is enough: number 4b + d for bit b in row d
reaches-adds : (k l : Column) (d : ℕ) → Adds (reaches k l d)
reaches-adds k l d a b ha hb = add4 (at 0) (at 1) (at 2) (at 3) ∙ sym (sum4_add (part k l d a) (part k l d b))
  where
    at : (m : ℕ) → part k l d (bit_xor a b) m ≡ bit_xor (part k l d a m) (part k l d b m)
    at m =
        ap (λ (x : ℕ). times x (entry l m)) (times_linear (entry k (d + 4 - m)) ha hb)
        ∙ times_linear (entry l m) (times_byte (entry k (d + 4 - m)) ha) (times_byte (entry k (d + 4 - m)) hb)

own-adds : (d : ℕ) → Adds (own d)
own-adds d a b ha hb = go (eqb d 0)
  where
    go : (t : Bool) → when t (bit_xor a b) 0 ≡ bit_xor (when t a 0) (when t b 0)
    go true = refl
    go false = refl

tested : (k l : Column) → T (agree (λ n. reaches k l (n % 4) (2 ^ (n / 4))) (λ n. own (n % 4) (2 ^ (n / 4))) 32)
    → (d : ℕ) → d < 4 → (x : ℕ) → x < 256 → reaches k l d x ≡ own d x
tested k l t d hd = bytes_agree (reaches k l d) (own d) (reaches-adds k l d) (own-adds d) bit
  where
    bit : (b : ℕ) → b < 8 → reaches k l d (2 ^ b) ≡ own d (2 ^ b)
    bit b h =
        let row : (4 * b + d) % 4 ≡ d = omega arith in
        let place : (4 * b + d) / 4 ≡ b = omega arith in
        rw (row, place) at (agree_at (λ n. reaches k l (n % 4) (2 ^ (n / 4))) (λ n. own (n % 4) (2 ^ (n / 4))) 32 t (4 * b + d) (omega arith))

module _ (f : ℕ → ℕ) (bytes : (i : ℕ) → f i < 256) where
  pub inv_mix_mix : times_matrix inv_mix_row (times_matrix mix_row (column_of f)) ≡ column_of f
  unfolding times xtime
  inv_mix_mix = undone mix_row inv_mix_row (tested mix_row inv_mix_row tt) f bytes

  pub mix_inv_mix : times_matrix mix_row (times_matrix inv_mix_row (column_of f)) ≡ column_of f
  unfolding times xtime
  mix_inv_mix = undone inv_mix_row mix_row (tested inv_mix_row mix_row tt) f bytes
