-- SP 800-38D's counting and GCTR: its length, twice, of one block, and with a 96-bit front as the counter routine's stream.
-- Assumes nothing.
use mathlib.Core.Path.{◌≡◌, refl, ap, ap₂, ◌∙◌}
use mathlib.Core.Bool.{true}
use mathlib.Core.List.{List, ◌∷◌, ◌++◌, append-nil}
use Prim.Native.Nat.{ℕ, zero, suc, ◌+◌, ◌%◌, ◌^◌, ◌≤◌, ◌<◌}
use native.Mathlib.Nat.{mod-eq_of_lt}
use native.Mathlib.Numerals.{add-one}
use native.Mathlib.Omega.{arith}
use borrow.Author.Tests.{leb-true}
use lib.ListN.{length}
use lib.Seq.{take_at, drop_at}
use Rattle.octets.specs.Values.{values}
use Rattle.octets.specs.BigEndian.{be, number}
use Rattle.octets.specs.Bytes.{Bytes}
use Rattle.octets.specs.Xor.{xors}
use Rattle.octets.specs.Blocks.{blocks}
use Rattle.octets.proofs.Bytes.{bytes_nil, bytes_append, bytes_take}
use Rattle.octets.proofs.BigEndian.{number-be, bytes-be}
use Rattle.octets.proofs.Xor.{length-xors, xors_cancel, bytes-xors}
use Rattle.modes.specs.Counter.{stream, counter_block, ctr, counter_fits}
use Rattle.modes.specs.Gcm.{inc32, counter_blocks, gctr, pre_counter}
use Rattle.modes.proofs.Stream.{length-stream}

-- ---- GCTR of any blocks

length-counter_blocks : (cb : List ℕ) (n : ℕ) → length (counter_blocks cb n) ≡ n
length-counter_blocks cb zero = refl
length-counter_blocks cb (suc n) = ap suc (length-counter_blocks (inc32 cb) n)

module _ (f : List ℕ → List ℕ) (icb : List ℕ) where
  -- of one block
  pub gctr_block : (s : List ℕ) → length s ≡ 16 → gctr f icb s ≡ xors s (f icb)
  unfolding gctr
  gctr_block s whole = ap (λ (n : ℕ). xors s (stream f (counter_blocks icb (blocks n)))) whole ∙ ap (xors s) (append-nil (f icb))

  module _ (size : (x : List ℕ) → length (f x) ≡ 16) where
    enough : (s : List ℕ) → length s ≤ length (stream f (counter_blocks icb (blocks (length s))))
    enough s = omega (arith, length-stream f size (counter_blocks icb (blocks (length s))), length-counter_blocks icb (blocks (length s)))

    pub length-gctr : (s : List ℕ) → length (gctr f icb s) ≡ length s
    unfolding gctr
    length-gctr s = length-xors s (stream f (counter_blocks icb (blocks (length s)))) (enough s)

    -- twice gives the string back
    pub gctr-gctr : (s : List ℕ) → gctr f icb (gctr f icb s) ≡ s
    unfolding gctr
    gctr-gctr s =
        ap (λ (n : ℕ). xors (gctr f icb s) (stream f (counter_blocks icb (blocks n)))) (length-gctr s)
        ∙ xors_cancel s (stream f (counter_blocks icb (blocks (length s)))) (enough s)

  -- bytes, where the cipher makes bytes of bytes
  module _ (bytes : (x : List ℕ) → Bytes x → Bytes (f x)) where
    bytes-stream : {cb : List ℕ} (n : ℕ) → Bytes cb → Bytes (stream f (counter_blocks cb n))
    unfolding inc32
    bytes-stream zero h = bytes_nil
    bytes-stream {cb} (suc n) h = bytes_append (bytes cb h) (bytes-stream {cb = inc32 cb} n (bytes_append (bytes_take 12 h) (bytes-be 4 _)))

    pub bytes-gctr : {s : List ℕ} → Bytes icb → Bytes s → Bytes (gctr f icb s)
    unfolding gctr
    bytes-gctr {s} h hs = bytes-xors hs (bytes-stream (blocks (length s)) h)

-- ---- a front of 12 bytes and a counter of 4

module _ (iv : List ℕ) (size : length iv ≡ 12) where
  pub inc32_next : (i : ℕ) → i + 1 < 2 ^ 32 → inc32 (iv ++ be 4 i) ≡ iv ++ be 4 (i + 1)
  unfolding inc32
  inc32_next i h =
      ap₂ (λ (l : List ℕ) (n : ℕ). l ++ be 4 n) (take_at iv (be 4 i) 12 size)
      (ap (λ (l : List ℕ). (number l + 1) % 2 ^ 32) (drop_at iv (be 4 i) 12 size)
      ∙ ap (λ (n : ℕ). (n + 1) % 2 ^ 32) (number-be 4 i (omega arith))
      ∙ mod-eq_of_lt h)

  counter_blocks-values : (i n : ℕ) → i + n ≤ 2 ^ 32 → counter_blocks (iv ++ be 4 i) n ≡ values (counter_block 4 iv) i n
  counter_blocks-values i zero h = refl
  counter_blocks-values i (suc zero) h = refl
  counter_blocks-values i (suc (suc n)) h =
      ap (λ (bs : List (List ℕ)). (iv ++ be 4 i) ∷ bs)
      (ap (λ (cb : List ℕ). counter_blocks cb (suc n)) (inc32_next i (omega arith))
      ∙ counter_blocks-values (i + 1) (suc n) (omega arith)
      ∙ ap (λ (k : ℕ). values (counter_block 4 iv) k (suc n)) (add-one i))

  module _ (f : List ℕ → List ℕ) (s : List ℕ) where
    -- from counter i on, where the counters stay within their field
    pub gctr-counted : (i : ℕ) → counter_fits 4 i (length s) ≡ true → gctr f (iv ++ be 4 i) s ≡ ctr f 4 iv i s
    unfolding gctr ctr
    gctr-counted i fits =
        ap (λ (bs : List (List ℕ)). xors s (stream f bs)) (counter_blocks-values i (blocks (length s)) (leb-true (i + blocks (length s)) (2 ^ 32) fits))

    -- the text's stream
    pub gctr_two : counter_fits 4 2 (length s) ≡ true → gctr f (inc32 (pre_counter iv)) s ≡ ctr f 4 iv 2 s
    gctr_two fits = ap (λ (cb : List ℕ). gctr f cb s) (inc32_next 1 (omega arith)) ∙ gctr-counted 2 fits
