-- Blocks as 128-bit numbers in two words.
-- Assumes nothing.
use mathlib.Core.Path.{◌≡◌, sym, ap, ap₂, ◌∙◌}
use mathlib.Core.List.{List, [], ◌∷◌, ◌++◌}
use Prim.Native.Nat.{ℕ, ◌+◌, ◌*◌, ◌/◌, ◌%◌, ◌^◌, ◌<◌}
use native.Mathlib.Nat.{add-zero, mul_assoc, div-one}
use native.Mathlib.Omega.{arith}
use lib.Bits.{bit_xor, xor_block, xor_zero_r}
use lib.Dec.{lit<}
use lib.ListN.{length, get_or, take, drop, length-append, length-drop, take-append-drop}
use lib.Pow.{pow-add}
use lib.Seq.{take_all, length-take-le}
use Rattle.std.specs.Int.{w64, from_be_bytes, to_be_bytes}
use Rattle.std.specs.Simd.{first_chunks}
use Rattle.std.proofs.lemmas.Nat.{be_bytes_8}
use Rattle.octets.specs.BigEndian.{be, number}
use Rattle.octets.specs.Xor.{xors}
use Rattle.octets.specs.Bytes.{Bytes}
use Rattle.octets.proofs.Bytes.{bytes_take, bytes_drop}
use Rattle.octets.proofs.BigEndian.{length-be, number-be, number_append, be_append, be_xor}
use Rattle.octets.proofs.Xor.{xors_append}
use Rattle.ghash.specs.declared.words.Wide.{Wide}
use Rattle.ghash.specs.Field.{R, times_x, times_xs}
use Rattle.ghash.specs.Words.{val, block_of}
use Rattle.ghash.proofs.Field.{fourfold, times_xs_32}

-- ---- the block of two words

pub block_of-be : (w : Wide) → w.high < 2 ^ 64 → w.low < 2 ^ 64 → block_of w ≡ be 16 (val w)
unfolding block_of
block_of-be w high low = sym (be_append 8 8 w.high w.low high low)

pub length-block_of : (w : Wide) → length (block_of w) ≡ 16
unfolding block_of
length-block_of w = length-append (be 8 w.high) (be 8 w.low)

-- the number of a block that was read
pub val-number : (w : Wide) (b : List ℕ) → w.high < 2 ^ 64 → w.low < 2 ^ 64 → block_of w ≡ b → val w ≡ number b
unfolding block_of
val-number w b high low e =
    sym
    (number_append (be 8 w.high) (be 8 w.low) ∙ ap₂ (λ (h l : ℕ). h * 2 ^ 64 + l) (number-be 8 w.high high) (number-be 8 w.low low))
    ∙ ap number e

-- ---- exclusive or, word by word

pub xor-words : (a b c d : ℕ) → b < 2 ^ 64 → d < 2 ^ 64 → bit_xor a c * 2 ^ 64 + bit_xor b d ≡ bit_xor (a * 2 ^ 64 + b) (c * 2 ^ 64 + d)
xor-words a b c d hb hd = sym (xor_block 64 a c b d hb hd)

pub xor-blocks : (a b c d : ℕ) → be 8 (bit_xor a c) ++ be 8 (bit_xor b d) ≡ xors (be 8 a ++ be 8 b) (be 8 c ++ be 8 d)
xor-blocks a b c d =
    ap₂ (λ (s t : List ℕ). s ++ t) (be_xor 8 a c) (be_xor 8 b d) ∙ sym (xors_append (be 8 a) (be 8 b) (be 8 c) (be 8 d) (length-be 8 a ∙ sym (length-be 8 c)))

-- in one word alone
xor_high : (a b c : ℕ) → b < 2 ^ 64 → bit_xor a c * 2 ^ 64 + b ≡ bit_xor (a * 2 ^ 64 + b) (c * 2 ^ 64)
xor_high a b c hb =
    ap (λ (n : ℕ). bit_xor a c * 2 ^ 64 + n) (sym (xor_zero_r b)) ∙ xor-words a b c 0 hb (lit< tt) ∙ ap (bit_xor (a * 2 ^ 64 + b)) (add-zero (c * 2 ^ 64))

shift_high : (m k : ℕ) → m * 2 ^ k * 2 ^ 64 ≡ m * 2 ^ (k + 64)
shift_high m k = mul_assoc m (2 ^ k) (2 ^ 64) ∙ ap (λ (p : ℕ). m * p) (sym (pow-add 2 k 64))

-- ---- a shift by one bit

half : (high low : ℕ) → (high * 2 ^ 64 + low) / 2 ≡ (high / 2) * 2 ^ 64 + (high % 2 * 2 ^ 63 + low / 2)
half high low = omega arith

pub half_lt : (high low : ℕ) → low < 2 ^ 64 → high % 2 * 2 ^ 63 + low / 2 < 2 ^ 64
half_lt high low h = omega arith

last : (high low : ℕ) → (high * 2 ^ 64 + low) % 2 ≡ low % 2
last high low = omega arith

pub times_x-words : (high low : ℕ) → low < 2 ^ 64
    → bit_xor (high / 2) (low % 2 * 0xe100_0000_0000_0000) * 2 ^ 64 + (high % 2 * 2 ^ 63 + low / 2) ≡ times_x (high * 2 ^ 64 + low)
unfolding times_x
times_x-words high low h =
    xor_high (high / 2) (high % 2 * 2 ^ 63 + low / 2) (low % 2 * 0xe100_0000_0000_0000) (half_lt high low h)
    ∙ ap₂ bit_xor (sym (half high low)) (mul_assoc (low % 2) 0xe100_0000_0000_0000 (2 ^ 64) ∙ ap (λ (b : ℕ). b * R) (sym (last high low)))

-- ---- and by 32 bits

part : (high low : ℕ) → (high * 2 ^ 64 + low) / 2 ^ 32 ≡ (high / 2 ^ 32) * 2 ^ 64 + (high % 2 ^ 32 * 2 ^ 32 + low / 2 ^ 32)
part high low = omega arith

pub part_lt : (high low : ℕ) → low < 2 ^ 64 → high % 2 ^ 32 * 2 ^ 32 + low / 2 ^ 32 < 2 ^ 64
part_lt high low h = omega arith

out : (high low : ℕ) → (high * 2 ^ 64 + low) % 2 ^ 32 ≡ low % 2 ^ 32
out high low = omega arith

-- in the high word, term by term
fourfold_high : (m : ℕ) → fourfold 25 m * 2 ^ 64 ≡ fourfold 89 m
fourfold_high m = terms _ _ _ _ (terms _ _ _ _ (terms _ _ _ _ (shift_high m 32) (shift_high m 31)) (shift_high m 30)) (shift_high m 25)
  where
    terms : (a b c d : ℕ) → a * 2 ^ 64 ≡ c → b * 2 ^ 64 ≡ d → bit_xor a b * 2 ^ 64 ≡ bit_xor c d
    terms a b c d ea eb = sym (add-zero (bit_xor a b * 2 ^ 64)) ∙ xor_high a 0 b (lit< tt) ∙ ap₂ bit_xor (add-zero (a * 2 ^ 64) ∙ ea) eb

pub times_x32-words : (high low : ℕ) → low < 2 ^ 64
    → bit_xor (high / 2 ^ 32) (fourfold 25 (low % 2 ^ 32)) * 2 ^ 64 + (high % 2 ^ 32 * 2 ^ 32 + low / 2 ^ 32) ≡ times_xs 32 (high * 2 ^ 64 + low)
times_x32-words high low h =
    xor_high (high / 2 ^ 32) (high % 2 ^ 32 * 2 ^ 32 + low / 2 ^ 32) (fourfold 25 (low % 2 ^ 32)) (part_lt high low h)
    ∙ ap₂ bit_xor (sym (part high low)) (fourfold_high (low % 2 ^ 32) ∙ ap (fourfold 89) (sym (out high low)))
    ∙ sym (times_xs_32 (high * 2 ^ 64 + low))

-- ---- a block by the numbers of its halves

be_8 : (n : ℕ) → be 8 n ≡ to_be_bytes w64 n
be_8 n =
    ap
    (λ (m : ℕ).
    n / 256 ^ 7 % 256 ∷ n / 256 ^ 6 % 256 ∷ n / 256 ^ 5 % 256 ∷ n / 256 ^ 4 % 256 ∷ n / 256 ^ 3 % 256 ∷ n / 256 ^ 2 % 256 ∷ n / 256 % 256 ∷ m % 256 ∷ [])
    (div-one n)

be_word : (s : List ℕ) (n : ℕ) → length s ≡ 8 → Bytes s → n ≡ from_be_bytes w64 s → be 8 n ≡ s
be_word s n size bytes e = be_8 n ∙ be_bytes_8 s n size bytes.byte e

pub block_of_words : (b : List ℕ) (words : List (List ℕ)) (w : Wide) → length b ≡ 16 → Bytes b → words ≡ first_chunks 8 (length b / 8) b
    → w.high ≡ from_be_bytes w64 (get_or words 0 []) → w.low ≡ from_be_bytes w64 (get_or words 1 []) → block_of w ≡ b
unfolding block_of
block_of_words b words w size bytes e high low =
    ap₂ (λ (s t : List ℕ). s ++ t)
    (be_word (take 8 b) w.high (length-take-le 8 b (omega arith)) (bytes_take 8 bytes) (high ∙ ap (λ (l : List (List ℕ)). from_be_bytes w64 (get_or l 0 [])) two))
    (be_word (take 8 (drop 8 b)) w.low (length-take-le 8 (drop 8 b) (omega (arith, length-drop 8 b))) (bytes_take 8 (bytes_drop 8 bytes))
    (low ∙ ap (λ (l : List (List ℕ)). from_be_bytes w64 (get_or l 1 [])) two))
    ∙ ap (λ (s : List ℕ). take 8 b ++ s) (take_all 8 (drop 8 b) (omega (arith, length-drop 8 b)))
    ∙ take-append-drop 8 b
  where
    two : words ≡ take 8 b ∷ take 8 (drop 8 b) ∷ []
    two = e ∙ ap (λ (n : ℕ). first_chunks 8 (n / 8) b) size
