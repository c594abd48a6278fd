-- Strings in blocks of 16 bytes: how a string is cut, what its blocks are, and the chain along them for any f.
-- Assumes nothing.
use mathlib.Core.Path.{◌≡◌, refl, sym, ap, ◌∙◌}
use mathlib.Core.List.{List, [], ◌∷◌, ◌++◌, append-nil}
use Prim.Native.Nat.{ℕ, zero, suc, ◌+◌, ◌*◌, ◌-◌, ◌^◌, ◌≤◌, ◌<◌}
use native.Mathlib.Omega.{arith}
use lib.ListN.{length, take, drop, replicate, length-append, length-drop, length-replicate, drop_of_length-le}
use lib.Seq.{take_all, take-append-le, drop-append-le, drop-drop, length-take-le}
use Rattle.octets.specs.Bytes.{Bytes}
use Rattle.octets.specs.Xor.{xors}
use Rattle.octets.specs.BigEndian.{be, number}
use Rattle.octets.specs.Blocks.{IsBlock, blocks, fill, cut_into, cut, chain}
use Rattle.octets.proofs.Values.{cons_equal}
use Rattle.octets.proofs.Bytes.{bytes-zeros}
use Rattle.octets.proofs.BigEndian.{length-be, bytes-be, be-number, number_lt}
use Rattle.octets.proofs.Xor.{length-xors, bytes-xors}

-- ---- a block

pub block-zeros : IsBlock (replicate 16 0)
block-zeros = record { size = refl; bytes = bytes-zeros 16 }

pub block-be : (n : ℕ) → IsBlock (be 16 n)
block-be n = record { size = length-be 16 n; bytes = bytes-be 16 n }

-- it is the bytes of its number
pub block-number : {b : List ℕ} → IsBlock b → be 16 (number b) ≡ b
block-number {b} h = ap (λ (w : ℕ). be w (number b)) (sym h.size) ∙ be-number h.bytes

pub block_lt : {b : List ℕ} → IsBlock b → number b < 2 ^ 128
block_lt h = rw h.size at (number_lt h.bytes)

pub block-xors : {a b : List ℕ} → IsBlock a → IsBlock b → IsBlock (xors a b)
block-xors {a} {b} ha hb = record { size = length-xors a b (omega (arith, ha.size, hb.size)) ∙ ha.size; bytes = bytes-xors ha.bytes hb.bytes }

-- ---- a block or less, filled

pub length-fill : (b : List ℕ) → length b ≤ 16 → length (fill b) ≡ 16
length-fill b h = simp (length-append, length-replicate) (omega arith)

pub fill-whole : (b : List ℕ) → length b ≡ 16 → fill b ≡ b
fill-whole b h = ap (λ (n : ℕ). b ++ replicate (16 - n) 0) h ∙ append-nil b

-- ---- cut

pub cut_nil : cut [] ≡ []
unfolding cut
cut_nil = refl

-- the first block of a string that is not empty
cut_first : (s : List ℕ) → 0 < length s → cut s ≡ fill (take 16 s) ∷ cut (drop 16 s)
unfolding cut
cut_first s some = ap (λ (m : ℕ). cut_into m s) more
  where
    more : blocks (length s) ≡ suc (blocks (length (drop 16 s)))
    more = omega (arith, length-drop 16 s)

pub cut_short : (s : List ℕ) → 0 < length s → length s ≤ 16 → cut s ≡ fill s ∷ []
cut_short s some le =
    cut_first s some
    ∙ cons_equal (ap fill (take_all 16 s le)) (ap cut (drop_of_length-le s {i = 16} le) ∙ cut_nil)

pub cut_next : (s : List ℕ) → 16 ≤ length s → cut s ≡ take 16 s ∷ cut (drop 16 s)
cut_next s le = cut_first s (omega arith) ∙ cons_equal (fill-whole (take 16 s) (length-take-le 16 s le)) refl

-- where the first string is whole blocks, two strings are cut apart
pub cut_append : (m : ℕ) (a b : List ℕ) → length a ≡ 16 * m → cut (a ++ b) ≡ cut a ++ cut b
cut_append zero [] b e = ap (λ (bs : List (List ℕ)). bs ++ cut b) (sym cut_nil)
cut_append zero (x ∷ a) b e = absurd (omega arith)
cut_append (suc m) a b e =
    cut_next (a ++ b) (omega (arith, length-append a b))
    ∙ cons_equal (take-append-le 16 a b (omega arith))
    (ap cut (drop-append-le 16 a b (omega arith)) ∙ cut_append m (drop 16 a) b (omega (arith, length-drop 16 a)))
    ∙ sym (ap (λ (bs : List (List ℕ)). bs ++ cut b) (cut_next a (omega arith)))

-- ---- chain

module _ (f : List ℕ → List ℕ) where
  pub chain_append : (y : List ℕ) (bs cs : List (List ℕ)) → chain f y (bs ++ cs) ≡ chain f (chain f y bs) cs
  chain_append y [] cs = refl
  chain_append y (b ∷ bs) cs = chain_append (f (xors y b)) bs cs

  pub length-chain : ((x : List ℕ) → length (f x) ≡ 16) → (y : List ℕ) (bs : List (List ℕ)) → length y ≡ 16 → length (chain f y bs) ≡ 16
  length-chain size y [] h = h
  length-chain size y (b ∷ bs) h = length-chain size (f (xors y b)) bs (size (xors y b))

  pub bytes-chain : ((x : List ℕ) → Bytes (f x)) → {y : List ℕ} (bs : List (List ℕ)) → Bytes y → Bytes (chain f y bs)
  bytes-chain bytes {y} [] h = h
  bytes-chain bytes {y} (b ∷ bs) h = bytes-chain bytes {y = f (xors y b)} bs (bytes (xors y b))

  -- two functions with the same values
  pub chain_same : (g : List ℕ → List ℕ) → ((x : List ℕ) → f x ≡ g x) → (y : List ℕ) (bs : List (List ℕ)) → chain f y bs ≡ chain g y bs
  chain_same g same y [] = refl
  chain_same g same y (b ∷ bs) = ap (λ (x : List ℕ). chain f x bs) (same (xors y b)) ∙ chain_same g same (g (xors y b)) bs

  -- the block at place `at`, of what is left from there
  pub chain_turn : (y s : List ℕ) (at : ℕ) → at + 16 ≤ length s
      → chain f (f (xors y (take 16 (drop at s)))) (cut (drop (at + 16) s)) ≡ chain f y (cut (drop at s))
  chain_turn y s at h =
      ap (λ (l : List ℕ). chain f (f (xors y (take 16 (drop at s)))) (cut l)) (sym (drop-drop 16 at s))
      ∙ sym (ap (chain f y) (cut_next (drop at s) (omega (arith, length-drop at s))))
