-- Blocks of strings: read from a place as columns, and written over the front of an output a word after the other.
-- Assumes nothing.
use mathlib.Core.Path.{◌≡◌, sym, ap, ap₂, ◌∙◌}
use mathlib.Core.List.{List, [], ◌∷◌, ◌++◌}
use Prim.Native.Nat.{ℕ, ◌+◌, ◌/◌, ◌≤◌, ◌<◌}
use native.Mathlib.Omega.{arith}
use borrow.Rule.Slice.PartMut.{put_mid}
use lib.ListN.{length, get_or, take, drop, replicate, length-drop, take-append-drop}
use Rattle.std.specs.Int.{w64, from_le_bytes, to_le_bytes}
use Rattle.std.specs.Simd.{first_chunks}
use Rattle.std.proofs.lemmas.Nat.{le_bytes_8}
use Rattle.octets.specs.Bytes.{Bytes}
use Rattle.octets.proofs.Bytes.{bytes_take, bytes_drop}
use lib.Seq.{take_all, drop-drop, length-take-le}
use borrow.Author.Tests.{le-leb, lt-leb}
use Rattle.octets.specs.Lent.{over}
use Rattle.octets.specs.Tests.{part_of}
use Rattle.octets.proofs.Lent.{over_fits}
use Rattle.aes_fast.specs.Halves.{halves_block, word_bytes, block_at}
use Rattle.aes_fast.specs.declared.halves.Halves.{Halves}
use Rattle.aes_fast.proofs.Pairs.{word_bytes_is, halves_block-words}
use Rattle.aes_fast.proofs.Restored.{length-halves_block}

-- ---- read

half_bytes : (s : List ℕ) (n : ℕ) → length s ≡ 8 → Bytes s → n ≡ from_le_bytes w64 s → word_bytes n ≡ s
half_bytes s n size bytes e = word_bytes_is n ∙ le_bytes_8 s n size bytes.byte e

-- a block by the numbers of its halves
pub block_by_halves : (b : List ℕ) (words : List (List ℕ)) (h : Halves) → length b ≡ 16 → Bytes b → words ≡ first_chunks 8 (length b / 8) b
    → h.first ≡ from_le_bytes w64 (get_or words 0 []) → h.second ≡ from_le_bytes w64 (get_or words 1 []) → halves_block h ≡ b
block_by_halves b words h size bytes e first second =
    halves_block-words h
    ∙ ap₂ (λ (s t : List ℕ). s ++ t)
    (half_bytes (take 8 b) h.first (length-take-le 8 b (omega arith)) (bytes_take 8 bytes) (first ∙ ap (λ (l : List (List ℕ)). from_le_bytes w64 (get_or l 0 [])) two))
    (half_bytes (take 8 (drop 8 b)) h.second (length-take-le 8 (drop 8 b) (omega (arith, length-drop 8 b))) (bytes_take 8 (bytes_drop 8 bytes))
    (second ∙ ap (λ (l : List (List ℕ)). from_le_bytes w64 (get_or l 1 [])) two))
    ∙ ap (λ (s : List ℕ). take 8 b ++ s) (take_all 8 (drop 8 b) (omega (arith, length-drop 8 b)))
    ∙ take-append-drop 8 b
  where
    two : words ≡ take 8 b ∷ take 8 (drop 8 b) ∷ []
    two = e ∙ ap (λ (n : ℕ). first_chunks 8 (n / 8) b) size

module _ (s : List ℕ) (i : ℕ) where
  pub blockAt-whole : i + 16 ≤ length s → block_at s i ≡ part_of s i 16
  unfolding block_at
  blockAt-whole h = rw (le-leb (i + 16) (length s) h)

  pub block_at-none : length s < i + 16 → block_at s i ≡ replicate 16 0
  unfolding block_at
  block_at-none h = rw (lt-leb (i + 16) (length s) h)

pub halves_block-zero : halves_block (record { first = 0; second = 0 }) ≡ replicate 16 0
halves_block-zero = halves_block-words (record { first = 0; second = 0 }) ∙ ap₂ (λ (a b : List ℕ). a ++ b) (word_bytes_is 0) (word_bytes_is 0)

-- ---- written

-- over an output that has room, a word after the other
pub halves-written : (h : Halves) (out one two : List ℕ) → 16 ≤ length out → one ≡ to_le_bytes w64 h.first → two ≡ to_le_bytes w64 h.second
    → put_mid 8 8 (one ++ drop 8 out) two ≡ over (halves_block h) out
halves-written h out one two fits first second =
    ap₂ (λ (s t : List ℕ). put_mid 8 8 (s ++ drop 8 out) t) first second
    ∙ ap (λ (l : List ℕ). to_le_bytes w64 h.first ++ (to_le_bytes w64 h.second ++ l)) (drop-drop 8 8 out)
    ∙ sym
    (over_fits (halves_block h) out (omega (arith, length-halves_block h))
    ∙ ap₂ (λ (b : List ℕ) (n : ℕ). b ++ drop n out)
    (halves_block-words h ∙ ap₂ (λ (s t : List ℕ). s ++ t) (word_bytes_is h.first) (word_bytes_is h.second))
    (length-halves_block h))
