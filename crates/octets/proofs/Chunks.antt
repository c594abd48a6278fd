-- A string cut by std's `as_chunks` into arrays of 16 bytes, and what is left after the last: a chain along the string, array by array.
-- Assumes nothing.
use mathlib.Core.Path.{◌≡◌, sym, ap, ap₂, ◌∙◌}
use mathlib.Core.List.{List, [], ◌++◌}
use Prim.Native.Nat.{ℕ, zero, suc, ◌+◌, ◌*◌, ◌-◌, ◌/◌, ◌≤◌, ◌<◌}
use native.Mathlib.Nat.{zero-mul}
use native.Mathlib.Omega.{arith}
use borrow.Rule.Slice.PartMut.{put_mid}
use lib.ListN.{length, get_or, take, drop, replicate, length-drop}
use lib.Seq.{drop-drop}
use Rattle.std.specs.Simd.{first_chunks}
use Rattle.std.proofs.lemmas.List.{take-replicate, drop-replicate}
use Rattle.octets.specs.Xor.{xors}
use Rattle.octets.specs.Running.{add_from, absorb}
use Rattle.octets.proofs.Running.{absorb_within, absorb_block_turn}

chunk_at : (n i : ℕ) (s : List ℕ) → i < n → get_or (first_chunks 16 n s) i [] ≡ take 16 (drop (i * 16) s)
chunk_at zero i s lt = absurd (omega arith)
chunk_at (suc n) zero s lt = ap (λ (m : ℕ). take 16 (drop m s)) (sym (zero-mul 16))
chunk_at (suc n) (suc i) s lt =
    chunk_at n i (drop 16 s) (omega arith) ∙ ap (take 16) (drop-drop (i * 16) 16 s ∙ ap (λ (m : ℕ). drop m s) places)
  where
    places : 16 + i * 16 ≡ suc i * 16
    places = omega arith

module _ (f : List ℕ → List ℕ) (y s : List ℕ) (i : ℕ) (size : length y ≡ 16) where
  -- the array at place i
  pub absorb_chunk : (blocks : List (List ℕ)) → blocks ≡ first_chunks 16 (length s / 16) s → i < length s / 16
      → absorb f 0 (f (xors y (get_or blocks i []))) (drop ((i + 1) * 16) s) ≡ absorb f 0 y (drop (i * 16) s)
  absorb_chunk blocks e lt =
      ap₂ (λ (b : List ℕ) (n : ℕ). absorb f 0 (f (xors y b)) (drop n s))
      (ap (λ (l : List (List ℕ)). get_or l i []) e ∙ chunk_at (length s / 16) i s lt) places
      ∙ absorb_block_turn f y s (i * 16) size (omega arith)
    where
      places : (i + 1) * 16 ≡ i * 16 + 16
      places = omega arith

  -- what is left
  pub absorb_after-chunks : (rest : List ℕ) → rest ≡ drop (length s / 16 * 16) s → i ≡ length s / 16 → add_from 0 y rest ≡ absorb f 0 y (drop (i * 16) s)
  absorb_after-chunks rest e last =
      ap (add_from 0 y) (e ∙ ap (λ (n : ℕ). drop (n * 16) s) (sym last))
      ∙ sym (absorb_within f 0 y (drop (i * 16) s) size (omega (arith, length-drop (i * 16) s)))

-- ---- a part among as many zeros as fill a block, and so added

pub part_among-zeros : (k n : ℕ) (s t : List ℕ) → k + length s ≤ 16 → n ≡ k + length s - k → t ≡ s
    → put_mid k n (replicate 16 0) t ≡ replicate k 0 ++ (s ++ replicate (16 - (k + length s)) 0)
part_among-zeros k n s t fits en et =
    ap₂ (λ (m : ℕ) (p : List ℕ). put_mid k m (replicate 16 0) p) size et
    ∙ ap₂ (λ (l r : List ℕ). l ++ (s ++ r)) (take-replicate k 16 0 (omega arith))
    (drop-drop (length s) k (replicate 16 0) ∙ drop-replicate (k + length s) 16 0)
  where
    size : n ≡ length s
    size = omega arith
