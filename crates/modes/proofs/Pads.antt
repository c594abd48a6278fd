-- Counter blocks that differ in the last byte alone: one start gives all their pads.
-- Assumes nothing.
use mathlib.Core.Path.{◌≡◌, sym, ap, ◌∙◌}
use mathlib.Core.List.{List, [], ◌∷◌, ◌++◌, append_assoc}
use Prim.Native.Nat.{ℕ, zero, suc, ◌+◌, ◌-◌, ◌<◌, ◌/◌, ◌%◌}
use native.Mathlib.Nat.{mod-lt}
use native.Mathlib.Omega.{arith}
use lib.Dec.{lit<}
use lib.ListN.{length, take, length-append}
use lib.Seq.{take_at, length-take-le}
use Rattle.octets.specs.Bytes.{Bytes}
use Rattle.octets.specs.BigEndian.{be}
use Rattle.octets.proofs.BigEndian.{length-be, be_last}
use Rattle.aes.specs.State.{State}
use Rattle.aes.specs.Cipher.{cipher}
use Rattle.aes_fast.specs.ByTables.{Tables}
use Rattle.aes_fast.specs.Right.{Ready}
use Rattle.aes_fast.specs.Start.{with_last, start_by, cipher_from}
use Rattle.aes_fast.specs.declared.start.Start.{Start}
use Rattle.aes_fast.proofs.Laws.{from_start}
use Rattle.modes.specs.Counter.{counter_block}
use Rattle.modes.specs.Pads.{Serves}

-- ---- the last byte of a counter block

block_last : (w : ℕ) (front : List ℕ) (j k : ℕ) → length front + w ≡ 15 → j / 256 ≡ k / 256
    → counter_block (suc w) front j ≡ with_last (counter_block (suc w) front k) (j % 256)
block_last w front j k size same =
    ap (λ (l : List ℕ). front ++ l) (be_last w j)
    ∙ sym (append_assoc front (be w (j / 256)) (j % 256 ∷ []))
    ∙ ap (λ (l : List ℕ). l ++ j % 256 ∷ [])
    (ap (λ (n : ℕ). front ++ be w n) same
    ∙ sym (take_at (front ++ be w (k / 256)) (k % 256 ∷ []) 15 (length-append front (be w (k / 256)) ∙ ap (λ (n : ℕ). length front + n) (length-be w (k / 256)) ∙ size))
    ∙ ap (take 15) (append_assoc front (be w (k / 256)) (k % 256 ∷ []) ∙ sym (ap (λ (l : List ℕ). front ++ l) (be_last w k))))

counter_block_last : (w : ℕ) (base : List ℕ) (j k : ℕ) → 0 < w → w < 8 → length base ≡ 16 → j / 256 ≡ k / 256
    → counter_block w (take (16 - w) base) j ≡ with_last (counter_block w (take (16 - w) base) k) (j % 256)
counter_block_last zero base j k some short size same = absurd (omega arith)
counter_block_last (suc w) base j k some short size same =
    block_last w (take (16 - suc w) base) j k (omega (arith, length-take-le (16 - suc w) base (omega arith))) same

-- ---- a start

module _ {t : Tables} {ks : List State} where
  pub start_serves : Ready t ks → (w : ℕ) (base b : List ℕ) (s : Start) (k : ℕ) → 0 < w → w < 8 → length base ≡ 16 → Bytes b → length b ≡ 16
      → b ≡ counter_block w (take (16 - w) base) k → s ≡ start_by t ks b → Serves t ks w (take (16 - w) base) s k
  start_serves ready w base b s k some short size bytes long eb es =
      record {
        pads =
            λ j same.
            ap (λ (s : Start). cipher_from t ks s (j % 256)) es
            ∙ from_start t ks b (j % 256) ready bytes long (mod-lt j (lit< tt))
            ∙ ap (cipher ks) (ap (λ (l : List ℕ). with_last l (j % 256)) eb ∙ sym (counter_block_last w base j k some short size same));
      }

  module _ {w : ℕ} {front : List ℕ} {s : Start} {k : ℕ} (serves : Serves t ks w front s k) where
    -- for another counter of the same group
    pub serves-also : (j : ℕ) → j / 256 ≡ k / 256 → Serves t ks w front s j
    serves-also j same = record { pads = λ i e. serves.pads i (e ∙ same) }
