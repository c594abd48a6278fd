-- What the code's calls make of a register is a step, and its loops the steps in order.
-- Assumes nothing.
use mathlib.Core.Path.{◌≡◌, ap, ◌∙◌}
use mathlib.Core.List.{List, [], ◌++◌}
use Prim.Native.Nat.{ℕ, zero, suc, ◌+◌, ◌-◌, ◌≤◌}
use native.Mathlib.Numerals.{add-one, sub-one}
use native.Mathlib.Omega.{arith}
use lib.ListN.{length, get_or, set, take, drop, length-drop}
use lib.Seq.{take_all}
use Rattle.octets.specs.Values.{bytes_at}
use Rattle.octets.specs.BigEndian.{be}
use Rattle.octets.specs.Xor.{xors}
use Rattle.octets.proofs.Values.{bytes_at_part}
use Rattle.aes.specs.State.{State}
use Rattle.aes.specs.Cipher.{cipher}
use Rattle.aes.specs.InvCipher.{inv_cipher}
use Rattle.aes.proofs.Laws.{cipher-length, inv_cipher-length}
use Rattle.keywrap.specs.Wrap.{Register, part_at, wrap_step, wrap_steps, unwrap_step, unwrap_steps}

-- ---- the halves of a block, as they are read

module _ (b : List ℕ) (block : length b ≡ 16) where
  front_half : bytes_at 8 b 0 ≡ take 8 b
  front_half = bytes_at_part 8 b 0 (omega arith)

  back_half : bytes_at 8 b 8 ≡ drop 8 b
  back_half = bytes_at_part 8 b 8 (omega arith) ∙ take_all 8 (drop 8 b) (omega (arith, length-drop 8 b))

-- ---- one step

module _ (ks : List State) (t i : ℕ) (r : Register) (block b mask first other : List ℕ) (place : i ≡ part_at t) (masks : mask ≡ be 8 t) where
  pub wrap_step_made : (a : List ℕ) → block ≡ get_or r 0 [] ++ get_or r i [] → b ≡ cipher ks block
      → a ≡ bytes_at 8 b 0 → first ≡ xors a mask → other ≡ bytes_at 8 b 8 → set (set r 0 first) i other ≡ wrap_step ks t r
  unfolding wrap_step
  wrap_step_made a blocks ciphers halves firsts others =
      let front = firsts ∙ ap (λ (l : List ℕ). xors l mask) (halves ∙ front_half b long) in
      let back = others ∙ back_half b long in
      rw (front, back, ciphers, blocks, masks, place)
    where
      long : length b ≡ 16
      long = ap length ciphers ∙ cipher-length ks block

  pub unwrap_step_made : (a : List ℕ) → a ≡ xors (get_or r 0 []) mask → block ≡ a ++ get_or r i [] → b ≡ inv_cipher ks block
      → first ≡ bytes_at 8 b 0 → other ≡ bytes_at 8 b 8 → set (set r 0 first) i other ≡ unwrap_step ks t r
  unfolding unwrap_step
  unwrap_step_made a xored blocks ciphers firsts others =
      let front = firsts ∙ front_half b long in
      let back = others ∙ back_half b long in
      rw (front, back, ciphers, blocks, xored, masks, place)
    where
      long : length b ≡ 16
      long = ap length ciphers ∙ inv_cipher-length ks block

-- ---- the loops

pub wrap_steps_turn : (ks : List State) (t : ℕ) (r s next : Register) → 1 ≤ t → s ≡ wrap_steps ks (t - 1) r → next ≡ wrap_step ks t s → next ≡ wrap_steps ks (t + 1 - 1) r
unfolding wrap_steps
wrap_steps_turn ks zero r s next h before made = absurd (omega arith)
wrap_steps_turn ks (suc t) r s next h before made = rw (made, before, add-one, sub-one, sub-one)

pub unwrap_steps_turn : (ks : List State) (t : ℕ) (s next : Register) → 1 ≤ t → next ≡ unwrap_step ks t s → unwrap_steps ks (t - 1) next ≡ unwrap_steps ks t s
unfolding unwrap_steps
unwrap_steps_turn ks zero s next h made = absurd (omega arith)
unwrap_steps_turn ks (suc t) s next h made = rw (made, sub-one)
