-- The cipher and the inverse cipher undo one another, on blocks of 16 bytes and schedules of bytes.
-- Assumes nothing.
use mathlib.Core.Path.{◌≡◌, sym, ap, ◌∙◌, subst⁻¹}
use mathlib.Core.List.{List, []}
use Prim.Native.Nat.{ℕ, zero, suc}
use lib.ListN.{length, get_or}
use Rattle.octets.specs.Bytes.{Bytes}
use Rattle.aes_field.specs.Field.{sbox, inv_sbox}
use Rattle.aes_field.proofs.Laws.{sbox_byte, inv_sbox_byte, inv_sbox-sbox, sbox-inv_sbox}
use Rattle.aes_state.specs.Laws.{IsState, IsKey}
use Rattle.aes_state.proofs.Grid.{grid-same}
use Rattle.aes_state.proofs.Laws as steps
use Rattle.aes.specs.State.{State, state_from, bytes_of}
use Rattle.aes.specs.Cipher.{sub_bytes, shift_rows, mix_columns, add_round_key, round, last_round, first_rounds, cipher}
use Rattle.aes.specs.Cipher.Inside.{cipher_is}
use Rattle.aes.specs.InvCipher.{inv_sub_bytes, inv_shift_rows, inv_mix_columns, inv_round, inv_last_round, inv_rounds, inv_cipher}
use Rattle.aes.specs.InvCipher.Inside.{inv_cipher_is}
use Rattle.aes.proofs.Keys.{AreKeys}

-- 5.1.1 and 5.3.2: each undoes the other
module _ {s : State} (w : IsState s) where
  sub_state : IsState (sub_bytes s)
  sub_state = record { at = λ c r. sbox (w.at c r); is = ap sub_bytes w.is; bytes = λ c r. sbox_byte (w.at c r) (w.bytes c r) }

  inv-sub_state : IsState (inv_sub_bytes s)
  inv-sub_state = record { at = λ c r. inv_sbox (w.at c r); is = ap inv_sub_bytes w.is; bytes = λ c r. inv_sbox_byte (w.at c r) (w.bytes c r) }

  inv-sub-sub : inv_sub_bytes (sub_bytes s) ≡ s
  inv-sub-sub =
      ap (λ (x : State). inv_sub_bytes (sub_bytes x)) w.is
      ∙ grid-same (λ c r. inv_sbox (sbox (w.at c r))) w.at (λ c r. inv_sbox-sbox (w.at c r) (w.bytes c r)) ∙ sym w.is

  sub_inv-sub : sub_bytes (inv_sub_bytes s) ≡ s
  sub_inv-sub =
      ap (λ (x : State). sub_bytes (inv_sub_bytes x)) w.is
      ∙ grid-same (λ c r. sbox (inv_sbox (w.at c r))) w.at (λ c r. sbox-inv_sbox (w.at c r) (w.bytes c r)) ∙ sym w.is

-- ShiftRows after SubBytes, and back
abbrev scrambled : State → State
scrambled s = shift_rows (sub_bytes s)

abbrev unscrambled : State → State
unscrambled s = inv_sub_bytes (inv_shift_rows s)

module _ {s : State} (w : IsState s) where
  scrambled_state : IsState (scrambled s)
  scrambled_state = steps.shift_state _ (sub_state w)

  unscrambled_state : IsState (unscrambled s)
  unscrambled_state = inv-sub_state (steps.inv_shift_state s w)

  unscrambled_scrambled : unscrambled (scrambled s) ≡ s
  unscrambled_scrambled = ap inv_sub_bytes (steps.inv_shift_shift _ (sub_state w)) ∙ inv-sub-sub w

  scrambled_unscrambled : scrambled (unscrambled s) ≡ s
  scrambled_unscrambled = ap shift_rows (sub_inv-sub (steps.inv_shift_state s w)) ∙ steps.shift_inv_shift s w

  round_state : (k : State) → IsKey k → IsState (round s k)
  unfolding round
  round_state k hk = steps.add_state _ k (steps.mix_state _ scrambled_state) hk

  inv-round_state : (k : State) → IsKey k → IsState (inv_round s k)
  unfolding inv_round
  inv-round_state k hk = steps.inv_mix_state _ (steps.add_state _ k unscrambled_state hk)

-- a round, scrambled on to the next, is undone, and the other way round
module _ {s : State} (w : IsState s) (k : State) (hk : IsKey k) where
  inv-round-round : inv_round (scrambled (round s k)) k ≡ scrambled s
  unfolding inv_round round
  inv-round-round =
      ap (λ (x : State). inv_mix_columns (add_round_key x k)) (unscrambled_scrambled (round_state w k hk))
      ∙ ap inv_mix_columns (steps.add_add k _ (steps.mix_state _ (scrambled_state w)))
      ∙ steps.inv_mix_mixed _ (scrambled_state w)

  round_inv-round : (t : State) → scrambled t ≡ inv_round s k → scrambled (round t k) ≡ s
  unfolding inv_round round
  round_inv-round t e =
      ap (λ (x : State). scrambled (add_round_key (mix_columns x) k)) e
      ∙ ap (λ (x : State). scrambled (add_round_key x k)) (steps.mix_inv_mixed _ (steps.add_state _ k (unscrambled_state w) hk))
      ∙ ap scrambled (steps.add_add k _ (unscrambled_state w)) ∙ scrambled_unscrambled w

module _ (ks : List State) (keys : AreKeys ks) where
  pub rounds_state : (n : ℕ) {s : State} → IsState s → IsState (first_rounds ks n s)
  unfolding first_rounds
  rounds_state zero w = w
  rounds_state (suc n) w = round_state (rounds_state n w) (get_or ks (suc n) []) (keys (suc n))

  inv_rounds_state : (n : ℕ) {s : State} → IsState s → IsState (inv_rounds ks n s)
  unfolding inv_rounds inv_last_round
  inv_rounds_state zero w = steps.add_state _ (get_or ks 0 []) (unscrambled_state w) (keys 0)
  inv_rounds_state (suc n) w = inv_rounds_state n (inv-round_state w (get_or ks (suc n) []) (keys (suc n)))

  inv_rounds_rounds : (n : ℕ) {s : State} → IsState s → inv_rounds ks n (scrambled (first_rounds ks n s)) ≡ add_round_key s (get_or ks 0 [])
  unfolding first_rounds inv_rounds inv_last_round
  inv_rounds_rounds zero w = ap (λ (x : State). add_round_key x (get_or ks 0 [])) (unscrambled_scrambled w)
  inv_rounds_rounds (suc n) w =
      ap (inv_rounds ks n) (inv-round-round (rounds_state n w) (get_or ks (suc n) []) (keys (suc n))) ∙ inv_rounds_rounds n w

  rounds_inv_rounds : (n : ℕ) {s : State} → IsState s → scrambled (first_rounds ks n (add_round_key (inv_rounds ks n s) (get_or ks 0 []))) ≡ s
  unfolding first_rounds inv_rounds inv_last_round
  rounds_inv_rounds zero w = ap scrambled (steps.add_add (get_or ks 0 []) _ (unscrambled_state w)) ∙ scrambled_unscrambled w
  rounds_inv_rounds (suc n) w =
      round_inv-round w (get_or ks (suc n) []) (keys (suc n)) (first_rounds ks n (add_round_key (inv_rounds ks (suc n) _) (get_or ks 0 [])))
      (rounds_inv_rounds n (inv-round_state w (get_or ks (suc n) []) (keys (suc n))))

-- blocks

module _ (ks : List State) (keys : AreKeys ks) {b : List ℕ} (bytes : Bytes b) where
  start : IsState (state_from b)
  start = steps.block_state b bytes

  first : (n : ℕ) → IsState (add_round_key (state_from b) (get_or ks n []))
  first n = steps.add_state _ (get_or ks n []) start (keys n)

  last : IsState (scrambled (first_rounds ks 13 (add_round_key (state_from b) (get_or ks 0 []))))
  last = scrambled_state (rounds_state ks keys 13 (first 0))

  pub cipher_bytes : Bytes (cipher ks b)
  unfolding last_round
  cipher_bytes = subst⁻¹ Bytes (cipher_is ks b) (steps.state_bytes _ (steps.add_state _ (get_or ks 14 []) last (keys 14)))

  pub inv_cipher_bytes : Bytes (inv_cipher ks b)
  inv_cipher_bytes = subst⁻¹ Bytes (inv_cipher_is ks b) (steps.state_bytes _ (inv_rounds_state ks keys 13 (first 14)))

  pub inv_cipher-cipher : length b ≡ 16 → inv_cipher ks (cipher ks b) ≡ b
  unfolding last_round
  inv_cipher-cipher long =
      ap (inv_cipher ks) (cipher_is ks b) ∙ inv_cipher_is ks _
      ∙ ap (λ (x : State). bytes_of (inv_rounds ks 13 (add_round_key x (get_or ks 14 [])))) (steps.state-again _ (steps.add_state _ (get_or ks 14 []) last (keys 14)))
      ∙ ap (λ (x : State). bytes_of (inv_rounds ks 13 x)) (steps.add_add (get_or ks 14 []) _ last)
      ∙ ap bytes_of (inv_rounds_rounds ks keys 13 (first 0) ∙ steps.add_add (get_or ks 0 []) _ start)
      ∙ steps.block-again b long

  pub cipher-inv_cipher : length b ≡ 16 → cipher ks (inv_cipher ks b) ≡ b
  unfolding last_round
  cipher-inv_cipher long =
      ap (cipher ks) (inv_cipher_is ks b) ∙ cipher_is ks _
      ∙ ap (λ (x : State). bytes_of (last_round (first_rounds ks 13 (add_round_key x (get_or ks 0 []))) (get_or ks 14 []))) (steps.state-again _ (inv_rounds_state ks keys 13 (first 14)))
      ∙ ap (λ (x : State). bytes_of (add_round_key x (get_or ks 14 []))) (rounds_inv_rounds ks keys 13 (first 14))
      ∙ ap bytes_of (steps.add_add (get_or ks 14 []) _ start)
      ∙ steps.block-again b long
