-- The cipher's steps, and one more round, as the loops count them.
-- Assumes nothing.
use mathlib.Core.Path.{◌≡◌, ◌∙◌}
use mathlib.Core.List.{List, []}
use Prim.Native.Nat.{ℕ, zero, suc, ◌+◌, ◌-◌, ◌<◌}
use native.Mathlib.Nat.{not-suc-le-zero}
use native.Mathlib.Numerals.{add-one, sub-one}
use lib.ListN.{get_or}
use Rattle.aes.specs.State.{State, state_from, bytes_of}
use Rattle.aes.specs.Cipher.{add_round_key, round, last_round, first_rounds, cipher}
use Rattle.aes.specs.Cipher.Inside.{cipher_is}
use Rattle.aes.specs.InvCipher.{inv_round, inv_last_round, inv_rounds, inv_cipher}
use Rattle.aes.specs.InvCipher.Inside.{inv_cipher_is}

-- a block from its load to its store

pub cipher_steps : (ks : List State) (b : List ℕ)
    → cipher ks b ≡ bytes_of (last_round (first_rounds ks 13 (add_round_key (state_from b) (get_or ks 0 []))) (get_or ks 14 []))
cipher_steps = cipher_is

pub inv_cipher_steps : (ks : List State) (b : List ℕ) → inv_cipher ks b ≡ bytes_of (inv_rounds ks 13 (add_round_key (state_from b) (get_or ks 14 [])))
inv_cipher_steps = inv_cipher_is

-- one more round

pub rounds_more : (ks : List State) (i : ℕ) (s t u : State) → t ≡ first_rounds ks i s → u ≡ round t (get_or ks (i + 1) []) → u ≡ first_rounds ks (i + 1) s
unfolding first_rounds
rounds_more ks i s t u p q = rw (q, p, add-one)

pub inv_rounds_less : (ks : List State) (i : ℕ) (s t u : State) → 0 < i → inv_rounds ks i t ≡ s → u ≡ inv_round t (get_or ks i []) → inv_rounds ks (i - 1) u ≡ s
unfolding inv_rounds
inv_rounds_less ks zero s t u h p q = absurd (not-suc-le-zero h)
inv_rounds_less ks (suc i) s t u h p q = rw (q, sub-one) p

pub inv_rounds_end : (ks : List State) (i : ℕ) (s t u : State) → i ≡ 0 → inv_rounds ks i t ≡ s → u ≡ inv_last_round t (get_or ks 0 []) → u ≡ s
unfolding inv_rounds
inv_rounds_end ks i s t u z p q = q ∙ (rw z at p)
