-- With the right tables the cipher by tables is FIPS 197's, on blocks and schedules of bytes.
-- Assumes nothing.
use mathlib.Core.Path.{◌≡◌, refl, sym, ap, ap₂, ◌∙◌}
use mathlib.Core.List.{List, [], ◌∷◌}
use Prim.Native.Nat.{ℕ, zero, suc, ◌<◌}
use lib.ListN.{get_or}
use Rattle.octets.specs.Bytes.{Bytes}
use Rattle.octets.proofs.Values.{four}
use Rattle.aes_field.specs.Field.{times, sbox}
use Rattle.aes_field.specs.Words.{Column}
use Rattle.aes.specs.State.{State, column, state_from, bytes_of}
use Rattle.aes.specs.Cipher.{mix_column, add_column, add_round_key, round, last_round, first_rounds, cipher}
use Rattle.aes.specs.Cipher.Inside.{cipher_is}
use Rattle.aes.proofs.Keys.{AreKeys}
use Rattle.aes_state.specs.Laws.{IsState}
use Rattle.aes_state.proofs.Laws.{block_state, add_state}
use Rattle.aes.proofs.Invert.{rounds_state}
use Rattle.aes_fast.specs.ByTables.{Tables, round_column_by, last_column_by, round_by, last_round_by, rounds_by, cipher_by}
use Rattle.aes_fast.specs.ByTables.Inside.{cipher_by_is}
use Rattle.aes_fast.specs.Right.{added, Right, Ready}
use Rattle.aes_fast.specs.Laws.{Ciphered}
use Rattle.aes_fast.proofs.Entries.{entry_0, entry_1, entry_2, entry_3}

-- what each byte of a column adds makes the mixed column
added_mixed : (a b c d : ℕ) → add_column (add_column (add_column (added 0 a) (added 1 b)) (added 2 c)) (added 3 d) ≡ mix_column (a ∷ b ∷ c ∷ d ∷ [])
unfolding times
added_mixed a b c d = refl

-- ---- one column, of four bytes

module _ (t : Tables) (right : Right t) (a b c d : ℕ) (ha : a < 256) (hb : b < 256) (hc : c < 256) (hd : d < 256) (k : Column) where
  round_column_by_right : round_column_by t a b c d k ≡ add_column (mix_column (sbox a ∷ sbox b ∷ sbox c ∷ sbox d ∷ [])) k
  round_column_by_right =
      ap (λ (x : Column). add_column x k)
      (ap₂ add_column (ap₂ add_column (ap₂ add_column (entry_0 t right a ha) (entry_1 t right b hb)) (entry_2 t right c hc)) (entry_3 t right d hd)
      ∙ added_mixed (sbox a) (sbox b) (sbox c) (sbox d))

  last_column_by_right : last_column_by t a b c d k ≡ add_column (sbox a ∷ sbox b ∷ sbox c ∷ sbox d ∷ []) k
  last_column_by_right =
      ap (λ (x : Column). add_column x k)
      (four
      (ap (λ (x : Column). get_or x 0 0) (entry_2 t right a ha)) (ap (λ (x : Column). get_or x 1 0) (entry_3 t right b hb))
      (ap (λ (x : Column). get_or x 2 0) (entry_0 t right c hc)) (ap (λ (x : Column). get_or x 3 0) (entry_1 t right d hd)))

-- ---- one round, of a state

module _ (t : Tables) (right : Right t) {s : State} (w : IsState s) (k : State) where
  round_by_right : round_by t s k ≡ round s k
  unfolding round_by round
  round_by_right =
      let at : ℕ → ℕ → ℕ = w.at in
      let byte : (c r : ℕ) → at c r < 256 = w.bytes in
      ap (λ (x : State). round_by t x k) w.is
      ∙ four
      (round_column_by_right t right (at 0 0) (at 1 1) (at 2 2) (at 3 3) (byte 0 0) (byte 1 1) (byte 2 2) (byte 3 3) (column k 0))
      (round_column_by_right t right (at 1 0) (at 2 1) (at 3 2) (at 0 3) (byte 1 0) (byte 2 1) (byte 3 2) (byte 0 3) (column k 1))
      (round_column_by_right t right (at 2 0) (at 3 1) (at 0 2) (at 1 3) (byte 2 0) (byte 3 1) (byte 0 2) (byte 1 3) (column k 2))
      (round_column_by_right t right (at 3 0) (at 0 1) (at 1 2) (at 2 3) (byte 3 0) (byte 0 1) (byte 1 2) (byte 2 3) (column k 3))
      ∙ sym (ap (λ (x : State). round x k) w.is)

  last_round_by_right : last_round_by t s k ≡ last_round s k
  unfolding last_round_by last_round
  last_round_by_right =
      let at : ℕ → ℕ → ℕ = w.at in
      let byte : (c r : ℕ) → at c r < 256 = w.bytes in
      ap (λ (x : State). last_round_by t x k) w.is
      ∙ four
      (last_column_by_right t right (at 0 0) (at 1 1) (at 2 2) (at 3 3) (byte 0 0) (byte 1 1) (byte 2 2) (byte 3 3) (column k 0))
      (last_column_by_right t right (at 1 0) (at 2 1) (at 3 2) (at 0 3) (byte 1 0) (byte 2 1) (byte 3 2) (byte 0 3) (column k 1))
      (last_column_by_right t right (at 2 0) (at 3 1) (at 0 2) (at 1 3) (byte 2 0) (byte 3 1) (byte 0 2) (byte 1 3) (column k 2))
      (last_column_by_right t right (at 3 0) (at 0 1) (at 1 2) (at 2 3) (byte 3 0) (byte 0 1) (byte 1 2) (byte 2 3) (column k 3))
      ∙ sym (ap (λ (x : State). last_round x k) w.is)

-- ---- all rounds, of a block

module _ (t : Tables) (ks : List State) (keys : AreKeys ks) (right : Right t) where
  rounds_by_right : (n : ℕ) {s : State} → IsState s → rounds_by t ks n s ≡ first_rounds ks n s
  unfolding rounds_by first_rounds
  rounds_by_right zero w = refl
  rounds_by_right (suc n) w =
      ap (λ (x : State). round_by t x (get_or ks (suc n) [])) (rounds_by_right n w)
      ∙ round_by_right t right (rounds_state ks keys n w) (get_or ks (suc n) [])

  pub cipher_by_right : (b : List ℕ) → Bytes b → cipher_by t ks b ≡ cipher ks b
  cipher_by_right b bytes =
      let first : IsState (add_round_key (state_from b) (get_or ks 0 [])) = add_state _ (get_or ks 0 []) (block_state _ bytes) (keys 0) in
      cipher_by_is t ks b
      ∙ ap (λ (x : State). bytes_of (last_round_by t x (get_or ks 14 []))) (rounds_by_right 13 first)
      ∙ ap bytes_of (last_round_by_right t right (rounds_state ks keys 13 first) (get_or ks 14 []))
      ∙ sym (cipher_is ks b)

-- ---- what a call says: by the tables, and so by FIPS 197 where they are right

module _ (t : Tables) (ks : List State) where
  pub ready-cipher : Ready t ks → {b : List ℕ} → Bytes b → cipher_by t ks b ≡ cipher ks b
  ready-cipher ready {b} h = cipher_by_right t ks (λ n. record { columns = ready.keys n }) ready.tables b h

  pub ciphered : {b r : List ℕ} → Bytes b → r ≡ cipher_by t ks b → Ciphered t ks (λ f. f b) r
  ciphered h e = record { by-tables = e; by-cipher = λ ready. e ∙ ready-cipher ready h }
