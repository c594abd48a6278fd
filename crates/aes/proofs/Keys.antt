-- The schedule of a key of bytes holds bytes.
-- Assumes nothing.
use mathlib.Core.Path.{subst⁻¹}
use mathlib.Core.Bool.{Bool, true, false}
use mathlib.Core.List.{List, [], ◌∷◌, ◌++◌}
use Prim.Native.Nat.{ℕ, zero, suc, ◌+◌, ◌-◌, ◌*◌, ◌/◌, ◌%◌, ◌<◌}
use lib.Bits.{bit_xor}
use lib.Dec.{eqb, lit<}
use lib.ListN.{get_or}
use Rattle.octets.specs.Values.{values}
use Rattle.octets.specs.Bytes.{Bytes}
use Rattle.octets.specs.Lent.{when}
use Rattle.octets.proofs.Bytes.{bytes_nil, bytes_cons, bytes-values}
use Rattle.octets.proofs.Xor.{xor_byte}
use Rattle.aes_field.specs.Field.{sbox}
use Rattle.aes_field.specs.Words.{Column, column_of}
use Rattle.aes_field.proofs.Linear.{xtime_byte}
use Rattle.aes_field.proofs.Laws.{sbox_byte}
use Rattle.aes_state.specs.Laws.{IsKey}
use Rattle.aes.specs.State.{State, state_of}
use Rattle.aes.specs.Cipher.{sub_column, add_column}
use Rattle.aes.specs.KeyExpansion.{rot_word, power, rcon, temp, key_word, words, round_key, schedule}
use Rattle.aes.specs.KeyExpansion.Inside.{schedule_is}

-- what holds of every element, and of the one that is read past the end
module _ {A : Type 0} (P : A → Type 0) (d : A) (past : P d) where
  all-values : (f : ℕ → A) → ((k : ℕ) → P (f k)) → (i n k : ℕ) → P (get_or (values f i n) k d)
  all-values f h i zero k = past
  all-values f h i (suc n) zero = h i
  all-values f h i (suc n) (suc k) = all-values f h (suc i) n k

  all_more : (l : List A) (a : A) → ((k : ℕ) → P (get_or l k d)) → P a → (k : ℕ) → P (get_or (l ++ a ∷ []) k d)
  all_more [] a h p zero = p
  all_more [] a h p (suc k) = past
  all_more (x ∷ l) a h p zero = h zero
  all_more (x ∷ l) a h p (suc k) = all_more l a (λ m. h (suc m)) p k

abbrev pub AreKeys : List State → Type 0
AreKeys ks = (n : ℕ) → IsKey (get_or ks n [])

column-bytes : (f : ℕ → ℕ) → ((r : ℕ) → f r < 256) → Bytes (column_of f)
column-bytes f h = bytes-values f 0 4 h

state_key : (f : ℕ → Column) → ((c : ℕ) → Bytes (f c)) → IsKey (state_of f)
state_key f h = record { columns = all-values Bytes [] bytes_nil f h 0 4 }

-- each step of the word loop makes bytes of bytes

add_bytes : (a k : Column) → Bytes a → Bytes k → Bytes (add_column a k)
add_bytes a k ha hk = column-bytes (λ r. bit_xor (get_or a r 0) (get_or k r 0)) (λ r. xor_byte (ha.byte r) (hk.byte r))

sub-bytes : (a : Column) → Bytes a → Bytes (sub_column a)
sub-bytes a h = column-bytes (λ r. sbox (get_or a r 0)) (λ r. sbox_byte (get_or a r 0) (h.byte r))

rot_bytes : (a : Column) → Bytes a → Bytes (rot_word a)
rot_bytes a h = column-bytes (λ r. get_or a ((r + 1) % 4) 0) (λ r. h.byte ((r + 1) % 4))

power_byte : (n : ℕ) → power n < 256
unfolding power
power_byte zero = lit< tt
power_byte (suc n) = xtime_byte (power_byte n)

rcon_bytes : (i : ℕ) → Bytes (rcon i)
rcon_bytes i = bytes_cons (power_byte (i - 1)) (bytes_cons (lit< tt) (bytes_cons (lit< tt) (bytes_cons (lit< tt) bytes_nil)))

when_bytes : (t : Bool) (a b : Column) → Bytes a → Bytes b → Bytes (when t a b)
when_bytes true a b ha hb = ha
when_bytes false a b ha hb = hb

temp_bytes : (i : ℕ) (a : Column) → Bytes a → Bytes (temp i a)
unfolding temp
temp_bytes i a h =
    when_bytes (eqb (i % 8) 0) _ _ (add_bytes (sub_column (rot_word a)) (rcon (i / 8)) (sub-bytes (rot_word a) (rot_bytes a h)) (rcon_bytes (i / 8)))
    (when_bytes (eqb (i % 8) 4) (sub_column a) a (sub-bytes a h) h)

module _ (key : List ℕ) (w : Bytes key) where
  words_bytes : (n i : ℕ) → Bytes (get_or (words key n) i [])
  unfolding words
  words_bytes zero = all-values Bytes [] bytes_nil (key_word key) (λ i. column-bytes (λ r. get_or key (4 * i + r) 0) (λ r. w.byte (4 * i + r))) 0 8
  words_bytes (suc n) =
      let so_far : (i : ℕ) → Bytes (get_or (words key n) i []) = words_bytes n in
      all_more Bytes [] bytes_nil (words key n) _ so_far
      (add_bytes (get_or (words key n) n []) (temp (8 + n) (get_or (words key n) (7 + n) [])) (so_far n) (temp_bytes (8 + n) (get_or (words key n) (7 + n) []) (so_far (7 + n))))

  pub schedule_keys : AreKeys (schedule key)
  schedule_keys n =
      subst⁻¹ (λ (ks : List State). IsKey (get_or ks n [])) (schedule_is key)
      (all-values IsKey [] (record { columns = λ c. bytes_nil }) (round_key (words key 52))
      (λ k. state_key (λ c. get_or (words key 52) (4 * k + c) []) (λ c. words_bytes 52 (4 * k + c))) 0 15 n)
