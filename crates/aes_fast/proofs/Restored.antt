-- Columns as words, and states as halves, there and back; and the columns of the rounds are bytes where the key is.
-- Assumes nothing.
use mathlib.Core.Path.{◌≡◌, ap, ap₂, sym, ◌∙◌}
use Prim.Native.Nat.{ℕ, ◌+◌, ◌*◌, ◌/◌, ◌%◌, ◌^◌, ◌<◌}
use native.Mathlib.Nat.{mod-lt}
use native.Mathlib.Omega.{arith}
use lib.Dec.{lit<}
use lib.ListN.{length, get_or}
use mathlib.Core.List.{List, []}
use Rattle.octets.specs.Bytes.{Bytes}
use Rattle.octets.proofs.Bytes.{bytes_nil, bytes_cons, bytes_append}
use Rattle.octets.proofs.Xor.{xor_byte}
use Rattle.octets.proofs.Values.{four}
use lib.Bits.{bit_xor}
use Rattle.aes_field.specs.Words.{Column}
use Rattle.aes.specs.State.{State, column, state_from}
use Rattle.aes.specs.Cipher.{add_column, add_round_key}
use Rattle.aes_fast.specs.ByTables.{Tables, column_from, table_entry, mixed_by, last_column_by, last_round_by, cipher_by}
use Rattle.aes_fast.specs.ByTables.Inside.{column_from_is, cipher_by_is}
use Rattle.aes_fast.specs.Right.{word_from}
use Rattle.aes_fast.specs.Halves.{columns_of, halves_block, word_bytes, halves_from}
use Rattle.aes_fast.specs.Halves.Inside.{columns_of_is, halves_block_is}
use Rattle.aes_fast.specs.declared.halves.Halves.{Halves}
use Rattle.aes_fast.proofs.Columns.{column_from-word_from}
use Rattle.aes_fast.proofs.Pairs.{low_part, low_column, high-column, halves_block-words, columns_of_block}

-- ---- from words and back

digits : (w : ℕ) → w < 4294967296 → w ≡ w % 256 + w / 256 % 256 * 256 + w / 256 / 256 % 256 * 65536 + w / 256 / 256 / 256 % 256 * 16777216
digits w h = omega arith

place_2 : (w : ℕ) → w / 65536 ≡ w / 256 / 256
place_2 w = omega arith

place_3 : (w : ℕ) → w / 16777216 ≡ w / 256 / 256 / 256
place_3 w = omega arith

pub word_from-column_from : (w : ℕ) → w < 4294967296 → w ≡ word_from (column_from w)
word_from-column_from w h =
    digits w h
    ∙ ap₂ (λ (m n : ℕ). w % 256 + w / 256 % 256 * 256 + m % 256 * 65536 + n % 256 * 16777216) (sym (place_2 w)) (sym (place_3 w))
    ∙ ap word_from (sym (column_from_is w))

half-from : (w : ℕ) → w < 2 ^ 64 → w ≡ word_from (column_from w) + word_from (column_from (w / 4294967296)) * 4294967296
half-from w h =
    let low : w % 4294967296 < 4294967296 = mod-lt w (lit< tt) in
    let high : w / 4294967296 < 4294967296 = omega arith in
    let whole : w ≡ w % 4294967296 + w / 4294967296 * 4294967296 = omega arith in
    whole
    ∙ ap₂ (λ (m n : ℕ). m + n * 4294967296)
    (word_from-column_from (w % 4294967296) low ∙ ap word_from (low_part w)) (word_from-column_from (w / 4294967296) high)

pub halves_equal : (g h : Halves) → g.first ≡ h.first → g.second ≡ h.second → g ≡ h
halves_equal g h p q = ap₂ (λ (a b : ℕ). let made : Halves = record { first = a; second = b } in made) p q

pub halves_from-columns_of : (h : Halves) → h.first < 2 ^ 64 → h.second < 2 ^ 64 → h ≡ halves_from (columns_of h)
halves_from-columns_of h p q = halves_equal h _ (half-from h.first p) (half-from h.second q) ∙ ap halves_from (sym (columns_of_is h))

-- ---- bytes

pub bytes-column_from : (w : ℕ) → Bytes (column_from w)
bytes-column_from w =
    rw (column_from_is w)
    (bytes_cons (mod-lt w (lit< tt)) (bytes_cons (mod-lt (w / 256) (lit< tt)) (bytes_cons (mod-lt (w / 65536) (lit< tt)) (bytes_cons (mod-lt (w / 16777216) (lit< tt)) bytes_nil))))

pub bytes-add_column : {a b : Column} → Bytes a → Bytes b → Bytes (add_column a b)
bytes-add_column {a} {b} ha hb =
    let at : (r : ℕ) → bit_xor (get_or a r 0) (get_or b r 0) < 256 = λ r. xor_byte (ha.byte r) (hb.byte r) in
    bytes_cons (at 0) (bytes_cons (at 1) (bytes_cons (at 2) (bytes_cons (at 3) bytes_nil)))

pub bytes-mixed_by : (t : Tables) (a b c d : ℕ) (k : Column) → Bytes k → Bytes (add_column (mixed_by t a b c d) k)
bytes-mixed_by t a b c d k hk =
    bytes-add_column
    (bytes-add_column (bytes-add_column (bytes-add_column (bytes-column_from _) (bytes-column_from _)) (bytes-column_from _)) (bytes-column_from _)) hk

bytes-last_column_by : (t : Tables) (a b c d : ℕ) (k : Column) → Bytes k → Bytes (last_column_by t a b c d k)
bytes-last_column_by t a b c d k hk =
    let row : (m n r : ℕ) → get_or (table_entry t m n) r 0 < 256 = λ m n r. (bytes-column_from (get_or (get_or t m []) n 0)).byte r in
    bytes-add_column (bytes_cons (row 2 a 0) (bytes_cons (row 3 b 1) (bytes_cons (row 0 c 2) (bytes_cons (row 1 d 3) bytes_nil)))) hk

module _ (t : Tables) (ks : List State) (b : List ℕ) where
  pub length-cipher_by : length (cipher_by t ks b) ≡ 16
  unfolding last_round_by
  length-cipher_by = ap length (cipher_by_is t ks b)

  pub bytes-cipher_by : ((c : ℕ) → Bytes (column (get_or ks 14 []) c)) → Bytes (cipher_by t ks b)
  unfolding last_round_by
  bytes-cipher_by keys =
      rw (cipher_by_is t ks b)
      (bytes_append
      (bytes_append (bytes_append (bytes-last_column_by t _ _ _ _ _ (keys 0)) (bytes-last_column_by t _ _ _ _ _ (keys 1))) (bytes-last_column_by t _ _ _ _ _ (keys 2)))
      (bytes-last_column_by t _ _ _ _ _ (keys 3)))

-- ---- back to words of bytes

module _ (x y : Column) (hx : Bytes x) (hy : Bytes y) where
  pub column_from_sum : column_from (word_from (add_column x y)) ≡ add_column x y
  column_from_sum = column_from-word_from (λ r. bit_xor (get_or x r 0) (get_or y r 0)) (λ r. xor_byte (hx.byte r) (hy.byte r))

  sum_lt : word_from (add_column x y) < 4294967296
  sum_lt =
      let h₀ : bit_xor (get_or x 0 0) (get_or y 0 0) < 256 = xor_byte (hx.byte 0) (hy.byte 0) in
      let h₁ : bit_xor (get_or x 1 0) (get_or y 1 0) < 256 = xor_byte (hx.byte 1) (hy.byte 1) in
      let h₂ : bit_xor (get_or x 2 0) (get_or y 2 0) < 256 = xor_byte (hx.byte 2) (hy.byte 2) in
      let h₃ : bit_xor (get_or x 3 0) (get_or y 3 0) < 256 = xor_byte (hx.byte 3) (hy.byte 3) in
      omega arith

pub columns_of_sum : (s k : State) → ((c : ℕ) → Bytes (column s c)) → ((c : ℕ) → Bytes (column k c))
    → columns_of (halves_from (add_round_key s k)) ≡ add_round_key s k
columns_of_sum s k hs hk =
    let word : ℕ → ℕ = λ c. word_from (add_column (column s c) (column k c)) in
    let back : (c : ℕ) → column_from (word_from (add_column (column s c) (column k c))) ≡ add_column (column s c) (column k c)
    = λ c. column_from_sum (column s c) (column k c) (hs c) (hk c) in
    let below : (c : ℕ) → word_from (add_column (column s c) (column k c)) < 4294967296 = λ c. sum_lt (column s c) (column k c) (hs c) (hk c) in
    columns_of_is (halves_from (add_round_key s k))
    ∙ four
    (low_column (word 0) (word 1) ∙ back 0) (high-column (word 0) (word 1) (below 0) ∙ back 1)
    (low_column (word 2) (word 3) ∙ back 2) (high-column (word 2) (word 3) (below 2) ∙ back 3)

-- ---- blocks

pub length-halves_block : (h : Halves) → length (halves_block h) ≡ 16
length-halves_block h = ap length (halves_block_is h)

pub bytes-halves_block : (h : Halves) → Bytes (halves_block h)
bytes-halves_block h = rw (halves_block-words h) (bytes_append (of_word h.first) (of_word h.second))
  where
    of_word : (w : ℕ) → Bytes (word_bytes w)
    of_word w = bytes_append (bytes-column_from w) (bytes-column_from (w / 4294967296))

pub halves_unique : (g h : Halves) → g.first < 2 ^ 64 → g.second < 2 ^ 64 → h.first < 2 ^ 64 → h.second < 2 ^ 64 → halves_block g ≡ halves_block h → g ≡ h
halves_unique g h p q r s e =
    halves_from-columns_of g p q
    ∙ ap halves_from (columns_of_block g ∙ ap state_from e ∙ sym (columns_of_block h))
    ∙ sym (halves_from-columns_of h r s)
