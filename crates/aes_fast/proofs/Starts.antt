-- A start: the code's words are the definition's, and from it comes the cipher of the block with any last byte.
-- Assumes nothing.
use mathlib.Core.Path.{◌≡◌, sym, ap, ap₂, ◌∙◌}
use mathlib.Core.List.{List, [], ◌∷◌}
use Prim.Native.Nat.{ℕ, zero, suc, ◌/◌, ◌%◌, ◌^◌, ◌<◌}
use native.Mathlib.Omega.{arith}
use lib.Bits.{bit_xor}
use lib.ListN.{length, get_or}
use Rattle.octets.specs.Bytes.{Bytes}
use Rattle.octets.specs.Xor.{xors}
use Rattle.octets.proofs.Bytes.{bytes_nil, bytes_cons, bytes_append, bytes_take}
use Rattle.octets.proofs.Values.{values_list}
use Rattle.aes_field.specs.Words.{Column}
use Rattle.aes.specs.State.{State, column, state_from, bytes_of}
use Rattle.aes.specs.Cipher.{add_column, add_round_key}
use Rattle.aes_fast.specs.ByTables.{Tables, column_from, table_entry, shifted, round_by, rounds_by, rounds_after, later_rounds_by, cipher_by}
use Rattle.aes_fast.specs.ByTables.Inside.{cipher_by_is}
use Rattle.aes_fast.specs.Right.{word_from}
use Rattle.aes_fast.specs.Halves.{columns_of, halves_block, halves_from}
use Rattle.aes_fast.specs.Halves.Inside.{columns_of_is}
use Rattle.aes_fast.specs.ThreeWords.{columns_held}
use Rattle.aes_fast.specs.Start.{with_last, state_after, column_adds, start_by, begun_by, cipher_from}
use Rattle.aes_fast.specs.Start.Inside.{start_key, start_first, start_second, cipher_from_is}
use Rattle.aes_fast.specs.declared.halves.Halves.{Halves}
use Rattle.aes_fast.specs.declared.start.Start.{Start}
use Rattle.aes_fast.specs.declared.three_words.ThreeWords.{ThreeWords}
use Rattle.aes_fast.proofs.Pairs.{low_part, high_3, columns_of_xor}
use Rattle.aes_fast.proofs.Steps.{key_bytes, round_by_key, first_key}
use Rattle.aes_fast.proofs.Restored.{word_from-column_from, halves_from-columns_of, bytes-column_from, bytes-mixed_by, column_from_sum, columns_of_sum}
use Rattle.aes_fast.proofs.Shared.{round_last, round-column}

-- ---- the code's words

start_equal : (r s : Start) → r.key ≡ s.key → r.first ≡ s.first → r.second ≡ s.second → r ≡ s
start_equal r s p q e =
    ap (λ (k : ℕ). let made : Start = record { key = k; first = r.first; second = r.second } in made) p
    ∙ ap₂ (λ (w : ℕ) (h : Halves). let made : Start = record { key = s.key; first = w; second = h } in made) q e

last_byte : (h : Halves) → h.second / 72057594037927936 % 256 ≡ shifted (columns_of h) 0 3
last_byte h = high_3 h.second ∙ ap (λ (s : State). shifted s 0 3) (sym (columns_of_is h))

module _ (t : Tables) (ks : List State) (b : List ℕ) where
  pub after_0 : (h k x : Halves) → halves_block h ≡ b → columns_of k ≡ key_bytes (get_or ks 0 []) → halves_block x ≡ xors (halves_block h) (halves_block k)
      → columns_of x ≡ state_after t ks 0 b
  unfolding rounds_by
  after_0 h k x is key e = first_key t ks h k x e key ∙ ap (λ (l : List ℕ). add_round_key (state_from l) (get_or ks 0 [])) is

  -- a round more
  pub after_more : (n : ℕ) (x k y : State) → x ≡ state_after t ks n b → k ≡ key_bytes (get_or ks (suc n) []) → y ≡ round_by t x k → y ≡ state_after t ks (suc n) b
  unfolding rounds_by
  after_more n x k y is key e = round_by_key t x (get_or ks (suc n) []) e key ∙ ap (λ (s : State). round_by t s (get_or ks (suc n) [])) is

  pub start_steps : (r : Start) (x : Halves) (y : ThreeWords) (z add : Halves)
      → columns_of x ≡ state_after t ks 0 b → columns_held y ≡ state_after t ks 1 b → columns_of z ≡ state_after t ks 2 b
      → r.key ≡ get_or (column (get_or ks 0 []) 3) 3 0
      → column_from r.first ≡ add_column (column_from (y.first % 4294967296)) (table_entry t 3 (x.second / 72057594037927936 % 256))
      → columns_of add ≡ column_adds t (column_from (y.first % 4294967296))
      → halves_block r.second ≡ xors (halves_block z) (halves_block add)
      → r.first < 4294967296 → r.second.first < 2 ^ 64 → r.second.second < 2 ^ 64
      → r ≡ start_by t ks b
  start_steps r x y z add ex ey ez key first adds second fits low high =
      let u : column_from (y.first % 4294967296) ≡ column (state_after t ks 1 b) 0 = low_part y.first ∙ ap (λ (s : State). column s 0) ey in
      start_equal r (start_by t ks b) (key ∙ sym (start_key t ks b))
      (word_from-column_from r.first fits
      ∙ ap word_from
      (first ∙ ap₂ (λ (a : Column) (n : ℕ). add_column a (table_entry t 3 n)) u (last_byte x ∙ ap (λ (s : State). shifted s 0 3) ex))
      ∙ sym (start_first t ks b))
      (halves_from-columns_of r.second low high
      ∙ ap halves_from (columns_of_xor z add r.second second ∙ ap₂ add_round_key ez (adds ∙ ap (column_adds t) u))
      ∙ sym (start_second t ks b))

-- ---- the cipher from a start

state_from-with_last : (b : List ℕ) (low : ℕ) → length b ≡ 16
    → state_from (with_last b low)
    ≡ column (state_from b) 0 ∷ column (state_from b) 1 ∷ column (state_from b) 2 ∷ (get_or b 12 0 ∷ get_or b 13 0 ∷ get_or b 14 0 ∷ low ∷ []) ∷ []
state_from-with_last b low e = ap (λ (l : List ℕ). state_from (with_last l low)) (sym (values_list b 0 16 e))

module _ (t : Tables) (ks : List State) (b : List ℕ) (low : ℕ) (keys : (n c : ℕ) → Bytes (column (get_or ks n []) c)) (sixteen : length b ≡ 16) where
  abbrev last : ℕ
  last = bit_xor (get_or b 15 0) (get_or (column (get_or ks 0 []) 3) 3 0)

  abbrev other : ℕ
  other = bit_xor low (get_or (column (get_or ks 0 []) 3) 3 0)

  -- column 0 of round 1, without what the last byte adds
  abbrev first : Column
  first = add_column (column (state_after t ks 1 b) 0) (table_entry t 3 last)

  bytes_1 : Bytes (column (state_after t ks 1 b) 0)
  unfolding rounds_by round_by
  bytes_1 = bytes-mixed_by t _ _ _ _ (column (get_or ks 1 []) 0) (keys 1 0)

  first_restored : column_from (start_by t ks b).first ≡ first
  unfolding rounds_by
  first_restored = ap column_from (start_first t ks b) ∙ column_from_sum (column (state_after t ks 1 b) 0) (table_entry t 3 last) bytes_1 (bytes-column_from _)

  bytes_2 : (c : ℕ) → Bytes (column (state_after t ks 2 b) c)
  unfolding rounds_by round_by
  bytes_2 zero = bytes-mixed_by t _ _ _ _ (column (get_or ks 2 []) 0) (keys 2 0)
  bytes_2 (suc zero) = bytes-mixed_by t _ _ _ _ (column (get_or ks 2 []) 1) (keys 2 1)
  bytes_2 (suc (suc zero)) = bytes-mixed_by t _ _ _ _ (column (get_or ks 2 []) 2) (keys 2 2)
  bytes_2 (suc (suc (suc zero))) = bytes-mixed_by t _ _ _ _ (column (get_or ks 2 []) 3) (keys 2 3)
  bytes_2 (suc (suc (suc (suc c)))) = bytes_nil

  bytes-adds : (a : Column) (c : ℕ) → Bytes (column (column_adds t a) c)
  bytes-adds a zero = bytes-column_from _
  bytes-adds a (suc zero) = bytes-column_from _
  bytes-adds a (suc (suc zero)) = bytes-column_from _
  bytes-adds a (suc (suc (suc zero))) = bytes-column_from _
  bytes-adds a (suc (suc (suc (suc c)))) = bytes_nil

  second_restored : columns_of (start_by t ks b).second ≡ add_round_key (state_after t ks 2 b) (column_adds t (column (state_after t ks 1 b) 0))
  second_restored =
      ap columns_of (start_second t ks b)
      ∙ columns_of_sum (state_after t ks 2 b) (column_adds t (column (state_after t ks 1 b) 0)) bytes_2 (bytes-adds (column (state_after t ks 1 b) 0))

  -- the two rounds of the block with the other last byte
  round_1 : state_after t ks 1 (with_last b low)
      ≡ add_column first (table_entry t 3 other) ∷ column (state_after t ks 1 b) 1 ∷ column (state_after t ks 1 b) 2 ∷ column (state_after t ks 1 b) 3 ∷ []
  unfolding rounds_by
  round_1 =
      ap (λ (s : State). round_by t (add_round_key s (get_or ks 0 [])) (get_or ks 1 [])) (state_from-with_last b low sixteen)
      ∙ round_last t (get_or ks 1 []) _ _ _ _ _ _ last other

  round_2 : state_after t ks 2 (with_last b low)
      ≡ add_round_key (add_round_key (state_after t ks 2 b) (column_adds t (column (state_after t ks 1 b) 0))) (column_adds t (add_column first (table_entry t 3 other)))
  unfolding rounds_by round_by
  round_2 =
      ap (λ (s : State). round_by t s (get_or ks 2 [])) round_1
      ∙ round-column t (get_or ks 2 []) (column (state_after t ks 1 b) 0) (column (state_after t ks 1 b) 1) (column (state_after t ks 1 b) 2) (column (state_after t ks 1 b) 3)
      (add_column first (table_entry t 3 other))

  begun_is : begun_by t (start_by t ks b) low ≡ state_after t ks 2 (with_last b low)
  unfolding begun_by
  begun_is =
      ap₂ (λ (s : State) (a : Column). add_round_key s (column_adds t a)) second_restored
      (ap₂ (λ (a : Column) (k : ℕ). add_column a (table_entry t 3 (bit_xor low k))) first_restored (start_key t ks b))
      ∙ sym round_2

  pub from_start : cipher_from t ks (start_by t ks b) low ≡ cipher_by t ks (with_last b low)
  unfolding rounds_after rounds_by
  from_start =
      cipher_from_is t ks (start_by t ks b) low
      ∙ ap (λ (s : State). bytes_of (later_rounds_by t ks 2 s)) begun_is
      ∙ sym (cipher_by_is t ks (with_last b low))

pub bytes-with_last : {b : List ℕ} {low : ℕ} → Bytes b → low < 256 → Bytes (with_last b low)
bytes-with_last h l = bytes_append (bytes_take 15 h) (bytes_cons l bytes_nil)

-- ---- the code's state after round 2

pub begun_steps : (t : Tables) (s : Start) (low last : ℕ) (u : Column) (add r : Halves) → last ≡ bit_xor low s.key → last < 256
    → u ≡ add_column (column_from s.first) (table_entry t 3 (last % 256)) → columns_of add ≡ column_adds t u
    → halves_block r ≡ xors (halves_block s.second) (halves_block add) → columns_of r ≡ begun_by t s low
unfolding begun_by
begun_steps t s low last u add r is fits e adds sum =
    let same : last % 256 ≡ last = omega arith in
    columns_of_xor s.second add r sum ∙ ap (add_round_key (columns_of s.second)) (adds ∙ ap (column_adds t) (e ∙ ap (λ (n : ℕ). add_column (column_from s.first) (table_entry t 3 n)) (same ∙ is)))
