-- The rounds by tables as the loops count them, and a block by halves from its first round key to its last round.
-- Assumes nothing.
use mathlib.Core.Path.{◌≡◌, refl, sym, ap, ap₂, ◌∙◌}
use mathlib.Core.List.{List, []}
use Prim.Native.Nat.{ℕ, suc, ◌+◌, ◌-◌, ◌<◌}
use native.Mathlib.Numerals.{add-one}
use native.Mathlib.Omega.{arith}
use lib.ListN.{get_or, take, drop}
use Rattle.std.proofs.Common.{get_or-take, get_or-drop}
use Rattle.octets.specs.Xor.{xors}
use Rattle.aes.specs.State.{State, column, state_of, state_from, column_bytes, bytes_of}
use Rattle.aes.specs.Cipher.{add_round_key}
use Rattle.aes_fast.specs.ByTables.{Tables, round_by, last_round_by, rounds_by, rounds_after, later_rounds_by, cipher_by}
use Rattle.aes_fast.specs.ByTables.Inside.{cipher_by_is}
use Rattle.aes_fast.specs.Halves.{columns_of, halves_block}
use Rattle.aes_fast.specs.Halves.Inside.{halves_block_is}
use Rattle.aes_fast.specs.Start.{begun_by, cipher_from}
use Rattle.aes_fast.specs.Start.Inside.{cipher_from_is}
use Rattle.aes_fast.specs.declared.halves.Halves.{Halves}
use Rattle.aes_fast.specs.declared.start.Start.{Start}
use Rattle.aes_fast.proofs.Pairs.{columns_of_block, columns_of_xor}

-- a round key as the words hold it: four rows of each column
abbrev pub key_bytes : State → State
key_bytes k = state_of (λ c. column_bytes (column k c))

module _ (t : Tables) where
  -- a round reads no more of its key
  pub round_by_key : (x : State) {y u : State} (k : State) → u ≡ round_by t x y → y ≡ key_bytes k → u ≡ round_by t x k
  unfolding round_by
  round_by_key x k e f = e ∙ ap (round_by t x) f

  pub last_round_by_key : (x : State) {y u : State} (k : State) → u ≡ last_round_by t x y → y ≡ key_bytes k → u ≡ last_round_by t x k
  unfolding last_round_by
  last_round_by_key x k e f = e ∙ ap (last_round_by t x) f

-- one of the round keys between the first m + 1 and the last
pub middle_key : (ks middle : List State) (m n : ℕ) → middle ≡ take (13 - m) (drop (m + 1) ks) → n < 13 - m → get_or middle n [] ≡ get_or ks (m + suc n) []
middle_key ks middle m n e lt =
    ap (λ (l : List State). get_or l n []) e ∙ get_or-take (13 - m) (drop (m + 1) ks) n [] lt ∙ get_or-drop (m + 1) ks n [] ∙ ap (λ (i : ℕ). get_or ks i []) place
  where
    place : m + 1 + n ≡ m + suc n
    place = omega arith

module _ (t : Tables) (ks : List State) where
  pub rounds_after-none : (m : ℕ) (s : State) → s ≡ rounds_after t ks m 0 s
  unfolding rounds_after
  rounds_after-none m s = refl

  pub rounds_after_more : (m n : ℕ) (s : State) {x u : State} → x ≡ rounds_after t ks m n s → u ≡ round_by t x (get_or ks (m + suc n) []) → u ≡ rounds_after t ks m (n + 1) s
  unfolding rounds_after
  rounds_after_more m n s p q =
      q ∙ ap (λ (y : State). round_by t y (get_or ks (m + suc n) [])) p ∙ ap (λ (i : ℕ). rounds_after t ks m i s) (sym (add-one n))

  -- the rounds after the first m, and the last
  pub last_rounds : (m n : ℕ) (s x r : State) → n ≡ 13 - m → r ≡ last_round_by t x (get_or ks 14 []) → x ≡ rounds_after t ks m n s
      → r ≡ later_rounds_by t ks m s
  last_rounds m n s x r all e f =
      e ∙ ap (λ (y : State). last_round_by t y (get_or ks 14 [])) (f ∙ ap (λ (i : ℕ). rounds_after t ks m i s) all)

  -- ---- from a block's halves to the halves of its cipher

  pub first_key : (h k x : Halves) → halves_block x ≡ xors (halves_block h) (halves_block k) → columns_of k ≡ key_bytes (get_or ks 0 [])
      → columns_of x ≡ add_round_key (state_from (halves_block h)) (get_or ks 0 [])
  first_key h k x e f = columns_of_xor h k x e ∙ ap₂ add_round_key (columns_of_block h) f

  block-of : (r : Halves) {x : State} → columns_of r ≡ x → halves_block r ≡ bytes_of x
  block-of r e = halves_block_is r ∙ ap bytes_of e

  cipher_by-all : (b : List ℕ) (x : State) (r : Halves) → x ≡ add_round_key (state_from b) (get_or ks 0 [])
      → columns_of r ≡ later_rounds_by t ks 0 x → halves_block r ≡ cipher_by t ks b
  unfolding rounds_after rounds_by
  cipher_by-all b x r e f = block-of r f ∙ ap (λ (s : State). bytes_of (last_round_by t (rounds_by t ks 13 s) (get_or ks 14 []))) e ∙ sym (cipher_by_is t ks b)

  -- from the block b: its halves h, with the key k the halves x, and those as the state s
  pub cipher_by_read : {b : List ℕ} (h k x r : Halves) {s : State} → halves_block h ≡ b → columns_of k ≡ key_bytes (get_or ks 0 [])
      → halves_block x ≡ xors (halves_block h) (halves_block k) → s ≡ columns_of x → columns_of r ≡ later_rounds_by t ks 0 s → halves_block r ≡ cipher_by t ks b
  cipher_by_read h k x r {s} read key added e f = cipher_by-all (halves_block h) s r (e ∙ first_key h k x added key) f ∙ ap (cipher_by t ks) read

  pub cipher_by_two : (b : List ℕ) (x y z : State) (r : Halves) → x ≡ add_round_key (state_from b) (get_or ks 0 [])
      → y ≡ round_by t x (get_or ks 1 []) → z ≡ round_by t y (get_or ks 2 [])
      → columns_of r ≡ later_rounds_by t ks 2 z → halves_block r ≡ cipher_by t ks b
  unfolding rounds_after rounds_by
  cipher_by_two b x y z r e₁ e₂ e₃ f =
      block-of r f
      ∙ ap (λ (s : State). bytes_of (later_rounds_by t ks 2 s))
      (e₃ ∙ ap (λ (s : State). round_by t s (get_or ks 2 [])) (e₂ ∙ ap (λ (s : State). round_by t s (get_or ks 1 [])) e₁))
      ∙ sym (cipher_by_is t ks b)

  pub cipher_from_begun : (s : Start) (low : ℕ) (x : State) (r : Halves) → x ≡ begun_by t s low
      → columns_of r ≡ later_rounds_by t ks 2 x → halves_block r ≡ cipher_from t ks s low
  cipher_from_begun s low x r e f =
      block-of r f
      ∙ ap (λ (y : State). bytes_of (later_rounds_by t ks 2 y)) e
      ∙ sym (cipher_from_is t ks s low)
