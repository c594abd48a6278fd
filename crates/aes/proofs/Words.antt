-- FIPS 197's word loop, read at a word's place, and the code's schedule four words at a time: they are one.
-- Assumes nothing.
use mathlib.Core.Path.{◌≡◌, refl, sym, ap, ap₂, subst, ◌∙◌}
use mathlib.Core.List.{List, [], ◌∷◌, ◌++◌}
use Prim.Native.Nat.{ℕ, zero, suc, ◌+◌, ◌-◌, ◌*◌, ◌%◌, ◌≤◌, ◌<◌}
use native.Mathlib.Nat.{add-zero, zero-add}
use native.Mathlib.Omega.{arith}
use lib.Dec.{lit<, lit≤}
use lib.ListN.{length, get_or, take, drop, length-append, get_or-append}
use lib.Seq.{get_or_at}
use Rattle.octets.specs.Values.{values}
use Rattle.octets.proofs.Values.{get_d-values, values_more, values_list, four}
use Rattle.aes_field.specs.Words.{Column}
use Rattle.aes.specs.State.{State, column, state_of, state_from}
use Rattle.aes.specs.Cipher.{add_column}
use Rattle.aes.specs.KeyExpansion.{temp, key_word, words, round_key, schedule, next_key, extended}
use Rattle.aes.specs.KeyExpansion.Inside.{schedule_is}
use Rattle.aes.proofs.Extended.{temp_other}

module _ (key : List ℕ) where
  length-words : (n : ℕ) → length (words key n) ≡ 8 + n
  unfolding words
  length-words zero = refl
  length-words (suc n) = length-append (words key n) _ ∙ omega (arith, length-words n)

  -- a word stays where it is
  word_kept : (n m i : ℕ) → i < 8 + n → get_or (words key (n + m)) i [] ≡ get_or (words key n) i []
  unfolding words
  word_kept n zero i h = ap (λ (k : ℕ). get_or (words key k) i []) (add-zero n)
  word_kept n (suc m) i h =
      let next : n + suc m ≡ suc (n + m) = omega arith in
      ap (λ (k : ℕ). get_or (words key k) i []) next
      ∙ get_or-append (words key (n + m)) _ [] i (omega (arith, length-words (n + m)))
      ∙ word_kept n m i h

  -- word 8 + n, among the first 8 + n + 1
  word_made : (n : ℕ) → get_or (words key (suc n)) (8 + n) [] ≡ add_column (get_or (words key n) n []) (temp (8 + n) (get_or (words key n) (7 + n) []))
  unfolding words
  word_made n = get_or_at (words key n) _ [] [] (8 + n) (length-words n)

  -- the loop's equation, over all 60 words
  pub word_next : (n : ℕ) → n < 52 → get_or (words key 52) (8 + n) [] ≡ add_column (get_or (words key 52) n []) (temp (8 + n) (get_or (words key 52) (7 + n) []))
  word_next n h =
      at (suc n) (8 + n) h (omega arith) ∙ word_made n
      ∙ sym (ap₂ (λ (a b : Column). add_column a (temp (8 + n) b)) (at n n (omega arith) (omega arith)) (at n (7 + n) (omega arith) (omega arith)))
    where
      at : (m i : ℕ) → m ≤ 52 → i < 8 + m → get_or (words key 52) i [] ≡ get_or (words key m) i []
      at m i le lt = ap (λ (k : ℕ). get_or (words key k) i []) sum ∙ word_kept m (52 - m) i lt
        where
          sum : 52 ≡ m + (52 - m)
          sum = omega arith

-- four words, each made of the one before
next-key : (k : State) (t a b c d : Column) → add_column (column k 0) t ≡ a → add_column (column k 1) a ≡ b → add_column (column k 2) b ≡ c → add_column (column k 3) c ≡ d
    → next_key k t ≡ a ∷ b ∷ c ∷ d ∷ []
next-key k t a b c d p q r s =
    let third : Column → Column = add_column (column k 2) in
    let fourth : Column → Column = add_column (column k 3) in
    ap (λ (x : Column). x ∷ add_column (column k 1) x ∷ third (add_column (column k 1) x) ∷ fourth (third (add_column (column k 1) x)) ∷ []) p
    ∙ ap (λ (x : Column). a ∷ x ∷ third x ∷ fourth (third x) ∷ []) q
    ∙ ap (λ (x : Column). a ∷ b ∷ x ∷ fourth x ∷ []) r ∙ ap (λ (x : Column). a ∷ b ∷ c ∷ x ∷ []) s

-- any words in which the loop's equation holds
module _ (w : List Column) (next : (n : ℕ) → n < 52 → get_or w (8 + n) [] ≡ add_column (get_or w n []) (temp (8 + n) (get_or w (7 + n) []))) where
  changed : (i j k t : ℕ) → i < 52 → t ≡ 8 + i → j ≡ 8 + i → k ≡ 7 + i → add_column (get_or w i []) (temp t (get_or w k [])) ≡ get_or w j []
  changed i j k t h et ej ek = rw (et, ej, ek) (sym (next i h))

  added : (i j k : ℕ) → (i % 4 ≡ 0 → ⊥) → i < 52 → j ≡ 8 + i → k ≡ 7 + i → add_column (get_or w i []) (get_or w k []) ≡ get_or w j []
  added i j k other h ej ek = ap (add_column (get_or w i [])) (sym (temp_other i (get_or w k []) other)) ∙ changed i j k (8 + i) h refl ej ek

  -- round key n + 2 from the two before
  round_key_next : (n : ℕ) → n < 13 → next_key (round_key w n) (temp (8 + 4 * n) (column (round_key w (n + 1)) 3)) ≡ round_key w (n + 2)
  round_key_next n h =
      next-key (round_key w n) (temp (8 + 4 * n) (get_or w (4 * (n + 1) + 3) [])) _ _ _ _
      (changed (4 * n + 0) (4 * (n + 2) + 0) (4 * (n + 1) + 3) (8 + 4 * n) (omega arith) (omega arith) (omega arith) (omega arith))
      (added (4 * n + 1) (4 * (n + 2) + 1) (4 * (n + 2) + 0) (λ e. omega arith) (omega arith) (omega arith) (omega arith))
      (added (4 * n + 2) (4 * (n + 2) + 2) (4 * (n + 2) + 1) (λ e. omega arith) (omega arith) (omega arith) (omega arith))
      (added (4 * n + 3) (4 * (n + 2) + 3) (4 * (n + 2) + 2) (λ e. omega arith) (omega arith) (omega arith) (omega arith))

  extended_round_keys : (n : ℕ) → n ≤ 13 → extended (round_key w 0 ∷ round_key w 1 ∷ []) n ≡ values (round_key w) 0 (n + 2)
  unfolding extended
  extended_round_keys zero h = refl
  extended_round_keys (suc n) h =
      let more : extended (round_key w 0 ∷ round_key w 1 ∷ []) n ≡ values (round_key w) 0 (n + 2) = extended_round_keys n (omega arith) in
      let one : n + 2 + 1 ≡ suc n + 2 = omega arith in
      let at : (k : ℕ) → k < n + 2 → get_or (values (round_key w) 0 (n + 2)) k [] ≡ round_key w k = λ k lt. get_d-values (round_key w) 0 (n + 2) k [] lt ∙ ap (round_key w) (zero-add k) in
      ap (λ (l : List State). l ++ next_key (get_or l n []) (temp (8 + 4 * n) (column (get_or l (n + 1) []) 3)) ∷ []) more
      ∙ ap₂ (λ (a b : State). values (round_key w) 0 (n + 2) ++ next_key a (temp (8 + 4 * n) (column b 3)) ∷ []) (at n (omega arith)) (at (n + 1) (omega arith))
      ∙ ap (λ (k : State). values (round_key w) 0 (n + 2) ++ k ∷ []) (round_key_next n (omega arith) ∙ ap (round_key w) (sym (zero-add (n + 2))))
      ∙ sym (values_more (round_key w) 0 (n + 2)) ∙ ap (values (round_key w) 0) one

-- the code's schedule is FIPS 197's word loop
pub extended-schedule : (key : List ℕ) → extended (state_of (key_word key) ∷ state_of (λ c. key_word key (4 + c)) ∷ []) 13 ≡ schedule key
unfolding words
extended-schedule key =
    ap₂ (λ (a b : State). extended (a ∷ b ∷ []) 13) first second
    ∙ extended_round_keys (words key 52) (word_next key) 13 (lit≤ tt)
    ∙ sym (schedule_is key)
  where
    at : (i : ℕ) → i < 8 → key_word key i ≡ get_or (words key 52) i []
    at i h = sym (get_d-values (key_word key) 0 8 i [] h ∙ ap (key_word key) (zero-add i)) ∙ sym (word_kept key 0 52 i h)

    first : state_of (key_word key) ≡ round_key (words key 52) 0
    first = four (at 0 (lit< tt)) (at 1 (lit< tt)) (at 2 (lit< tt)) (at 3 (lit< tt))

    second : state_of (λ c. key_word key (4 + c)) ≡ round_key (words key 52) 1
    second = four (at 4 (lit< tt)) (at 5 (lit< tt)) (at 6 (lit< tt)) (at 7 (lit< tt))

-- the first two round keys, by the halves of a key of 32 bytes
module _ (key : List ℕ) (size : length key ≡ 32) where
  pub front_key : state_from (take 16 key) ≡ state_of (key_word key)
  front_key = subst (λ (l : List ℕ). state_from (take 16 l) ≡ state_of (key_word l)) (values_list key 0 32 size) refl

  pub back_key : state_from (drop 16 key) ≡ state_of (λ c. key_word key (4 + c))
  back_key = subst (λ (l : List ℕ). state_from (drop 16 l) ≡ state_of (λ c. key_word l (4 + c))) (values_list key 0 32 size) refl
