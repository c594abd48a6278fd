-- What the right tables have for a byte; and how they are tested: the first by its rule, and each other as the first with its columns turned.
-- Assumes nothing.
use mathlib.Core.Path.{◌≡◌, refl, sym, ap, ap₂, subst, ◌∙◌}
use mathlib.Core.Bool.{Bool, true, false, ◌&&◌, false≢true}
use mathlib.Core.List.{List, [], ◌∷◌}
use Prim.Native.Nat.{ℕ, zero, suc, ◌+◌, ◌-◌, ◌/◌, ◌%◌, ◌<◌}
use native.Mathlib.Nat.{zero-add}
use borrow.Author.Tests.{eqb-true}
use lib.Dec.{T, eqb}
use lib.ListN.{length, get_or}
use Rattle.octets.specs.Bytes.{Bytes}
use Rattle.octets.specs.Values.{values}
use Rattle.octets.proofs.Values.{get_d-values, values_same, four}
use Rattle.octets.proofs.Bytes.{bytes_nil, bytes_cons}
use Rattle.octets.proofs.Tests.{and_left, and_right}
use Rattle.aes_field.specs.Field.{sbox}
use Rattle.aes_field.specs.Words.{Column}
use Rattle.aes_field.proofs.Computed.{computed, follows, follows_values}
use Rattle.aes_field.proofs.Linear.{times_byte}
use Rattle.aes_field.proofs.Inverse.{sbox_byte}
use Rattle.aes_fast.specs.ByTables.{Tables, column_from, table_entry}
use Rattle.aes_fast.specs.ByTables.Inside.{column_from_is}
use Rattle.aes_fast.specs.Right.{word_from, spread, turned, added, round_table, Right}
use Rattle.aes_fast.specs.Right.Inside.{round_tables_is, right_is}
use Rattle.aes_fast.proofs.Columns.{column_from-word_from}

spread_bytes : {a : ℕ} → a < 256 → Bytes (spread a)
spread_bytes h = bytes_cons (times_byte 2 h) (bytes_cons h (bytes_cons h (bytes_cons (times_byte 3 h) bytes_nil)))

-- what the byte a in row n adds, once substituted
abbrev pub rule : ℕ → ℕ → ℕ
rule n a = word_from (added n (sbox a))

column_from_rule : (n a : ℕ) → a < 256 → column_from (rule n a) ≡ added n (sbox a)
column_from_rule n a h =
    column_from-word_from (λ r. get_or (spread (sbox a)) ((r + 4 - n) % 4) 0) (λ r. (spread_bytes (sbox_byte a h)).byte ((r + 4 - n) % 4))

column_from_entry : (n a : ℕ) → a < 256 → column_from (get_or (round_table n) a 0) ≡ added n (sbox a)
column_from_entry n a h = ap column_from (get_d-values (rule n) 0 256 a 0 h ∙ ap (rule n) (zero-add a)) ∙ column_from_rule n a h

module _ (t : Tables) (right : Right t) where
  table_is : (n : ℕ) → get_or t n [] ≡ get_or (round_table 0 ∷ round_table 1 ∷ round_table 2 ∷ round_table 3 ∷ []) n []
  table_is n = ap (λ (l : Tables). get_or l n []) (right_is right ∙ round_tables_is)

  entry_is : (n : ℕ) → get_or t n [] ≡ round_table n → (a : ℕ) → a < 256 → table_entry t n a ≡ added n (sbox a)
  entry_is n e a h = ap (λ (l : List ℕ). column_from (get_or l a 0)) e ∙ column_from_entry n a h

  pub entry_0 : (a : ℕ) → a < 256 → table_entry t 0 a ≡ added 0 (sbox a)
  entry_0 = entry_is 0 (table_is 0)

  pub entry_1 : (a : ℕ) → a < 256 → table_entry t 1 a ≡ added 1 (sbox a)
  entry_1 = entry_is 1 (table_is 1)

  pub entry_2 : (a : ℕ) → a < 256 → table_entry t 2 a ≡ added 2 (sbox a)
  entry_2 = entry_is 2 (table_is 2)

  pub entry_3 : (a : ℕ) → a < 256 → table_entry t 3 a ≡ added 3 (sbox a)
  entry_3 = entry_is 3 (table_is 3)

-- ---- the test

-- the column of a word, turned
abbrev turned_word : ℕ → ℕ → ℕ
turned_word n w = word_from (turned n (w % 256 ∷ w / 256 % 256 ∷ w / 65536 % 256 ∷ w / 16777216 % 256 ∷ []))

-- each entry of the second table is what g makes of the first's
abbrev makes : (ℕ → ℕ) → List ℕ → List ℕ → Bool
makes g [] [] = true
makes g [] (y ∷ t) = false
makes g (x ∷ s) [] = false
makes g (x ∷ s) (y ∷ t) = eqb y (g x) && makes g s t

abbrev pub turns : ℕ → List ℕ → List ℕ → Bool
turns n = makes (turned_word n)

makes-values : (g f : ℕ → ℕ) (i n : ℕ) (t : List ℕ) → makes g (values f i n) t ≡ true → t ≡ values (λ k. g (f k)) i n
makes-values g f i zero [] h = refl
makes-values g f i zero (y ∷ t) h = absurd (false≢true h)
makes-values g f i (suc n) [] h = absurd (false≢true h)
makes-values g f i (suc n) (y ∷ t) h =
    ap₂ ◌∷◌ (eqb-true y (g (f i)) (and_left (eqb y (g (f i))) (makes g (values f (suc i) n) t) h))
    (makes-values g f (suc i) n t (and_right (eqb y (g (f i))) (makes g (values f (suc i) n) t) h))

turned_rule : (n a : ℕ) → a < 256 → turned_word n (rule 0 a) ≡ rule n a
turned_rule n a h = ap (λ (c : Column). word_from (turned n c)) (sym (column_from_is (rule 0 a)) ∙ column_from_rule 0 a h)

module _ (a b c d : List ℕ) where
  pub tables_tested : T (follows (rule 0) 0 a) → length a ≡ 256 → T (turns 1 a b) → T (turns 2 a c) → T (turns 3 a d)
      → a ∷ b ∷ c ∷ d ∷ [] ≡ round_table 0 ∷ round_table 1 ∷ round_table 2 ∷ round_table 3 ∷ []
  tables_tested ta size tb tc td = four first (other 1 b tb) (other 2 c tc) (other 3 d td)
    where
      first : a ≡ round_table 0
      first = follows_values (rule 0) 0 a ta ∙ ap (values (rule 0) 0) size

      other : (n : ℕ) (t : List ℕ) → T (turns n a t) → t ≡ round_table n
      other n t h =
          makes-values (turned_word n) (rule 0) 0 256 t (subst (λ (s : List ℕ). turns n s t ≡ true) first (computed (turns n a t) h))
          ∙ values_same (λ k. turned_word n (rule 0 k)) (rule n) 0 256 (λ k lo hi. turned_rule n k hi)
