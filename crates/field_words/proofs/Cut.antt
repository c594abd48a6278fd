-- A word that is a name, `=` and digits is cut there, and one that is cut so is such a word.
-- Assumes nothing.
use mathlib.Core.Path.{◌≡◌, refl, sym, ap, ap₂, ◌∙◌}
use mathlib.Core.Bool.{Bool, true, false, not, false≢true}
use mathlib.Core.List.{List, [], ◌∷◌, ◌++◌}
use Prim.Native.Nat.{ℕ, suc, ◌+◌, ◌≤◌, ◌<◌}
use native.Mathlib.Numerals.{add-one}
use native.Mathlib.Omega.{arith}
use lib.Dec.{eqb, ltb}
use lib.ListN.{length, get_or, drop, drop_of_length-le}
use lib.Seq.{split_at, take_at, drop-append-add}
use borrow.Author.Tests.{eqb-true, ltb-true, ltb-false}
use Rattle.octets.specs.Same.{same}
use Rattle.octets.specs.Tests.{all}
use Rattle.octets.specs.Values.{values}
use Rattle.octets.proofs.Same.{same_equal}
use Rattle.octets.proofs.Tests.{all_at, part-rest}
use Rattle.octets.proofs.Values.{get_d-values}
use Rattle.wording.specs.Number.{is_decimal}
use Rattle.field_words.specs.Words.{first_place, equals_sign, is_equals, equals_at, word_name, word_value, field_names, field_name_count, field_number, field_word}
use Rattle.field_words.specs.Laws.{Names}
use Rattle.field_words.proofs.First.{first_found, first_after}

-- ---- the names: each is found at its own place, and none has a `=` in it

is_own : ℕ → Bool
is_own i = eqb (first_place (same (get_or field_names i [])) field_names) i

own-place : (i : ℕ) → i < field_name_count → first_place (same (get_or field_names i [])) field_names ≡ i
unfolding first_place same all is_own field_names
own-place i h =
    let numbers : List ℕ = values (λ k. k) 0 field_name_count in
    let here : get_or numbers i 0 ≡ i = get_d-values (λ k. k) 0 field_name_count i 0 h ∙ omega arith in
    eqb-true (first_place (same (get_or field_names i [])) field_names) i (ap is_own (sym here) ∙ all_at is_own numbers i 0 refl h)

plain : List ℕ → Bool
plain name = all (λ c. not (is_equals c)) name

name-plain : (i : ℕ) → i < field_name_count → plain (get_or field_names i []) ≡ true
unfolding all plain field_names
name-plain i h = all_at plain field_names i [] refl h

-- ---- from the word to its parts

module _ (i : ℕ) (value : List ℕ) (listed : i < field_name_count) where
  abbrev name : List ℕ
  name = get_or field_names i []

  cut_at : equals_at (field_word i value) ≡ length name
  unfolding plain
  cut_at = first_after is_equals name equals_sign value (name-plain i listed) refl

  name-cut : word_name (field_word i value) ≡ name
  name-cut = take_at name (equals_sign ∷ value) (equals_at (field_word i value)) (sym cut_at)

  pub value-cut : word_value (field_word i value) ≡ value
  value-cut =
      part-rest (field_word i value) (equals_at (field_word i value) + 1)
      ∙ ap (λ (k : ℕ). drop (k + 1) (field_word i value)) cut_at
      ∙ drop-append-add name (equals_sign ∷ value) 1

  pub number_cut : field_number (field_word i value) ≡ i
  number_cut = ap (λ (s : List ℕ). first_place (same s) field_names) name-cut ∙ own-place i listed

-- ---- and from its parts to the word

module _ (word : List ℕ) (listed : field_number word < field_name_count) (digits : is_decimal (word_value word) ≡ true) where
  name_found : word_name word ≡ get_or field_names (field_number word) []
  unfolding field_names
  name_found = same_equal (word_name word) (get_or field_names (field_number word) []) (first_found (same (word_name word)) field_names [] listed)

  has_equals : equals_at word < length word
  unfolding is_decimal
  has_equals = go (ltb (equals_at word) (length word)) refl
    where
      go : (t : Bool) → ltb (equals_at word) (length word) ≡ t → equals_at word < length word
      go true e = ltb-true (equals_at word) (length word) e
      go false e =
          let past : length word ≤ equals_at word = ltb-false (equals_at word) (length word) e in
          let none : word_value word ≡ [] = part-rest word (equals_at word + 1) ∙ drop_of_length-le word {i = equals_at word + 1} (omega arith) in
          absurd (false≢true (rw none at digits))

  equals_there : get_or word (equals_at word) 0 ≡ equals_sign
  equals_there = eqb-true (get_or word (equals_at word) 0) equals_sign (first_found is_equals word 0 has_equals)

  pub parts_name : Names word (field_number word) (word_value word)
  parts_name = record {
    listed = listed;
    written =
        split_at word (equals_at word) 0 has_equals
        ∙ ap₂ (λ (s : List ℕ) (c : ℕ). s ++ c ∷ drop (suc (equals_at word)) word) name_found equals_there
        ∙ ap (λ (l : List ℕ). field_word (field_number word) l) (ap (λ (k : ℕ). drop k word) (sym (add-one (equals_at word))) ∙ sym (part-rest word (equals_at word + 1)));
    are_digits = digits;
  }
