-- A word is taken, or it spoils the fields: which, by what it names.
-- Assumes nothing.
use mathlib.Core.Path.{◌≡◌, refl, sym, ap, ap₂, ◌∙◌}
use mathlib.Core.Logic.{◌⊎◌, inl, inr}
use mathlib.Core.Bool.{Bool, true, false}
use mathlib.Core.List.{List}
use Prim.Native.Nat.{ℕ, min}
use Rattle.std.specs.Prelude.{Option, Some, None}
use Rattle.wording.specs.Decimal.{value_of}
use Rattle.wording.specs.Number.{greatest, number_read}
use Rattle.wording.proofs.NumberLaws.{number_exactly}
use Rattle.field_words.specs.Words.{word_value, field_number}
use Rattle.field_words.specs.Fields.{Fields, spoiled, is_free, with_field, taken_as, name_field}
use Rattle.field_words.specs.Laws.{Names, NamesOne}
use Rattle.field_words.proofs.Cut.{value-cut, number_cut, parts_name}
use Rattle.field_words.proofs.Step.{taken_none, taken_twice, taken_free, free_below}

-- ---- what a word names is what it is cut into

module _ {word : List ℕ} {i : ℕ} {digits : List ℕ} (names : Names word i digits) where
  names-number : field_number word ≡ i
  names-number = ap field_number names.written ∙ number_cut i digits names.listed

  names_value : word_value word ≡ digits
  names_value = ap word_value names.written ∙ value-cut i digits names.listed

  names_read : number_read (word_value word) ≡ Some (min (value_of digits) greatest)
  names_read = ap number_read names_value ∙ (number_exactly digits (min (value_of digits) greatest)).1 (names.are_digits, refl)

  pub name_taken : (f : Fields) → is_free f i ≡ true → name_field f word ≡ with_field f i (min (value_of digits) greatest)
  unfolding name_field
  name_taken f free = ap₂ (taken_as f) names-number names_read ∙ taken_free f i (min (value_of digits) greatest) free

pub names-one : NamesOne
names-one word i j d e a b = (sym (names-number a) ∙ names-number b, sym (names_value a) ∙ names_value b)

-- ---- the two cases

pub record Took (f : Fields) (word : List ℕ) : Type 0 where
  pub number : ℕ
  pub digits : List ℕ
  pub names : Names word number digits
  pub free : is_free f number ≡ true
  pub is : name_field f word ≡ with_field f number (min (value_of digits) greatest)

pub took_or-spoiled : (f : Fields) (word : List ℕ) → Took f word ⊎ (name_field f word ≡ spoiled f)
unfolding name_field
took_or-spoiled f word = go (number_read (word_value word)) (is_free f i) refl refl
  where
    i : ℕ
    i = field_number word

    go : (o : Option ℕ) (t : Bool) → number_read (word_value word) ≡ o → is_free f i ≡ t → Took f word ⊎ (name_field f word ≡ spoiled f)
    go None t reads e = inr (rw reads (taken_none f i))
    go (Some n) false reads e = inr (rw reads (taken_twice f i n e))
    go (Some n) true reads e =
        let named : Names word i (word_value word) = parts_name word (free_below f i e) ((number_exactly (word_value word) n).0 reads).0 in
        inl record { number = i; digits = word_value word; names = named; free = e; is = name_taken named f e }
