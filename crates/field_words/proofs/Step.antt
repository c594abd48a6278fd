-- The fields after a word more, case by case.
-- Assumes nothing.
use mathlib.Core.Path.{◌≡◌, refl, sym, ap, ap₂, ◌∙◌}
use mathlib.Core.Bool.{Bool, true, false, not}
use mathlib.Core.List.{List}
use Prim.Native.Nat.{ℕ, ◌<◌}
use lib.Dec.{ltb}
use lib.ListN.{get_or, set}
use borrow.Author.Tests.{ltb-true, lt-ltb, not-true}
use Rattle.std.specs.Prelude.{Option, Some, None, is_some, map}
use Rattle.std.specs.List.{position}
use Rattle.std.proofs.Math.ListN.{get_or-map}
use Rattle.std.proofs.Math.Seq.{map-set_same}
use Rattle.std.proofs.lemmas.List.{map-set}
use Rattle.octets.specs.Same.{same}
use Rattle.octets.proofs.Tests.{and_left, and_right}
use Rattle.wording.specs.Number.{number_read}
use Rattle.field_words.specs.Given.{value_given, is_given, unnamed_of, fields_given, unnamed_in}
use Rattle.field_words.specs.declared.Field.{Field}
use Rattle.field_words.specs.declared.Fields.{Fields as Given}
use Rattle.field_words.proofs.First.{place_some, place_none}
use Rattle.field_words.specs.Words.{first_place, word_name, word_value, field_names, field_name_count, field_number}
use Rattle.field_words.specs.Fields.{Fields, spoiled, is_free, with_field, taken_as, name_field}

module _ (f : Fields) (i : ℕ) where
  pub taken_none : taken_as f i None ≡ spoiled f
  unfolding taken_as
  taken_none = refl

  module _ (n : ℕ) where
    pub taken_twice : is_free f i ≡ false → taken_as f i (Some n) ≡ spoiled f
    unfolding taken_as
    taken_twice e = rw e

    pub taken_free : is_free f i ≡ true → taken_as f i (Some n) ≡ with_field f i n
    unfolding taken_as
    taken_free e = rw e

  module _ (free : is_free f i ≡ true) where
    pub free_below : i < field_name_count
    unfolding is_free
    free_below = ltb-true i field_name_count (and_left (ltb i field_name_count) (not (get_or f.named i false)) free)

    pub free_unnamed : get_or f.named i false ≡ false
    unfolding is_free
    free_unnamed = not-true _ (and_right (ltb i field_name_count) (not (get_or f.named i false)) free)

  pub unnamed_free : i < field_name_count → get_or f.named i false ≡ false → is_free f i ≡ true
  unfolding is_free
  unnamed_free h e = rw (lt-ltb i field_name_count h, e)

-- by what was found on the way: the name, the number of its field, the text of the value, and what that is read as
pub named_as : (f : Fields) (word : List ℕ) {name value : List ℕ} {i : ℕ} {o : Option ℕ} → name ≡ word_name word → i ≡ first_place (same name) field_names
    → value ≡ word_value word → o ≡ number_read value → name_field f word ≡ taken_as f i o
unfolding name_field
named_as f word names number values reads =
    ap₂ (taken_as f) (ap (λ (s : List ℕ). first_place (same s) field_names) (sym names) ∙ sym number) (ap number_read (sym values) ∙ sym reads)

-- a number that is no field's
pub taken_past : (f : Fields) (o : Option ℕ) → taken_as f field_name_count o ≡ spoiled f
unfolding taken_as is_free
taken_past f None = refl
taken_past f (Some n) = refl

-- ---- the same of the fields that the code has, by what is found of the word

pub listed : (name : List ℕ) (i : ℕ) → position (same name) field_names ≡ Some i → i < field_name_count
unfolding field_names
listed name i e = (place_some (same name) field_names (sym e)).1

-- field i
abbrev pub found : Given → ℕ → Field
found f i = get_or f.fields i (record { given = None; unnamed = 0 })

-- with a number that a word gave field i
abbrev pub given_to : Given → ℕ → ℕ → ℕ → Given
given_to f i n unnamed = record { fields = set f.fields i (record { given = Some n; unnamed = unnamed }) }

module _ (f : Given) where
  pub given_kept : (i n : ℕ) → unnamed_in (given_to f i n (found f i).unnamed) ≡ unnamed_in f
  given_kept i n = map-set_same unnamed_of f.fields i (record { given = Some n; unnamed = (found f i).unnamed }) (record { given = None; unnamed = 0 }) refl

  module _ (word : List ℕ) where
    pub unlisted : position (same (word_name word)) field_names ≡ None → (name_field (fields_given f) word).good ≡ false
    unfolding field_names
    unlisted e =
        ap (λ (g : Fields). g.good)
        (named_as (fields_given f) word refl (place_none (same (word_name word)) field_names (sym e)) refl refl
        ∙ taken_past (fields_given f) (number_read (word_value word)))

    pub unread : number_read (word_value word) ≡ None → (name_field (fields_given f) word).good ≡ false
    unread e = ap (λ (g : Fields). g.good) (named_as (fields_given f) word refl refl refl (sym e) ∙ taken_none (fields_given f) (field_number word))

    module _ (i n : ℕ) (number : position (same (word_name word)) field_names ≡ Some i) (reads : number_read (word_value word) ≡ Some n) where
      taken : name_field (fields_given f) word ≡ taken_as (fields_given f) i (Some n)
      taken = named_as (fields_given f) word refl (place_some (same (word_name word)) field_names (sym number)).0 refl (sym reads)

      -- whether the field has a value
      named : get_or (map is_given f.fields) i false ≡ is_some (found f i).given
      named = get_or-map is_given f.fields i (record { given = None; unnamed = 0 })

      pub named_before : is_some (found f i).given ≡ true → (name_field (fields_given f) word).good ≡ false
      unfolding is_free
      named_before e =
          let before : is_free (fields_given f) i ≡ false = rw (named, e, lt-ltb i field_name_count (listed (word_name word) i number)) in
          ap (λ (g : Fields). g.good) (taken ∙ taken_twice (fields_given f) i n before)

      pub named_now : (unnamed : ℕ) → is_some (found f i).given ≡ false → fields_given (given_to f i n unnamed) ≡ name_field (fields_given f) word
      unfolding is_free
      named_now unnamed e =
          let free : is_free (fields_given f) i ≡ true = rw (named, e, lt-ltb i field_name_count (listed (word_name word) i number)) in
          let x : Field = record { given = Some n; unnamed = unnamed } in
          ap₂ (λ (v : List ℕ) (m : List Bool). record { values = v; named = m; good = true }) (map-set value_given f.fields i x) (map-set is_given f.fields i x)
          ∙ sym (taken ∙ taken_free (fields_given f) i n free)

-- what the code finds of a word, whichever way it goes
pub ruleset word_found = (listed, given_kept, unlisted, unread, named_before, named_now)
