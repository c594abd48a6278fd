-- What words do to a key page's fields: each names one and gives its value.
-- Assumes nothing.
use Rattle.std.specs.Prelude.{ℕ, Bool, true, false, not, ◌&&◌, List, [], ◌∷◌, ltb, get_or, set, replicate, Option, Some, None}
use Rattle.octets.specs.Lent.{when}
use Rattle.wording.specs.Number.{number_read}
use Rattle.field_words.specs.Words.{word_value, field_name_count, field_number}

-- the fields' values, which of them were named, and whether all words were good
pub record Fields : Type 0 where
  pub values : List ℕ
  pub named : List Bool
  pub good : Bool

-- before the first word
abbrev pub none_named : Fields
none_named = record { values = replicate field_name_count 0; named = replicate field_name_count false; good = true }

abbrev pub spoiled : Fields → Fields
spoiled f = record { values = f.values; named = f.named; good = false }

-- there is a field i, and no word named it yet
unfoldable pub is_free : Fields → ℕ → Bool
is_free f i = ltb i field_name_count && not (get_or f.named i false)

abbrev pub with_field : Fields → ℕ → ℕ → Fields
with_field f i n = record { values = set f.values i n; named = set f.named i true; good = f.good }

-- field i with the number that was read for it
unfoldable pub taken_as : Fields → ℕ → Option ℕ → Fields
taken_as f i None = spoiled f
taken_as f i (Some n) = when (is_free f i) (with_field f i n) (spoiled f)

-- the fields after a word more
unfoldable pub name_field : Fields → List ℕ → Fields
name_field f word = taken_as f (field_number word) (number_read (word_value word))

-- after all words
abbrev pub name_fields : Fields → List (List ℕ) → Fields
name_fields f [] = f
name_fields f (word ∷ words) = name_fields (name_field f word) words

abbrev pub fields_in : List (List ℕ) → Fields
fields_in words = name_fields none_named words
