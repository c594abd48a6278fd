-- The fields of the code: what a word gave each, and what it is where no word named it; nothing of words that are not good.
-- Assumes nothing.
use Rattle.std.specs.Prelude.{◌≡◌, ℕ, Bool, List, false, true, map, Option, Some, None, is_some, unwrap_or}
use Rattle.field_words.specs.Fields.{Fields}
use Rattle.field_words.specs.declared.Field.{Field}
use Rattle.field_words.specs.declared.Fields.{Fields as Given}

abbrev pub value_given : Field → ℕ
value_given x = unwrap_or x.given x.unnamed

abbrev pub is_given : Field → Bool
is_given x = is_some x.given

abbrev pub unnamed_of : Field → ℕ
unnamed_of x = x.unnamed

abbrev pub fields_given : Given → Fields
fields_given f = record { values = map value_given f.fields; named = map is_given f.fields; good = true }

-- what the fields are where no word names them
abbrev pub unnamed_in : Given → List ℕ
unnamed_in f = map unnamed_of f.fields

-- the fields, where all words were good
abbrev pub FieldsSay : Option Given → Fields → Type 0
FieldsSay None f = f.good ≡ false
FieldsSay (Some g) f = fields_given g ≡ f
