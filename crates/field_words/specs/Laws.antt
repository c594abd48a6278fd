-- What reading fields from words promises, as statements; proofs/Laws.antt proves each.
-- Assumes nothing.
use Rattle.std.specs.Prelude.{◌≡◌, ◌↔◌, true, List, [], ◌∷◌, ℕ, suc, ◌≤◌, ◌<◌, min, length, get_or, replicate, Option, IfSome}
use Rattle.octets.specs.Unique.{Unique, UniqueBy}
use Rattle.wording.specs.Decimal.{decimal, value_of}
use Rattle.wording.specs.Number.{greatest, is_decimal}
use Rattle.field_words.specs.Words.{field_name_count, field_word}
use Rattle.field_words.specs.Given.{fields_given, unnamed_in, FieldsSay}
use Rattle.field_words.specs.declared.Fields.{Fields as Given}
use Rattle.field_words.specs.Fields.{Fields, none_named, is_free, with_field, name_field, fields_in}

-- ---- a word

-- the word is the name of field i, `=`, and these decimal digits: nothing before, between or after them
pub record Names (word : List ℕ) (i : ℕ) (digits : List ℕ) : Type 0 where
  pub listed : i < field_name_count
  pub written : word ≡ field_word i digits
  pub are_digits : is_decimal digits ≡ true

-- so it names one field, with one value
abbrev pub NamesOne : Type 0
NamesOne = (word : List ℕ) (i j : ℕ) (d e : List ℕ) → Names word i d → Names word j e → (i ≡ j) × (d ≡ e)

-- there and back: a field that no word named yet gets the number that was written for it
abbrev pub FieldBack : Type 0
FieldBack = (f : Fields) (i n : ℕ) → is_free f i ≡ true → n ≤ greatest → name_field f (field_word i (decimal n)) ≡ with_field f i n

-- the words of fields from number i on, with these values
abbrev pub field_words : ℕ → List ℕ → List (List ℕ)
field_words i [] = []
field_words i (n ∷ ns) = field_word i (decimal n) ∷ field_words (suc i) ns

-- so twelve numbers of 64 bits that were written are read
abbrev pub FieldsBack : Type 0
FieldsBack =
    (ns : List ℕ) → length ns ≡ field_name_count → ((k : ℕ) → get_or ns k 0 ≤ greatest)
    → fields_in (field_words 0 ns) ≡ record { values = ns; named = replicate field_name_count true; good = true }

-- ---- all words

-- each word names a field, and no two the same
pub record GoodWords (words : List (List ℕ)) : Type 0 where
  pub each : (k : ℕ) → k < length words → (i : ℕ) × (digits : List ℕ) × Names (get_or words k []) i digits
  pub once : (j k i : ℕ) (d e : List ℕ) → j < k → k < length words → Names (get_or words j []) i d → Names (get_or words k []) i e → ⊥

abbrev pub GoodExactly : Type 0
GoodExactly = (words : List (List ℕ)) → ((fields_in words).good ≡ true) ↔ GoodWords words

-- then a field has the value of its word
abbrev pub FieldOfWord : Type 0
FieldOfWord =
    (words : List (List ℕ)) (k i : ℕ) (digits : List ℕ) → (fields_in words).good ≡ true → k < length words → Names (get_or words k []) i digits
    → get_or (fields_in words).values i 0 ≡ min (value_of digits) greatest

-- and 0 where no word names it
abbrev pub FieldUnnamed : Type 0
FieldUnnamed =
    (words : List (List ℕ)) (i : ℕ) → ((k : ℕ) (digits : List ℕ) → k < length words → Names (get_or words k []) i digits → ⊥)
    → get_or (fields_in words).values i 0 ≡ 0

-- ---- for each input one answer

abbrev pub NoneUnique : Type 0
NoneUnique = Unique none_named

abbrev pub NameUnique : Type 0
NameUnique = (f : Fields) (word : List ℕ) → Unique (name_field f word)

-- so what the code gives back before the first word is one answer too
abbrev pub NoneGivenUnique : Type 0
NoneGivenUnique = UniqueBy fields_given none_named

-- and after a word more, where what no word named is as it was
abbrev pub GivenUnique : Type 0
GivenUnique =
    (f : Fields) (unnamed : List ℕ) (x y : Option Given) → FieldsSay x f → IfSome x (λ g. unnamed_in g ≡ unnamed)
    → FieldsSay y f → IfSome y (λ g. unnamed_in g ≡ unnamed) → x ≡ y

-- ---- a caller may begin with any fields

-- twelve values, and any of them named, are what some fields of the code are read as, in which each value is its field's where no word names it
abbrev pub EachGood : Type 0
EachGood =
    (f : Fields) → f.good ≡ true → length f.values ≡ field_name_count → length f.named ≡ field_name_count
    → (g : Given) × (fields_given g ≡ f) × (unnamed_in g ≡ f.values)
