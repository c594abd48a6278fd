-- The laws of specs/Laws.antt.
-- Assumes nothing.
use mathlib.Core.Path.{◌≡◌, refl, sym, ap, ap₂, ◌∙◌}
use mathlib.Core.Bool.{true, false, false≢true}
use mathlib.Core.List.{List, [], ◌∷◌, ◌++◌, map, append-nil}
use Prim.Native.Nat.{ℕ, zero, suc, ◌+◌, ◌≤◌, min}
use native.Mathlib.Omega.{arith}
use lib.ListN.{length, get_or, replicate, drop_of_length-le}
use Rattle.std.specs.Prelude.{Some, None}
use lib.Seq.{sets, sets-eq, get_or-set_other}
use Rattle.octets.proofs.Unique.{unique}
use Rattle.wording.specs.Decimal.{decimal, value_of}
use Rattle.wording.specs.Number.{greatest}
use Rattle.wording.proofs.Laws.{decimal_reads}
use Rattle.wording.proofs.NumberLaws.{decimal_is}
use Rattle.field_words.specs.Words.{field_name_count}
use Rattle.field_words.specs.Fields.{Fields, none_named, with_field, name_field, name_fields, fields_in}
use Rattle.field_words.specs.Given.{value_given, fields_given, unnamed_in}
use Rattle.field_words.specs.declared.Field.{Field}
use Rattle.field_words.specs.declared.Fields.{Fields as Given}
use Rattle.field_words.specs.Laws.{NamesOne, FieldBack, field_words, FieldsBack, GoodWords, GoodExactly, FieldOfWord, FieldUnnamed}
use Rattle.field_words.specs.Laws.{NoneUnique, NameUnique, NoneGivenUnique, GivenUnique, EachGood}
use Rattle.field_words.proofs.Given.{fields-told, unnamed-shown, fields_as, values-as, named-as, unnamed-as}
use Rattle.field_words.proofs.Step.{free_below, unnamed_free}
use Rattle.field_words.proofs.Taken as taken
use Rattle.field_words.proofs.Taken.{name_taken}
use Rattle.field_words.proofs.Whole.{Sized, good-from, from_good, word_valued, unnamed-kept}

all_alike : {A : Type 0} (a : A) (n i : ℕ) → get_or (replicate n a) i a ≡ a
all_alike a zero i = refl
all_alike a (suc n) zero = refl
all_alike a (suc n) (suc i) = all_alike a n i

-- ---- a word

pub names-one : NamesOne
names-one = taken.names-one

pub field_back : FieldBack
field_back f i n free small =
    let is : min (value_of (decimal n)) greatest ≡ n = rw (decimal_reads n) (omega arith) in
    name_taken (record { listed = free_below f i free; written = refl; are_digits = decimal_is n }) f free ∙ ap (with_field f i) is

-- one after the other, to fields of which none from number i on is named
back_from : (ns : List ℕ) (f : Fields) (i : ℕ) → i + length ns ≤ field_name_count → ((k : ℕ) → get_or ns k 0 ≤ greatest)
    → ((j : ℕ) → i ≤ j → get_or f.named j false ≡ false)
    → name_fields f (field_words i ns) ≡ record { values = sets f.values i ns; named = sets f.named i (replicate (length ns) true); good = f.good }
back_from [] f i within small fresh = refl
back_from (n ∷ ns) f i within small fresh =
    ap (λ (g : Fields). name_fields g (field_words (suc i) ns)) (field_back f i n (unnamed_free f i (omega arith) (fresh i (omega arith))) (small 0))
    ∙ back_from ns (with_field f i n) (suc i) (omega arith) (λ k. small (suc k))
    (λ j h. get_or-set_other f.named i j true false (λ e. omega arith) ∙ fresh j (omega arith))

pub fields_back : FieldsBack
fields_back ns size small =
    back_from ns none_named 0 (omega arith) small (λ j h. all_alike false field_name_count j)
    ∙ ap₂ (λ (v : List ℕ) (m : ℕ). record { values = v; named = sets (replicate field_name_count false) 0 (replicate m true); good = true }) all_set size
  where
    all_set : sets (replicate field_name_count 0) 0 ns ≡ ns
    all_set =
        sets-eq ns (replicate field_name_count 0) 0 (omega arith)
        ∙ ap (λ (l : List ℕ). ns ++ l) (drop_of_length-le (replicate field_name_count 0) {i = 0 + length ns} (omega arith))
        ∙ append-nil ns

-- ---- all words

none_sized : Sized none_named
none_sized = record { values_are = refl; named_are = refl }

pub good_exactly : GoodExactly
good_exactly words = (to, from)
  where
    to : (fields_in words).good ≡ true → GoodWords words
    to e = let g = good-from words none_named none_sized e in record { each = g.each; once = g.once }

    from : GoodWords words → (fields_in words).good ≡ true
    from g =
        from_good words none_named none_sized (record {
          start = refl;
          each = g.each;
          once = g.once;
          fresh = λ k i d h n. all_alike false field_name_count i;
        })

pub field_of_word : FieldOfWord
field_of_word words k i digits good h names = word_valued words none_named k i digits none_sized good h names

pub field_unnamed : FieldUnnamed
field_unnamed words i none = unnamed-kept words none_named i none ∙ all_alike 0 field_name_count i

-- ---- for each input one answer

pub none_unique : NoneUnique
none_unique = unique none_named

pub name_unique : NameUnique
name_unique f word = unique (name_field f word)

pub none_given_unique : NoneGivenUnique
none_given_unique x y p q =
    ap (λ (l : List Field). record { fields = l })
    (fields-told x.fields y.fields values (ap (λ (k : Fields). k.named) (p ∙ sym q)) (shown x p ∙ values ∙ sym (shown y q)))
  where
    values : map value_given x.fields ≡ map value_given y.fields
    values = ap (λ (k : Fields). k.values) (p ∙ sym q)

    shown : (z : Given) → fields_given z ≡ none_named → unnamed_in z ≡ map value_given z.fields
    shown z e = unnamed-shown z.fields (λ k. ap (λ (h : Fields). get_or h.named k false) e ∙ all_alike false field_name_count k)

pub given_unique : GivenUnique
given_unique f unnamed None None p k q l = refl
given_unique f unnamed None (Some g) p k q l = absurd (false≢true (sym p ∙ sym (ap (λ (h : Fields). h.good) q)))
given_unique f unnamed (Some g) None p k q l = absurd (false≢true (sym q ∙ sym (ap (λ (h : Fields). h.good) p)))
given_unique f unnamed (Some g) (Some h) p k q l =
    ap (λ (s : List Field). Some (record { fields = s }))
    (fields-told g.fields h.fields (ap (λ (z : Fields). z.values) (p ∙ sym q)) (ap (λ (z : Fields). z.named) (p ∙ sym q)) (k ∙ sym l))

-- ---- a caller may begin with any fields

pub each_good : EachGood
each_good f good values_are named_are =
    let even : length f.named ≡ length f.values = named_are ∙ sym values_are in
    let read : fields_given (record { fields = fields_as f.named f.values }) ≡ f =
    rw (values-as f.named f.values even, named-as f.named f.values even, good) refl in
    (record { fields = fields_as f.named f.values }, read, unnamed-as f.named f.values even)
