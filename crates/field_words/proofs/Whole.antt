-- All words, one after the other: when they are good, and what a field's value is then.
-- Assumes nothing.
use mathlib.Core.Path.{◌≡◌, refl, sym, ap, ◌∙◌}
use mathlib.Core.Logic.{⊎_elim}
use mathlib.Core.Bool.{true, false, false≢true}
use mathlib.Core.List.{List, [], ◌∷◌}
use Prim.Native.Nat.{ℕ, zero, suc, ◌<◌, min}
use native.Mathlib.Omega.{arith}
use lib.ListN.{length, get_or, length-set}
use lib.Seq.{get_or-set_same, get_or-set_other}
use Rattle.wording.specs.Decimal.{value_of}
use Rattle.wording.specs.Number.{greatest}
use Rattle.field_words.specs.Words.{field_name_count}
use Rattle.field_words.specs.Fields.{Fields, spoiled, is_free, name_field, name_fields}
use Rattle.field_words.specs.Laws.{Names}
use Rattle.field_words.proofs.Step.{free_below, free_unnamed, unnamed_free}
use Rattle.field_words.proofs.Taken.{name_taken, names-one, Took, took_or-spoiled}

-- ---- one word: the fields stay twelve, and where they are good after it the word was taken

pub record Sized (f : Fields) : Type 0 where
  pub values_are : length f.values ≡ field_name_count
  pub named_are : length f.named ≡ field_name_count

pub sized_next : {f : Fields} (word : List ℕ) → Sized f → Sized (name_field f word)
sized_next {f} word s = ⊎_elim took (λ e. rw e (record { values_are = s.values_are; named_are = s.named_are })) (took_or-spoiled f word)
  where
    took : Took f word → Sized (name_field f word)
    took t =
        rw t.is (record {
          values_are = length-set f.values t.number (min (value_of t.digits) greatest) ∙ s.values_are;
          named_are = length-set f.named t.number true ∙ s.named_are;
        })

good_took : (f : Fields) (word : List ℕ) → (name_field f word).good ≡ true → Took f word
good_took f word e = ⊎_elim (λ t. t) (λ s. absurd (false≢true (sym (ap (λ (g : Fields). g.good) s) ∙ e))) (took_or-spoiled f word)

-- what is named after a word: its field, and what was named before
module _ {f : Fields} {word : List ℕ} (s : Sized f) (t : Took f word) where
  now-named : get_or (name_field f word).named t.number false ≡ true
  now-named =
      rw t.is (get_or-set_same f.named t.number true false (omega (arith, s.named_are, free_below f t.number t.free)))

  now_valued : get_or (name_field f word).values t.number 0 ≡ min (value_of t.digits) greatest
  now_valued =
      rw t.is
      (get_or-set_same f.values t.number (min (value_of t.digits) greatest) 0 (omega (arith, s.values_are, free_below f t.number t.free)))

module _ {f : Fields} {word : List ℕ} (t : Took f word) (i : ℕ) (other : i ≡ t.number → ⊥) where
  other-named : get_or (name_field f word).named i false ≡ get_or f.named i false
  other-named = rw t.is (get_or-set_other f.named t.number i true false other)

  other_valued : get_or (name_field f word).values i 0 ≡ get_or f.values i 0
  other_valued = rw t.is (get_or-set_other f.values t.number i (min (value_of t.digits) greatest) 0 other)

-- ---- good words, given to fields of which some are named

pub record GoodFrom (f : Fields) (words : List (List ℕ)) : Type 0 where
  pub start : f.good ≡ true
  pub each : (k : ℕ) → k < length words → (i : ℕ) × (digits : List ℕ) × Names (get_or words k []) i digits
  pub once : (j k i : ℕ) (d e : List ℕ) → j < k → k < length words → Names (get_or words j []) i d → Names (get_or words k []) i e → ⊥
  pub fresh : (k i : ℕ) (d : List ℕ) → k < length words → Names (get_or words k []) i d → get_or f.named i false ≡ false

module _ (f : Fields) (word : List ℕ) (words : List (List ℕ)) (s : Sized f) where
  -- a word before good ones
  good_before : GoodFrom (name_field f word) words → GoodFrom f (word ∷ words)
  good_before g = record { start = sym (ap (λ (h : Fields). h.good) t.is) ∙ g.start; each = each; once = once; fresh = fresh }
    where
      t : Took f word
      t = good_took f word g.start

      each : (k : ℕ) → k < suc (length words) → (i : ℕ) × (digits : List ℕ) × Names (get_or (word ∷ words) k []) i digits
      each zero h = (t.number, t.digits, t.names)
      each (suc k) h = g.each k (omega arith)

      -- no later word names this one's field
      other : (k i : ℕ) (d : List ℕ) → k < length words → Names (get_or words k []) i d → i ≡ t.number → ⊥
      other k i d h n e = false≢true (sym (g.fresh k i d h n) ∙ ap (λ (j : ℕ). get_or (name_field f word).named j false) e ∙ now-named s t)

      fresh : (k i : ℕ) (d : List ℕ) → k < suc (length words) → Names (get_or (word ∷ words) k []) i d → get_or f.named i false ≡ false
      fresh zero i d h n =
          ap (λ (j : ℕ). get_or f.named j false) (names-one word i t.number d t.digits n t.names).0 ∙ free_unnamed f t.number t.free
      fresh (suc k) i d h n = let within : k < length words = omega arith in sym (other-named t i (other k i d within n)) ∙ g.fresh k i d within n

      once : (j k i : ℕ) (d e : List ℕ) → j < k → k < suc (length words) → Names (get_or (word ∷ words) j []) i d → Names (get_or (word ∷ words) k []) i e → ⊥
      once j zero i d e h w a b = omega arith
      once zero (suc k) i d e h w a b = other k i e (omega arith) b (names-one word i t.number d t.digits a t.names).0
      once (suc j) (suc k) i d e h w a b = g.once j k i d e (omega arith) (omega arith) a b

  -- and good ones after it
  good_after : GoodFrom f (word ∷ words) → GoodFrom (name_field f word) words
  good_after g = record {
    start = ap (λ (h : Fields). h.good) t.is ∙ g.start;
    each = λ k h. g.each (suc k) (omega arith);
    once = λ j k i d e h w a b. g.once (suc j) (suc k) i d e (omega arith) (omega arith) a b;
    fresh = λ k i d h n.
        other-named t i (λ e. g.once 0 (suc k) i t.digits d (omega arith) (omega arith) (rw e t.names) n) ∙ g.fresh (suc k) i d (omega arith) n;
  }
    where
      t : Took f word
      t =
          let (i, digits, names) = g.each 0 (omega arith) in
          let free : is_free f i ≡ true = unnamed_free f i names.listed (g.fresh 0 i digits (omega arith) names) in
          record { number = i; digits = digits; names = names; free = free; is = name_taken names f free }

pub good-from : (words : List (List ℕ)) (f : Fields) → Sized f → (name_fields f words).good ≡ true → GoodFrom f words
good-from [] f s e =
    record { start = e; each = λ k h. absurd (omega arith); once = λ j k i d e' h w a b. omega arith; fresh = λ k i d h n. absurd (omega arith) }
good-from (word ∷ words) f s e = good_before f word words s (good-from words (name_field f word) (sized_next word s) e)

pub from_good : (words : List (List ℕ)) (f : Fields) → Sized f → GoodFrom f words → (name_fields f words).good ≡ true
from_good [] f s g = g.start
from_good (word ∷ words) f s g = from_good words (name_field f word) (sized_next word s) (good_after f word words s g)

-- ---- the values: those that are named stay as they are

pub named-kept : (words : List (List ℕ)) (f : Fields) (i : ℕ) → get_or f.named i false ≡ true → get_or (name_fields f words).values i 0 ≡ get_or f.values i 0
named-kept [] f i e = refl
named-kept (word ∷ words) f i e =
    ⊎_elim (took (named-kept words (name_field f word) i)) (λ q. rw q (named-kept words (spoiled f) i e)) (took_or-spoiled f word)
  where
    took : (get_or (name_field f word).named i false ≡ true → get_or (name_fields (name_field f word) words).values i 0 ≡ get_or (name_field f word).values i 0)
        → Took f word → get_or (name_fields (name_field f word) words).values i 0 ≡ get_or f.values i 0
    took later t =
        let other : i ≡ t.number → ⊥ = λ q. false≢true (sym (free_unnamed f t.number t.free) ∙ ap (λ (j : ℕ). get_or f.named j false) (sym q) ∙ e) in
        later (other-named t i other ∙ e) ∙ other_valued t i other

-- a good word's field has its value
pub word_valued : (words : List (List ℕ)) (f : Fields) (k i : ℕ) (d : List ℕ) → Sized f → (name_fields f words).good ≡ true → k < length words
    → Names (get_or words k []) i d → get_or (name_fields f words).values i 0 ≡ min (value_of d) greatest
word_valued [] f k i d s e h n = absurd (omega arith)
word_valued (word ∷ words) f (suc k) i d s e h n = word_valued words (name_field f word) k i d (sized_next word s) e (omega arith) n
word_valued (word ∷ words) f zero i d s e h n =
    let t : Took f word = good_took f word (good-from words (name_field f word) (sized_next word s) e).start in
    let (same-field, same_digits) = names-one word i t.number d t.digits n t.names in
    rw (same-field, same_digits) (named-kept words (name_field f word) t.number (now-named s t) ∙ now_valued s t)

-- a field that no word names keeps its value
pub unnamed-kept : (words : List (List ℕ)) (f : Fields) (i : ℕ) → ((k : ℕ) (d : List ℕ) → k < length words → Names (get_or words k []) i d → ⊥)
    → get_or (name_fields f words).values i 0 ≡ get_or f.values i 0
unnamed-kept [] f i none = refl
unnamed-kept (word ∷ words) f i none = unnamed-kept words (name_field f word) i (λ k d h n. none (suc k) d (omega arith) n) ∙ ⊎_elim took (λ q. rw q) (took_or-spoiled f word)
  where
    took : Took f word → get_or (name_field f word).values i 0 ≡ get_or f.values i 0
    took t = other_valued t i (λ e. none 0 t.digits (omega arith) (rw e t.names))
