-- What the fields of the code are read as tells them, and any values and flags are what some are read as.
-- Assumes nothing.
use mathlib.Core.Path.{◌≡◌, refl, sym, ap, ap₂, ◌∙◌}
use mathlib.Core.Bool.{Bool, true, false, false≢true, cond}
use mathlib.Core.List.{List, [], ◌∷◌, map}
use Prim.Native.Nat.{ℕ, suc}
use native.Mathlib.Omega.{arith}
use lib.ListN.{length, get_or, drop, length-map}
use Rattle.std.specs.Prelude.{Option, Some, None, is_some, unwrap_or}
use Rattle.field_words.specs.Given.{value_given, is_given, unnamed_of}
use Rattle.field_words.specs.declared.Field.{Field}

-- ---- the values, which are named, and what they are unnamed tell the fields

option-told : (x y : Option ℕ) (u v : ℕ) → unwrap_or x u ≡ unwrap_or y v → is_some x ≡ is_some y → x ≡ y
option-told None None u v e n = refl
option-told None (Some y) u v e n = absurd (false≢true n)
option-told (Some x) None u v e n = absurd (false≢true (sym n))
option-told (Some x) (Some y) u v e n = ap Some e

pub fields-told : (xs ys : List Field) → map value_given xs ≡ map value_given ys → map is_given xs ≡ map is_given ys → map unnamed_of xs ≡ map unnamed_of ys
    → xs ≡ ys
fields-told [] [] e n u = refl
fields-told [] (y ∷ ys) e n u = absurd (let z : ◌≡◌ {A = ℕ} 0 (suc (length ys)) = ap length u ∙ ap suc (length-map ys unnamed_of) in omega arith)
fields-told (x ∷ xs) [] e n u = absurd (let z : ◌≡◌ {A = ℕ} (suc (length xs)) 0 = sym (ap suc (length-map xs unnamed_of)) ∙ ap length u in omega arith)
fields-told (x ∷ xs) (y ∷ ys) e n u =
    ap₂ (λ (z : Field) (l : List Field). z ∷ l)
    (ap₂ (λ (o : Option ℕ) (v : ℕ). record { given = o; unnamed = v })
    (option-told x.given y.given x.unnamed y.unnamed (ap (λ (l : List ℕ). get_or l 0 0) e) (ap (λ (l : List Bool). get_or l 0 false) n))
    (ap (λ (l : List ℕ). get_or l 0 0) u))
    (fields-told xs ys (ap (drop 1) e) (ap (drop 1) n) (ap (drop 1) u))

-- where none is named, the values are those of fields that no word named
none-given : (x : Option ℕ) (u : ℕ) → is_some x ≡ false → u ≡ unwrap_or x u
none-given None u e = refl
none-given (Some x) u e = absurd (false≢true (sym e))

pub unnamed-shown : (xs : List Field) → ((k : ℕ) → get_or (map is_given xs) k false ≡ false) → map unnamed_of xs ≡ map value_given xs
unnamed-shown [] e = refl
unnamed-shown (x ∷ xs) e =
    ap₂ (λ (v : ℕ) (l : List ℕ). v ∷ l) (none-given x.given x.unnamed (e 0)) (unnamed-shown xs (λ k. e (suc k)))

-- ---- fields that are read as these values, of which those are named

abbrev pub fields_as : List Bool → List ℕ → List Field
fields_as [] vs = []
fields_as (b ∷ bs) [] = []
fields_as (b ∷ bs) (v ∷ vs) = record { given = cond b (Some v) None; unnamed = v } ∷ fields_as bs vs

value-as : (b : Bool) (v : ℕ) → unwrap_or (cond b (Some v) None) v ≡ v
value-as true v = refl
value-as false v = refl

one_named : (b : Bool) (v : ℕ) → is_some (cond b (Some v) None) ≡ b
one_named true v = refl
one_named false v = refl

pub values-as : (bs : List Bool) (vs : List ℕ) → length bs ≡ length vs → map value_given (fields_as bs vs) ≡ vs
values-as [] [] e = refl
values-as [] (v ∷ vs) e = absurd (omega arith)
values-as (b ∷ bs) [] e = absurd (omega arith)
values-as (b ∷ bs) (v ∷ vs) e = ap₂ (λ (w : ℕ) (l : List ℕ). w ∷ l) (value-as b v) (values-as bs vs (omega arith))

pub named-as : (bs : List Bool) (vs : List ℕ) → length bs ≡ length vs → map is_given (fields_as bs vs) ≡ bs
named-as [] vs e = refl
named-as (b ∷ bs) [] e = absurd (omega arith)
named-as (b ∷ bs) (v ∷ vs) e = ap₂ (λ (c : Bool) (l : List Bool). c ∷ l) (one_named b v) (named-as bs vs (omega arith))

pub unnamed-as : (bs : List Bool) (vs : List ℕ) → length bs ≡ length vs → map unnamed_of (fields_as bs vs) ≡ vs
unnamed-as [] [] e = refl
unnamed-as [] (v ∷ vs) e = absurd (omega arith)
unnamed-as (b ∷ bs) [] e = absurd (omega arith)
unnamed-as (b ∷ bs) (v ∷ vs) e = ap (λ (l : List ℕ). v ∷ l) (unnamed-as bs vs (omega arith))
