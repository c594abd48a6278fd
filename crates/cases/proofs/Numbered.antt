-- The text of numbered lines, as a loop over them comes to it: that of those before, of the next one, and of those after it.
-- Assumes nothing.
use mathlib.Core.Path.{◌≡◌, refl, sym, ap, subst, ◌∙◌}
use mathlib.Core.List.{List, [], ◌∷◌, ◌++◌, map, append_assoc, append-nil}
use Prim.Native.Nat.{ℕ, ◌+◌}
use native.Mathlib.Numerals.{add-one}
use Rattle.std.specs.Prelude.{Option, Some}
use Rattle.std.specs.Borrow.{Bor}
use Rattle.std.specs.Iterator.{AlwaysYields, Yields}
use lib.Dec.{eqb}
use Rattle.std.specs.List.{enumerate_from, slice_split}
use Rattle.std.proofs.lemmas.Iterator.{YieldsList}
use Rattle.cases.specs.Line.{case_text}
use Rattle.wording.specs.Lines.{newline}
use Rattle.cases.specs.Run.{text_from, lines_text}
use Rattle.cases.proofs.Splitting.{split_parts}

-- ---- what comes after some items of an iterator

module _ {S A B : Type 0} (steps : S → Option A → S → Type 0) (v : A → B) (x : A) (t u : S) (next : steps t (Some x) u) where
  followed : (xs : List A) (all : List B) (s : S) → AlwaysYields steps v s all → Yields steps s xs t → (rest : List B) × (all ≡ map v xs ++ v x ∷ rest)
  followed [] [] s a y = absurd (a x u (subst (λ (w : S). steps w (Some x) u) (sym y) next))
  followed [] (b ∷ all) s a y =
      let m = a.1 x u (subst (λ (w : S). steps w (Some x) u) (sym y) next) in (all, ap (λ (c : B). c ∷ all) (sym m.0))
  followed (z ∷ xs) [] s a y = absurd (a z y.0 y.1)
  followed (z ∷ xs) (b ∷ all) s a y =
      let m = a.1 z y.0 y.1 in
      let f = followed xs all y.0 m.1 y.2 in
      (f.0, ap (λ (c : B). c ∷ all) (sym m.0) ∙ ap (λ (l : List B). v z ∷ l) f.1)

-- ---- numbered lines

abbrev pub Numbered : Type 0
Numbered = ℕ × Bor (List ℕ)

abbrev pub line_of : Numbered → ℕ × List ℕ
line_of p = (p.0, p.1.now)

-- lines are counted from 1
abbrev pub numbered_text : List (ℕ × List ℕ) → List ℕ
numbered_text [] = []
numbered_text (p ∷ ps) = case_text p.1 (p.0 + 1) ++ numbered_text ps

pub numbered_from : (n : ℕ) (ss : List (List ℕ)) → numbered_text (enumerate_from n ss) ≡ text_from (n + 1) ss
unfolding text_from
numbered_from n [] = refl
numbered_from n (s ∷ ss) = ap (λ (t : List ℕ). case_text s (n + 1) ++ t) (numbered_from (n + 1) ss)
    ∙ ap (λ (k : ℕ). case_text s (n + 1) ++ text_from k ss) (add-one (n + 1))

numbered_both : (ps qs : List (ℕ × List ℕ)) → numbered_text (ps ++ qs) ≡ numbered_text ps ++ numbered_text qs
numbered_both [] qs = refl
numbered_both (p ∷ ps) qs =
    ap (λ (t : List ℕ). case_text p.1 (p.0 + 1) ++ t) (numbered_both ps qs) ∙ sym (append_assoc (case_text p.1 (p.0 + 1)) (numbered_text ps) (numbered_text qs))

map_both : {A B : Type 0} (f : A → B) (xs ys : List A) → map f (xs ++ ys) ≡ map f xs ++ map f ys
map_both f [] ys = refl
map_both {B = B} f (x ∷ xs) ys = ap (λ (l : List B). f x ∷ l) (map_both f xs ys)

pub numbered_turn : (ps : List Numbered) (p : Numbered) → numbered_text (map line_of (ps ++ p ∷ [])) ≡ numbered_text (map line_of ps) ++ case_text p.1.now (p.0 + 1)
numbered_turn ps p =
    ap numbered_text (map_both line_of ps (p ∷ []))
    ∙ numbered_both (map line_of ps) (line_of p ∷ [])
    ∙ ap (λ (t : List ℕ). numbered_text (map line_of ps) ++ t) (append-nil (case_text p.1.now (p.0 + 1)))

module _ {S : Type 0} {steps : S → Option Numbered → S → Type 0} {s t : S} {all : List (ℕ × List ℕ)} (e : YieldsList steps line_of s all) where
  pub numbered_parted : (ps : List Numbered) → Yields steps s ps t → (p : Numbered) (u : S) → steps t (Some p) u
      → (rest : List ℕ) × (numbered_text all ≡ numbered_text (map line_of ps) ++ (case_text p.1.now (p.0 + 1) ++ rest))
  numbered_parted ps y p u next =
      let f = followed steps line_of p t u next ps all s e.runs y in
      (numbered_text f.0, ap numbered_text f.1 ∙ numbered_both (map line_of ps) (line_of p ∷ f.0))

pub lines_numbered : (input : List ℕ) → lines_text input ≡ numbered_text (enumerate_from 0 (slice_split (λ b. eqb b newline) input))
unfolding lines_text
lines_numbered input = ap (text_from 1) (sym (split_parts newline input)) ∙ sym (numbered_from 0 (slice_split (λ b. eqb b newline) input))
