-- A text by value is told by its size and its bytes: that the size lies within the room adds nothing.
-- Assumes nothing.
use mathlib.Core.Path.{◌≡◌, sym, ap, subst, ◌∙◌}
use mathlib.Core.List.{List}
use Prim.Native.Nat.{ℕ, ◌≤◌}
use Rattle.std.proofs.Math.Bridge.{le_prop}
use Rattle.octets.specs.Unique.{UniqueBy}
use Rattle.wording.specs.declared.text.Text.{Text}

module _ {n : ℕ} where
  abbrev made : (size : ℕ) (bytes : List ℕ) → size ≤ n → Text n
  made size bytes h = record { size = size; bytes = bytes; within = h }

  made-same : (size other : ℕ) (bytes : List ℕ) → size ≡ other → (h : size ≤ n) (k : other ≤ n) → made size bytes h ≡ made other bytes k
  made-same size other bytes e h = subst (λ (m : ℕ). (k : m ≤ n) → made size bytes h ≡ made m bytes k) e (λ k. ap (made size bytes) (le_prop h k))

  pub text_told : (x y : Text n) → ◌≡◌ {A = ℕ × List ℕ} (x.size, x.bytes) (y.size, y.bytes) → x ≡ y
  text_told x y e =
      made-same x.size y.size x.bytes (ap (λ (a : ℕ × List ℕ). a.0) e) x.within y.within
      ∙ ap (λ (bytes : List ℕ). made y.size bytes y.within) (ap (λ (a : ℕ × List ℕ). a.1) e)

  -- so an equation of them leaves one text
  pub text_unique : (stated : ℕ × List ℕ) → UniqueBy (λ (t : Text n). (t.size, t.bytes)) stated
  text_unique stated x y p q = text_told x y (p ∙ sym q)
