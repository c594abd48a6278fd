-- What the tests of sealing tell, of sealing itself: refused, or the row with every test passed.
-- Assumes nothing.
use mathlib.Core.Path.{◌≡◌, refl, sym, ap, ◌∙◌}
use mathlib.Core.Bool.{Bool, false≢true}
use mathlib.Core.List.{List}
use mathlib.Core.Option.{Option, some, none}
use Prim.Native.Nat.{ℕ}
use borrow.Author.Tests.{ne_eqb}
use lib.ListN.{length}
use Rattle.octets.specs.Lent.{over}
use Rattle.octets.proofs.Lent.{answer-refused}
use Rattle.keytable.specs.Row.{Row}
use Rattle.keytable.specs.Calls.{missing}
use Rattle.record.specs.Seal.{record_by, seal_number, ready_by, seal_row}
use Rattle.octets.proofs.Lent.{answer-done}
use Rattle.record.specs.Laws.{SealInRange}
use Rattle.record.proofs.Sealed.{in_range}

module _ (ok : Bool) (row : Option Row) (name iv a : List ℕ) (size room : ℕ) where
  ready_told : (n : ℕ) (o : Option Row) → ready_by ok row name iv a size room ≡ (n, o) → (seal_number ok row name iv a size room ≡ n) × (n ≡ 0 → row ≡ o)
  unfolding ready_by
  ready_told n o e = (number, λ z. rw (number, z) at (ap (λ (x : ℕ × Option Row). x.1) e))
    where
      number : seal_number ok row name iv a size room ≡ n
      number = ap (λ (x : ℕ × Option Row). x.0) e

  -- refused: the number is not 0
  pub ready_refused : (n : ℕ) → ready_by ok row name iv a size room ≡ (n, none) → (seal_number ok row name iv a size room ≡ n) × (n ≡ 0 → ⊥)
  ready_refused n e =
      let (number, is) = ready_told n none e in (
        number,
        λ z. let found = in_range ok name iv a size room row (number ∙ z) in false≢true (sym (ap missing found.found_is) ∙ ap missing (is z)),
      )

  -- found: the row, and no test applies
  module _ (found : Row) (e : ready_by ok row name iv a size room ≡ (0, some found)) where
    pub ready-number : seal_number ok row name iv a size room ≡ 0
    ready-number = (ready_told 0 (some found) e).0

    pub ready-row : row ≡ some found
    ready-row = (ready_told 0 (some found) e).1 refl

    pub ready_able : SealInRange ok (some found) name iv a size room
    ready_able = in_range ok name iv a size room (some found) (rw ready-row at ready-number)

    pub ready-same : ready_able.found-row ≡ found
    ready-same = cc ready_able.found_is

-- ---- sealing, by what its tests found

module _ (ok : Bool) (row : Option Row) (name iv a p out : List ℕ) where
  pub seal-refused : (n : ℕ) → ready_by ok row name iv a (length p) (length out) ≡ (n, none) → seal_row ok row name iv a p out ≡ (n, out)
  unfolding seal_row
  seal-refused n e =
      let (number, not-zero) = ready_refused ok row name iv a (length p) (length out) n e in
      rw number (answer-refused n (record_by row name iv a p) out (ne_eqb n 0 not-zero))

  pub seal-written : (found : Row) (left : List ℕ) → ready_by ok row name iv a (length p) (length out) ≡ (0, some found) → left ≡ over (record_by row name iv a p) out
      → seal_row ok row name iv a p out ≡ (0, left)
  unfolding seal_row
  seal-written found left e is =
      answer-done _ (record_by row name iv a p) out (ready-number ok row name iv a (length p) (length out) found e) ∙ ap (λ (l : List ℕ). (0, l)) (sym is)
