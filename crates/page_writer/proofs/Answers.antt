-- The answers of both calls, by the number that the code has.
-- Assumes nothing.
use mathlib.Core.Path.{◌≡◌, refl, sym, ◌∙◌}
use mathlib.Core.Bool.{Bool, true, false}
use mathlib.Core.List.{List, [], ◌∷◌}
use mathlib.Core.Option.{Option, some, none}
use Prim.Native.Nat.{ℕ}
use borrow.Author.Tests.{ne_eqb}
use lib.ListN.{length}
use Rattle.octets.specs.Lent.{lowest, over}
use Rattle.octets.proofs.Lowest.{lowest-refused, lowest_passed}
use Rattle.refusals.specs.Numbers.{number_of}
use Rattle.refusals.specs.declared.Refusal.{Refusal}
use Rattle.refusals.proofs.Laws.{not_zero}
use Rattle.keytable.specs.Row.{Row}
use Rattle.keytable.specs.Calls.{missing}
use Rattle.page_writer.specs.Written.{page_size, page_of}
use Rattle.page_writer.specs.Write.{write_number, write_answer, wrapped_page_size, wrapping_tests, wrapping_number, part_by, write_wrapped_number, write_wrapped_row}

-- no refusal is 0
some_refusal : (e : Refusal) → number_of e ≡ 0 → ⊥
some_refusal e z = not_zero e (sym z)

module _ (v s l out : List ℕ) (n : ℕ) where
  pub write-refused : (e : Refusal) → number_of e ≡ write_number v s l (length out) → write_answer v s l out n ≡ ((number_of e, out), n)
  unfolding write_answer
  write-refused e is = rw (← is, ne_eqb (number_of e) 0 (some_refusal e))

  pub write_done : write_number v s l (length out) ≡ 0 → write_answer v s l out n ≡ ((0, over (page_of v s l) out), page_size (length s) (length l))
  unfolding write_answer
  write_done done = rw done

-- ---- with a table, by whether it is accepted and the row that matched

module _ (v : List ℕ) (type : ℕ) (identifier key l out : List ℕ) (n : ℕ) where
  module _ (row : Option Row) where
    pub wrapped-one : (ok : Bool) → ok ≡ false → write_wrapped_row ok row v type identifier key l out n ≡ ((1, out), n)
    unfolding write_wrapped_row write_wrapped_number
    wrapped-one ok broken = rw broken

    module _ (ok : Bool) (accepted : ok ≡ true) where
      -- the tests before the row's decide, unless they give 0
      number-refused : (wrapping_number v type identifier key l (length out) ≡ 0 → ⊥)
          → write_wrapped_number ok row v type identifier key l (length out) ≡ wrapping_number v type identifier key l (length out)
      unfolding write_wrapped_number wrapping_number
      number-refused other = rw accepted (lowest-refused (wrapping_tests v type identifier key l (length out)) ((6, missing row) ∷ []) refl other)

      number_passed : wrapping_number v type identifier key l (length out) ≡ 0
          → write_wrapped_number ok row v type identifier key l (length out) ≡ lowest ((6, missing row) ∷ [])
      unfolding write_wrapped_number wrapping_number
      number_passed passed = rw accepted (lowest_passed (wrapping_tests v type identifier key l (length out)) ((6, missing row) ∷ []) refl passed)

      pub wrapped_low : (e : Refusal) → number_of e ≡ wrapping_number v type identifier key l (length out)
          → write_wrapped_row ok row v type identifier key l out n ≡ ((number_of e, out), n)
      unfolding write_wrapped_row
      wrapped_low e is = rw (number-refused (λ z. some_refusal e (is ∙ z)), ← is, ne_eqb (number_of e) 0 (some_refusal e))

      pub wrapped_six : wrapping_number v type identifier key l (length out) ≡ 0 → row ≡ none → write_wrapped_row ok row v type identifier key l out n ≡ ((6, out), n)
      unfolding write_wrapped_row
      wrapped_six passed absent = rw (number_passed passed, absent)

      pub wrapped-done : (found : Row) → wrapping_number v type identifier key l (length out) ≡ 0 → row ≡ some found
          → write_wrapped_row ok row v type identifier key l out n ≡ ((0, over (page_of v (part_by (some found) type identifier key) l) out), wrapped_page_size identifier l)
      unfolding write_wrapped_row
      wrapped-done found passed has = rw (number_passed passed, has)
