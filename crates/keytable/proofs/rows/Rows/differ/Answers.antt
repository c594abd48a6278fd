-- `keytable::rows::Rows::differ` meets its contract: the rows from number i on differ, and the set has their marks.
-- Assumes nothing.
use mathlib.Core.Path.{◌≡◌, sym, ap, ◌∙◌}
use mathlib.Core.Bool.{true}
use mathlib.Core.List.{List}
use Prim.Native.Nat.{ℕ, ◌+◌, ◌-◌, ◌≤◌, ◌<◌}
use native.Mathlib.Omega.{arith}
use lib.ListN.{drop, length}
use Rattle.keytable.specs.Table.{row_place, row_count, rows_of, distinct}
use Rattle.keytable.specs.Marks.{row_mark, last_of_its_pair}
use Rattle.keytable.proofs.Lookup.{distinct-stop, distinct_turn, distinct_end, distinct-not}
use Rattle.keytable.proofs.Marks.{Marked, mark_at, marked_end, marked_turn, marked_last}
use Rattle.keytable.proofs.rows.Rows.differ.Goals.{After-mark-m, else-contains-via-then-contains+else-not-last_of_its_pair, else-contains-via-else-contains}
use Rattle.keytable.proofs.rows.Rows.differ.Goals as goal

module _ (c : After-mark-m) where
  -- the table, the number of the row that is looked at, and its mark
  abbrev table : List ℕ
  table = c.args.self.table.now

  abbrev number : ℕ
  number = c.loop-i.i - 1

  abbrev mark : ℕ
  mark = c.mark-m.result

  below : number < row_count table
  below = omega arith

  next : number + 1 ≡ c.loop-i.i
  next = omega arith

  mark-is : mark ≡ mark_at table number
  mark-is = c.mark-m.ensures.0 ∙ ap row_mark c.get.ensures

  later : Marked table c.loop-i.seen.words (number + 1)
  later = rw next c.loop-i.invariant.marked

pub loop-i-init : goal.loop-i-init
loop-i-init c =
    let t = c.args.self.table.now in
    let all-rows : row_count t ≤ c.count-i.result = omega arith in
    record { differ = distinct_end t _ all-rows; marked = marked_end t _ _ all-rows }

pub returns-then-not-last_of_its_pair : goal.returns-then-not-last_of_its_pair
returns-then-not-last_of_its_pair c =
    let w = (goal.at.returns-then-not-last_of_its_pair c).After-mark-m in
    let again = sym c.last_of_its_pair.ensures ∙ c.if-not-last_of_its_pair.true in
    sym (distinct-not (rows_of (table w)) (number w) (distinct-stop (table w) (number w) (below w) again))

pub loop-i-preserved : goal.loop-i-preserved
loop-i-preserved c =
    let w = (goal.at.loop-i-preserved c).After-mark-m in
    let total : length (table w) ≡ row_place (row_count (table w)) = c.args.self.whole in
    let last : last_of_its_pair (table w) (number w) ≡ true =
    elim c.else-contains.branch [
      | else-contains-via-then-contains+else-not-last_of_its_pair looked ↦ sym looked.last_of_its_pair.ensures ∙ looked.if-not-last_of_its_pair.false
      | else-contains-via-else-contains new ↦ marked_last (table w) _ (number w) (mark w) (mark-is w) (later w) total c.requires (below w) (sym new.if-contains.ensures)
    ] in
    record {
      differ = distinct_turn (table w) (number w) (below w) last ∙ ap (λ (n : ℕ). distinct (drop n (rows_of (table w)))) (next w) ∙ c.loop-i.invariant.differ;
      marked = marked_turn (table w) _ (number w) (mark w) (mark-is w) (later w) _ c.insert.ensures.own c.insert.ensures.others;
    }
