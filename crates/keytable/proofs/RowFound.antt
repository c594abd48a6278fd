-- What the table's check and lookup tell a caller: the row of a type and a name, or none; and that its key is bytes where the table is.
-- Assumes nothing.
use mathlib.Core.Path.{◌≡◌, refl, ap, ◌∙◌}
use mathlib.Core.Bool.{Bool, true, false}
use mathlib.Core.List.{List, map}
use mathlib.Core.Option.{some, none}
use Prim.Native.Nat.{ℕ, zero, suc}
use native.Mathlib.Omega.{arith}
use lib.ListN.{length, take, drop}
use Rattle.octets.specs.Bytes.{Bytes}
use Rattle.octets.specs.Lent.{when}
use Rattle.octets.proofs.Bytes.{bytes_take, bytes_drop}
use Rattle.keytable.specs.Row.{row_size, row_key_at, row_key_size, Row, row_in, matches}
use Rattle.keytable.specs.Table.{table_head_size, row_count, rows, row_parts, lookup, table_ok, row_for, row_at}
use Rattle.keytable.specs.Find.{found_says, found_answer, row_found}
use Rattle.std.specs.Prelude.{Result, Ok, Err}
use Rattle.refusals.specs.declared.Refusal.{Refusal}
use Rattle.keytable.proofs.Laws.{row_for_good, finds-row}

-- the branch of `let .. else` is told that a lookup's answer is another than a place
abbrev pub NotAt : Result ℕ Refusal → Type 0
NotAt f = (p : ℕ) → f ≡ Ok p → ⊥

pub not_found : (t : List ℕ) (f : Result ℕ Refusal) → NotAt f → row_found t f ≡ none
not_found t (Ok p) w = absurd (w p refl)
not_found t (Err e) w = refl

module _ (t : List ℕ) (type : ℕ) (name : List ℕ) (f : Result ℕ Refusal) (ok : table_ok t ≡ true) (e : found_says f ≡ found_answer t type name) where
  pub no_row : NotAt f → row_for t type name ≡ none
  no_row other = finds-row t type name f ok e ∙ not_found t f other

  pub the_row : (p : ℕ) → f ≡ Ok p → row_for t type name ≡ some (row_at t p)
  the_row p is = finds-row t type name f ok e ∙ ap (row_found t) is

  pub row-key : (p : ℕ) → f ≡ Ok p → length (row_at t p).row_key ≡ row_key_size
  row-key p is = (row_for_good t type name (row_at t p) ok (the_row p is)).key_size

lookup_bytes : (n : ℕ) (s : List ℕ) (type : ℕ) (name : List ℕ) (row : Row) → Bytes s → lookup type name (map row_in (rows n s)) ≡ some row → Bytes row.row_key
unfolding rows lookup
lookup_bytes zero s type name row bytes e = let z : ◌≡◌ {A = ℕ} 0 1 = cc in absurd (omega arith)
lookup_bytes (suc n) s type name row bytes e =
    go (matches type name (row_in (take row_size s))) (lookup_bytes n (drop row_size s) type name row (bytes_drop row_size bytes)) e
  where
    go : (t : Bool) → (lookup type name (map row_in (rows n (drop row_size s))) ≡ some row → Bytes row.row_key)
        → when t (some (row_in (take row_size s))) (lookup type name (map row_in (rows n (drop row_size s)))) ≡ some row → Bytes row.row_key
    go true ih h =
        let first : row_in (take row_size s) ≡ row = cc in
        rw (ap (λ (x : Row). x.row_key) first) at (bytes_take row_key_size (bytes_drop row_key_at (bytes_take row_size bytes)))
    go false ih h = ih h

pub row_key_bytes : (t : List ℕ) (type : ℕ) (name : List ℕ) (row : Row) → Bytes t → row_for t type name ≡ some row → Bytes row.row_key
unfolding row_parts
row_key_bytes t type name row bytes e = lookup_bytes (row_count t) (drop table_head_size t) type name row (bytes_drop table_head_size bytes) e
