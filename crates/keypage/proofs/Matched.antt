-- A 04h page with its KEK's row matched and 40 wrapped bytes: the load is the unwrapping by that row's key. And which tests tell that it is so.
-- Assumes nothing.
use mathlib.Core.Path.{◌≡◌, refl, sym, ap, ◌∙◌}
use mathlib.Core.Bool.{false}
use mathlib.Core.List.{List}
use Prim.Native.Nat.{ℕ, ◌+◌}
use borrow.Author.Tests.{le-ltb}
use lib.ListN.{length}
use Rattle.octets.specs.Bytes.{Bytes}
use Rattle.octets.specs.Lent.{kept}
use Rattle.octets.proofs.Bytes.{bytes_take, bytes_drop}
use Rattle.octets.proofs.Lent.{is_not-false, test_at}
use Rattle.keytable.specs.Row.{row_key_size, Row}
use Rattle.keytable.specs.Table.{table_ok}
use Rattle.keytable.proofs.Laws.{row_for_good}
use Rattle.keytable.proofs.RowFound.{row_key_bytes}
use Rattle.keywrap.specs.Calls.{wrapped_size, unwrap_answer}
use Rattle.keypage.specs.Layout.{key_part_at}
use Rattle.keypage.specs.Page.{algorithm_in, format_in, key_length_of, key_part_of, fields_of}
use Rattle.keypage.specs.KeyPart.{wrapped_format, kek_type, identifier_at, identifier_size_of, identifier_of, wrapped_of}
use Rattle.keypage.specs.Load.{kek_row, row_named, part_tests, part_answer, load_answer}
use Rattle.keypage.specs.Laws.{Given, KekMatched}
use Rattle.keypage.proofs.LoadNumbers.{wrapped_rest, load-by_the_part}
use Rattle.keypage.proofs.Load.{part-row}

-- where neither 6 nor 8 applies
module _ (t p out : List ℕ) (given : Given t p out) (is : format_in p ≡ wrapped_format) where
  abbrev passes : ℕ → Type 0
  passes i = test_at (part_tests (kek_row t (key_part_of p)) (algorithm_in p) wrapped_format (key_part_of p)) i ≡ false

  pub matched-row : passes 0 → passes 2 → (row : Row) × KekMatched t p out row
  matched-row six eight =
      let (row, has) = part-row (kek_row t (key_part_of p)) (algorithm_in p) wrapped_format (key_part_of p) refl six in
      (row, record { given = given; format = is; matched = has; size = is_not-false wrapped_size (wrapped_of (key_part_of p)) eight })

-- unwrapping a page's wrapped bytes by a row's key
abbrev pub unwrapping : List ℕ → List ℕ → Row → ℕ × List ℕ
unwrapping p out row = unwrap_answer row.row_key (wrapped_of (key_part_of p)) out

module _ (t p out : List ℕ) (row : Row) (m : KekMatched t p out row) where
  pub kek_size : length row.row_key ≡ row_key_size
  kek_size = (row_for_good t (kek_type (key_part_of p)) (identifier_of (key_part_of p)) row m.given.table_accepted m.matched).key_size

  pub kek_bytes : Bytes t → Bytes row.row_key
  kek_bytes bytes-t = row_key_bytes t (kek_type (key_part_of p)) (identifier_of (key_part_of p)) row bytes-t m.matched

  part_unwraps : part_answer (row_named t (format_in p) (key_part_of p)) (algorithm_in p) (format_in p) (key_part_of p) out ≡ unwrapping p out row
  part_unwraps =
      rw m.format (wrapped_rest (kek_row t (key_part_of p)) row (algorithm_in p) (key_part_of p) out m.matched kek_size m.given.key_fits)

  module _ (fields : List ℕ) where
    load_unwraps : load_answer t p out fields ≡ (unwrapping p out row, kept (unwrapping p out row).0 (fields_of p) fields)
    load_unwraps =
        load-by_the_part (table_ok t) (row_named t (format_in p) (key_part_of p)) p out fields m.given.table_accepted m.given.readable
        (le-ltb (length out) row_key_size m.given.key_fits) (unwrapping p out row).0 (unwrapping p out row).1 part_unwraps

    -- so either has its answer from the other
    pub unwrapped_loads : (a : ℕ × List ℕ) → unwrapping p out row ≡ a → load_answer t p out fields ≡ (a, kept a.0 (fields_of p) fields)
    unwrapped_loads a e = load_unwraps ∙ ap (λ (x : ℕ × List ℕ). (x, kept x.0 (fields_of p) fields)) e

    pub loaded_unwraps : (a : ℕ × List ℕ) (after : List ℕ) → load_answer t p out fields ≡ (a, after) → unwrapping p out row ≡ a
    loaded_unwraps a after e = ap (λ (x : (ℕ × List ℕ) × List ℕ). x.0) (sym load_unwraps ∙ e)

-- the wrapped bytes of a page of bytes
pub wrapped_bytes_of : (p : List ℕ) → Bytes p → Bytes (wrapped_of (key_part_of p))
wrapped_bytes_of p h = bytes_drop (identifier_at + identifier_size_of (key_part_of p)) (bytes_take (key_length_of p) (bytes_drop key_part_at h))
