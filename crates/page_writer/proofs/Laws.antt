-- The laws of specs/Laws.antt that the other files of this folder lead to.
-- Assumes nothing.
use mathlib.Core.Path.{◌≡◌, refl, sym, ap, ap₂, ◌∙◌}
use mathlib.Core.Bool.{Bool, true}
use mathlib.Core.List.{List}
use mathlib.Core.Option.{Option, some}
use Prim.Native.Nat.{ℕ, ◌-◌}
use native.Mathlib.Omega.{arith}
use lib.ListN.{length}
use Rattle.octets.specs.Bytes.{Bytes}
use Rattle.octets.proofs.Bytes.{bytes_cons, bytes_append, bytes-zeros}
use Rattle.octets.proofs.BigEndian.{bytes-be}
use Rattle.octets.proofs.Unique.{unique}
use Rattle.keytable.specs.Row.{Row}
use Rattle.keytable.specs.Table.{table_ok, row_for}
use Rattle.keytable.proofs.RowFound.{row_key_bytes}
use Rattle.keywrap.specs.Wrap as wrap
use Rattle.keywrap.proofs.Laws.{wrapped_bytes}
use Rattle.keypage.specs.Page.{key_part_of}
use Rattle.keypage.specs.KeyPart.{wrapped_of}
use Rattle.keypage.specs.Load.{kek_row}
use Rattle.keypage.specs.Laws.{Given}
use Rattle.keypage.proofs.Laws.{loads-plain, loads-wrapped}
use Rattle.page_writer.specs.Written.{head_of, page_size, page_of, wrapped_part}
use Rattle.page_writer.specs.Write.{fields_fit, write_answer, part_by, write_wrapped_row, write_wrapped_answer}
use Rattle.page_writer.specs.Laws.{WrittenLoads, Wrappable, WrappedGivesBack, WrappedLoads, WriteOtherRows, PageLength}
use Rattle.page_writer.specs.Laws.{ReadersTestsRise, WriteTestsRise, WrappingTestsRise, WriteWrappedTestsRise, WriteUnique, WriteWrappedUnique}
use Rattle.page_writer.proofs.Head.{fit_at, head-list}
use Rattle.page_writer.proofs.Parts.{length_page}
use Rattle.page_writer.proofs.Read.{format_back, part_back}
use Rattle.page_writer.proofs.Written.{passed_fit, passed_short, passed_reads, answer_passed, front_is, written_gives_back}
use Rattle.page_writer.proofs.ByRow.{part_made, wraps_as_writes, wraps_and_writes}

pub page-length : PageLength
page-length = length_page

-- ---- a page that was written is of bytes

head_bytes : (v : List ℕ) (part total : ℕ) → fields_fit v ≡ true → Bytes (head_of v part total)
head_bytes v part total ok =
    rw (head-list v part total)
    (bytes_append (bytes_append (bytes-be 2 16) (bytes-be 2 (total - 4)))
    (bytes_cons (omega (arith, fit_at v 0 8 ok refl, fit_at v 1 2 ok refl))
    (bytes_cons (omega (arith, fit_at v 2 4 ok refl, fit_at v 3 4 ok refl, fit_at v 4 2 ok refl, fit_at v 5 2 ok refl, fit_at v 6 2 ok refl, fit_at v 7 2 ok refl))
    (bytes_cons (fit_at v 8 256 ok refl)
    (bytes_cons (fit_at v 9 256 ok refl)
    (bytes_cons (fit_at v 10 256 ok refl)
    (bytes_cons (fit_at v 11 256 ok refl) (bytes_append (bytes-zeros 8) (bytes-be 2 part)))))))))

page_bytes : (v s l : List ℕ) → fields_fit v ≡ true → Bytes s → Bytes l → Bytes (page_of v s l)
unfolding page_of
page_bytes v s l ok bytes-s bytes-l = bytes_append (head_bytes v (length s) (page_size (length s) (length l)) ok) (bytes_append bytes-s bytes-l)

part_bytes : (type : ℕ) (identifier w : List ℕ) → Bytes identifier → Bytes w → Bytes (wrapped_part type identifier w)
unfolding wrapped_part
part_bytes type identifier w bytes-i bytes-w = bytes_append (bytes_append (bytes-be 2 type) (bytes-be 2 (length identifier))) (bytes_append bytes-i bytes-w)

-- ---- loading gives back

pub written_loads : WrittenLoads
written_loads t v part list out after room fields n m size e is accepted roomy =
    let h = answer_passed v part list out after n m e in
    let fit = passed_fit v part list (length out) h in
    let small = passed_short v part list (length out) h in
    let p = page_of v part list in
    let given : Given t p room = record { table_accepted = accepted; readable = passed_reads v part list (length out) h; key_fits = roomy } in
    rw (front_is v part list out after n m e)
    (rw (part_back v part list fit small) at (loads-plain t p room fields given (format_back v part list fit small ∙ is)))

-- what was wrapped is what writing made of the KEY part
module _ (t v : List ℕ) (type : ℕ) (identifier key list out after : List ℕ) (n m : ℕ) (e : write_wrapped_answer t v type identifier key list out n ≡ ((0, after), m)) where
  abbrev told : (row : Row) × (table_ok t ≡ true) × (row_for t type identifier ≡ some row) × Wrappable v type identifier key
  told = wraps_and_writes t v type identifier key list out after n m e

  abbrev made : List ℕ
  made = part_by (some told.0) type identifier key

  by_writing : write_answer v made list out n ≡ ((0, after), m)
  by_writing = sym (wraps_as_writes t v type identifier key list out n told.0 told.1 told.2 told.3) ∙ e

pub wrapped_gives_back : WrappedGivesBack
wrapped_gives_back t v type identifier key list out after n m size e =
    let (row, accepted, has, h) = told t v type identifier key list out after n m e in
    (row, has, written_gives_back v (part_by (some row) type identifier key) list out after n m size (by_writing t v type identifier key list out after n m e))

pub wrapped_loads : WrappedLoads
wrapped_loads t v type identifier key list out after room fields n m bytes-t bytes-i bytes-k bytes-l size e roomy =
    let (row, accepted, has, wrappable) = told t v type identifier key list out after n m e in
    let writes = by_writing t v type identifier key list out after n m e in
    let w = wrap.wrapped row.row_key key in
    let s = part_by (some row) type identifier key in
    let p = page_of v s list in
    let h = answer_passed v s list out after n m writes in
    let fit = passed_fit v s list (length out) h in
    let small = passed_short v s list (length out) h in
    let given : Given t p room = record { table_accepted = accepted; readable = passed_reads v s list (length out) h; key_fits = roomy } in
    let kek_bytes = row_key_bytes t type identifier row bytes-t has in
    let bytes-p = page_bytes v s list fit (part_bytes type identifier w bytes-i (wrapped_bytes row.row_key key kek_bytes bytes-k)) bytes-l in
    let back = part_made v type identifier key list wrappable row in
    let part_is = part_back v s list fit small in
    let matched : kek_row t (key_part_of p) ≡ some row = ap (kek_row t) part_is ∙ ap₂ (row_for t) back.type_back back.identifier_back ∙ has in
    let wraps : wrap.wrapped row.row_key key ≡ wrapped_of (key_part_of p) = sym (ap wrapped_of part_is ∙ back.wrapped_back) in
    rw (front_is v s list out after n m writes)
    ((loads-wrapped t p room fields key given bytes-t bytes-p (format_back v s list fit small ∙ wrappable.format)).1
    (row, matched, record { size = wrappable.key_size; bytes = bytes-k; wraps = wraps }))

-- ---- other rows

pub write_other-rows : WriteOtherRows
write_other-rows t u v type identifier key list out n ok-t ok-u same =
    ap₂ (λ (ok : Bool) (row : Option Row). write_wrapped_row ok row v type identifier key list out n) (ok-t ∙ sym ok-u) same

-- ---- the tests rise, and each answer is one

pub readers_tests_rise : ReadersTestsRise
readers_tests_rise v part list = refl

pub write_tests_rise : WriteTestsRise
write_tests_rise v part list room = refl

pub wrapping_tests_rise : WrappingTestsRise
wrapping_tests_rise v type identifier key list room = refl

pub write-wrapped_tests_rise : WriteWrappedTestsRise
write-wrapped_tests_rise ok row v type identifier key list room = refl

pub write_unique : WriteUnique
write_unique v part list out n = unique (write_answer v part list out n)

pub write-wrapped_unique : WriteWrappedUnique
write-wrapped_unique t v type identifier key list out n = unique (write_wrapped_answer t v type identifier key list out n)
