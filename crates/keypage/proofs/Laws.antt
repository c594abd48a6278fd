-- The laws of specs/Laws.antt.
-- Assumes nothing.
use mathlib.Core.Path.{◌≡◌, refl, sym, ap, ◌∙◌}
use mathlib.Core.Logic.{◌↔◌}
use mathlib.Core.Bool.{Bool, true, false}
use mathlib.Core.List.{List}
use mathlib.Core.Option.{some}
use Prim.Native.Nat.{ℕ}
use native.Mathlib.Omega.{arith}
use borrow.Author.Tests.{eqb-true, eqb-false, not-false}
use lib.Dec.{eqb}
use lib.ListN.{length}
use Rattle.octets.specs.Lent.{over}
use Rattle.octets.proofs.Unique.{unique}
use Rattle.keytable.specs.Row.{row_key_size, data_type, is_kek_type, Row}
use Rattle.keytable.specs.Table.{table_ok, data_row}
use Rattle.keytable.proofs.Laws.{row_for_good, kek-row_more, data-row_more}
use Rattle.keywrap.specs.Laws.{UnwrapsTo}
use Rattle.keywrap.proofs.Laws.{unwraps_exactly, one_key, unwrap_nine_exactly, wrapped-length}
use Rattle.keypage.specs.Page.{algorithm_in, format_in, key_part_of, fields_of}
use Rattle.keypage.specs.KeyPart.{plain_format, reference_format, wrapped_format, kek_type, identifier_of, wrapped_of, part_refused}
use Rattle.keypage.specs.Read.{page_read_number, page_read_answer}
use Rattle.keypage.specs.Load.{kek_row, row_named, key_in, key_loaded, load_answer}
use Rattle.keypage.specs.Laws.{Readable, ReadsExactly, Loads, LoadsPlain, LoadsReference, WrapsUnder, LoadsWrapped, NoRowSix, KekMatched, LoadsWhatWraps, OneKeyWraps, LoadNineExactly, NineSays}
use Rattle.keypage.specs.Laws.{LoadOtherRows, ReferenceBesideKek, WrappedBesideData, PageReadTestsRise, PartTestsRise, LoadTestsRise, PageReadUnique, LoadUnique}
use Rattle.keypage.proofs.ReadNumbers.{read_passed, page-fields}
use Rattle.keypage.proofs.Page.{passed_read, passed-readable, readable_passed, answer_told, read_part}
use Rattle.keypage.proofs.KeyPart.{known, known_needs, plain_size}
use Rattle.keypage.proofs.LoadNumbers.{load_unread}
use Rattle.keypage.proofs.Load.{part_passed, part-row, part_none, part_use, reference_passed, load_six, load_told, load_key, key_loads}
use Rattle.keypage.proofs.Matched.{matched-row, kek_size, kek_bytes, unwrapping, unwrapped_loads, loaded_unwraps, wrapped_bytes_of}
use Rattle.keypage.proofs.Nine.{nine_matched}

-- ---- reading

pub reads_exactly : ReadsExactly
reads_exactly p fields after = (to, from)
  where
    to : page_read_answer p fields ≡ (0, after) → Readable p × (after ≡ fields_of p)
    to e =
        let zero = answer_told p fields after e in
        (passed-readable p (read_passed p zero), ap (λ (x : ℕ × List ℕ). x.1) (sym e ∙ page-fields p fields zero))

    from : Readable p × (after ≡ fields_of p) → page_read_answer p fields ≡ (0, after)
    from h = page-fields p fields (passed_read p (readable_passed p h.0)) ∙ ap (λ (l : List ℕ). (0, l)) (sym h.1)

-- ---- loading

pub loads-plain : LoadsPlain
unfolding key_loaded
loads-plain t p out fields given is =
    let size = plain_size (key_part_of p) (rw is at (read_part p given.readable)) in
    key_loads t p out fields given plain_format is (key_part_of p) refl size refl

pub loads-reference : LoadsReference
unfolding key_loaded
loads-reference t p out fields k given is = (to, from)
  where
    ByRow : Type 0
    ByRow = (row : Row) × (data_row t (key_part_of p) ≡ some row) × (row.row_use ≡ algorithm_in p) × (row.row_key ≡ k)

    to : Loads t p out fields k → ByRow
    to h =
        let zero = load_told t p out fields given reference_format is k h in
        let no = part_passed (data_row t (key_part_of p)) (algorithm_in p) reference_format (key_part_of p) zero in
        let (row, has) = part-row (data_row t (key_part_of p)) (algorithm_in p) reference_format (key_part_of p) refl (no 0) in
        let size : length (key_in (data_row t (key_part_of p))) ≡ row_key_size = rw has (row_for_good t data_type (key_part_of p) row given.table_accepted has).key_size in (
          row,
          has,
          part_use row (algorithm_in p) (key_part_of p) (rw has at (no 1)),
          ap key_in (sym has) ∙ load_key t p out fields given reference_format is k size h,
        )

    from : ByRow → Loads t p out fields k
    from (row, has, use_is, key-is) =
        key_loads t p out fields given reference_format is k (rw has (reference_passed row (algorithm_in p) (key_part_of p) use_is))
        (sym (ap length key-is) ∙ (row_for_good t data_type (key_part_of p) row given.table_accepted has).key_size)
        (ap (λ (l : List ℕ). over l out) (ap key_in has ∙ key-is))

-- ---- a wrapped key, by what wraps

pub load_nine_exactly : LoadNineExactly
load_nine_exactly t p out fields row bytes-t bytes-p m = (to, from)
  where
    by_wrapping : (unwrapping p out row ≡ (9, out)) ↔ ((k : List ℕ) → WrapsUnder row k p → ⊥)
    by_wrapping =
        unwrap_nine_exactly row.row_key (wrapped_of (key_part_of p)) out (kek_size t p out row m) (kek_bytes t p out row m bytes-t) m.size
        (wrapped_bytes_of p bytes-p) m.given.key_fits

    to : load_answer t p out fields ≡ ((9, out), fields) → (k : List ℕ) → WrapsUnder row k p → ⊥
    to e = by_wrapping.0 (loaded_unwraps t p out row m fields (9, out) fields e)

    from : ((k : List ℕ) → WrapsUnder row k p → ⊥) → load_answer t p out fields ≡ ((9, out), fields)
    from none = unwrapped_loads t p out row m fields (9, out) (by_wrapping.1 none)

pub loads_what_wraps : LoadsWhatWraps
loads_what_wraps t p out fields row k bytes-t bytes-p m = (to, from)
  where
    by_wrapping : UnwrapsTo row.row_key (wrapped_of (key_part_of p)) out k ↔ WrapsUnder row k p
    by_wrapping =
        unwraps_exactly row.row_key (wrapped_of (key_part_of p)) out k (kek_size t p out row m) (kek_bytes t p out row m bytes-t) m.size
        (wrapped_bytes_of p bytes-p) m.given.key_fits

    to : Loads t p out fields k → WrapsUnder row k p
    to h = by_wrapping.0 (record { size = h.size; answers = loaded_unwraps t p out row m fields (0, over k out) (fields_of p) h.answers })

    from : WrapsUnder row k p → Loads t p out fields k
    from h = record { size = h.size; answers = unwrapped_loads t p out row m fields (0, over k out) (by_wrapping.1 h).answers }

pub one_key_wraps : OneKeyWraps
one_key_wraps t p out row k k' bytes-t m = one_key row.row_key k k' (wrapped_of (key_part_of p)) (kek_bytes t p out row m bytes-t)

pub nine_says : NineSays
nine_says t p out fields bytes-t bytes-p nine = (row, m, none)
  where
    row : Row
    row = (nine_matched t p out fields nine).0

    m : KekMatched t p out row
    m = (nine_matched t p out fields nine).1

    none : (k : List ℕ) → WrapsUnder row k p → ⊥
    none k h =
        let zero = ((loads_what_wraps t p out fields row k bytes-t bytes-p m).1 h).answers in
        let same : ◌≡◌ {A = ℕ} 9 0 = sym nine ∙ ap (λ (x : (ℕ × List ℕ) × List ℕ). x.0.0) zero in
        absurd (omega arith)

pub loads-wrapped : LoadsWrapped
loads-wrapped t p out fields k given bytes-t bytes-p is = (to, from)
  where
    ByRow : Type 0
    ByRow = (row : Row) × (kek_row t (key_part_of p) ≡ some row) × WrapsUnder row k p

    to : Loads t p out fields k → ByRow
    to h =
        let zero = load_told t p out fields given wrapped_format is k h in
        let no = part_passed (kek_row t (key_part_of p)) (algorithm_in p) wrapped_format (key_part_of p) zero in
        let (row, m) = matched-row t p out given is (no 0) (no 2) in
        (row, m.matched, (loads_what_wraps t p out fields row k bytes-t bytes-p m).0 h)

    from : ByRow → Loads t p out fields k
    from (row, has, wraps) =
        let size = sym (ap length wraps.wraps) ∙ wrapped-length row.row_key k in
        (loads_what_wraps t p out fields row k bytes-t bytes-p (record { given = given; format = is; matched = has; size = size })).1 wraps

pub no-row_six : NoRowSix
no-row_six t p out fields given other nothing =
    let needs = known_needs (format_in p) (known (format_in p) (key_part_of p) (read_part p given.readable).permitted) other in
    load_six t p out fields given (format_in p) refl (rw nothing (part_none (algorithm_in p) (format_in p) (key_part_of p) needs))

-- ---- other rows

pub load_other-rows : LoadOtherRows
load_other-rows t u p out fields ok-t ok-u e = rw (ok-t, ok-u, e)

-- by the row that each format names
named_alike : (t u p out fields : List ℕ) (f : ℕ) → table_ok t ≡ true → table_ok u ≡ true → format_in p ≡ f
    → row_named u f (key_part_of p) ≡ row_named t f (key_part_of p) → load_answer u p out fields ≡ load_answer t p out fields
named_alike t u p out fields f ok-t ok-u is same = load_other-rows u t p out fields ok-u ok-t (rw is same)

pub reference_beside_kek : ReferenceBesideKek
reference_beside_kek t u row p out fields ok-t ok-u more kek is =
    named_alike t u p out fields reference_format ok-t ok-u is (kek-row_more t u row (key_part_of p) ok-u more kek)

pub wrapped_beside_data : WrappedBesideData
unfolding part_refused
wrapped_beside_data t u row p out fields ok-t ok-u more other is = go (eqb (page_read_number p) 0) refl
  where
    -- of a page that reading accepts the KEK type is one of the two
    kek-type : page_read_number p ≡ 0 → is_kek_type (kek_type (key_part_of p)) ≡ true
    kek-type e = not-false (is_kek_type (kek_type (key_part_of p))) (rw is at (read_part p e).permitted)

    go : (b : Bool) → eqb (page_read_number p) 0 ≡ b → load_answer u p out fields ≡ load_answer t p out fields
    go true e =
        named_alike t u p out fields wrapped_format ok-t ok-u is
        (data-row_more t u row (kek_type (key_part_of p)) (identifier_of (key_part_of p)) ok-u more other (kek-type (eqb-true (page_read_number p) 0 e)))
    go false e = unread u ok-u ∙ sym (unread t ok-t)
      where
        unread : (v : List ℕ) → table_ok v ≡ true → load_answer v p out fields ≡ ((page_read_number p, out), fields)
        unread v ok = load_unread (table_ok v) (row_named v (format_in p) (key_part_of p)) p out fields ok (page_read_number p) refl (eqb-false (page_read_number p) 0 e)

-- ---- the lowest

pub page_read_tests_rise : PageReadTestsRise
page_read_tests_rise p = refl

pub part_tests_rise : PartTestsRise
part_tests_rise row algorithm f s = refl

pub load_tests_rise : LoadTestsRise
load_tests_rise ok row p room = refl

-- ---- one answer

pub page_read_unique : PageReadUnique
page_read_unique p fields = unique (page_read_answer p fields)

pub load_unique : LoadUnique
load_unique t p out fields = unique (load_answer t p out fields)
