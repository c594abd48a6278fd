-- What the number 0 of sealing tells: every test was passed, and the output's front is the record of the row's use and key.
-- Assumes nothing.
use mathlib.Core.Path.{◌≡◌, refl, sym, ap, ◌∙◌}
use mathlib.Core.Bool.{Bool, true, false, not, ◌||◌, false≢true}
use mathlib.Core.List.{List, ◌++◌, append_assoc}
use mathlib.Core.Option.{Option, some, none}
use Prim.Native.Nat.{ℕ, ◌+◌, ◌≤◌}
use native.Mathlib.Omega.{arith}
use borrow.Author.Tests.{eqb-false, eq-eqb, ne_eqb, ltb-false, le-ltb, not-false}
use lib.Dec.{eqb}
use lib.ListN.{length, take, drop, replicate, length-replicate, length-append}
use Rattle.octets.specs.Bytes.{Bytes}
use Rattle.octets.specs.Lent.{is_not, over}
use Rattle.octets.proofs.Lent.{test_at, none_applies, answer-done, is_not-false, is_not_right, over-whole, over_append}
use Rattle.octets.specs.Tests.{part_of}
use Rattle.octets.proofs.Tests.{or_left, or_right, part_at}
use Rattle.octets.proofs.Bytes.{bytes_take, bytes_drop}
use Rattle.keytable.specs.Row.{name_max, kek_use, data_type, Row}
use Rattle.keytable.specs.Table.{table_ok, data_row}
use Rattle.keytable.specs.Laws.{GoodRow}
use Rattle.keytable.proofs.Laws.{row_for_good, kek-by_type}
use Rattle.keytable.proofs.RowFound.{row_key_bytes}
use Rattle.modes.specs.Calls.{text_max}
use Rattle.modes.specs.Modes.{mode_of}
use Rattle.modes.specs.Laws.{Keyed}
use Rattle.modes.proofs.Laws.{modes_fitting}
use Rattle.record.specs.Record.{end_at, record_front}
use Rattle.record.specs.Seal.{callers_max, record_of, sealed_size, seal_tests, seal_number, seal_row, seal_answer}
use Rattle.record.specs.Demand3.{Seals}
use Rattle.record.specs.Laws.{SealInRange, SealsInRange, SealsOnlyInRange, DataRowMode}
use Rattle.record.proofs.Lengths.{key_size, within_maxima, maxima-kept}
use Rattle.record.proofs.Written.{length_front}
use Rattle.record.proofs.Laid.{laid, Laid, length_laid, laid_out}

-- ---- the tests

module _ (ok : Bool) (name iv a : List ℕ) (n room : ℕ) where
  no_test : (row : Option Row) (i : ℕ) → seal_number ok row name iv a n room ≡ 0 → test_at (seal_tests ok row name iv a n room) i ≡ false
  unfolding seal_number
  no_test row i e = none_applies (seal_tests ok row name iv a n room) i refl e

  pub in_range : (o : Option Row) → seal_number ok o name iv a n room ≡ 0 → SealInRange ok o name iv a n room
  in_range none e = absurd (false≢true (sym (no_test none 4 e)))
  in_range (some row) e =
      record {
        accepted = not-false ok (no 0);
        found-row = row;
        found_is = refl;
        name-given = omega (arith, eqb-false (length name) 0 (or_left (eqb (length name) 0) (is_not (mode_of u).iv_size iv) sizes));
        iv-size = is_not-false (mode_of u).iv_size iv (or_right (eqb (length name) 0) (is_not (mode_of u).iv_size iv) sizes);
        permitted = not-false ((mode_of u).permits n) (or_right (eqb (length name) 0 || is_not (mode_of u).iv_size iv) (not ((mode_of u).permits n)) (no 1));
        name_fits = maxima.0;
        text_fits = maxima.1;
        data_fits = maxima.2;
        room_fits = ltb-false room (sealed_size (some row) name n) (no 3);
      }
    where
      u : ℕ
      u = row.row_use

      no : (i : ℕ) → test_at (seal_tests ok (some row) name iv a n room) i ≡ false
      no i = no_test (some row) i e

      sizes : (eqb (length name) 0 || is_not (mode_of u).iv_size iv) ≡ false
      sizes = or_left (eqb (length name) 0 || is_not (mode_of u).iv_size iv) (not ((mode_of u).permits n)) (no 1)

      maxima : (length name ≤ name_max) × (n ≤ text_max) × (length a ≤ callers_max)
      maxima = within_maxima (length name) n a (no 2)

  pub seal_passed : (o : Option Row) → SealInRange ok o name iv a n room → seal_number ok o name iv a n room ≡ 0
  unfolding seal_number
  seal_passed o h =
      rw (
        h.accepted,
        h.found_is,
        ne_eqb (length name) 0 (λ e. omega (arith, h.name-given, e)),
        is_not_right (mode_of h.found-row.row_use).iv_size iv h.iv-size,
        h.permitted,
        maxima-kept (length name) n a h.name_fits h.text_fits h.data_fits,
        le-ltb room (sealed_size (some h.found-row) name n) h.room_fits,
      )

-- with other room
abbrev pub with_room : {ok : Bool} {o : Option Row} {name iv a : List ℕ} {n room : ℕ} (h : SealInRange ok o name iv a n room) (room' : ℕ)
    → sealed_size (some h.found-row) name n ≤ room' → SealInRange ok o name iv a n room'
with_room h room' fits =
    record {
      accepted = h.accepted;
      found-row = h.found-row;
      found_is = h.found_is;
      name-given = h.name-given;
      iv-size = h.iv-size;
      permitted = h.permitted;
      name_fits = h.name_fits;
      text_fits = h.text_fits;
      data_fits = h.data_fits;
      room_fits = fits;
    }

-- ---- the answer 0

pub seals_in_range : SealsInRange
unfolding seal_row
seals_in_range t name iv a p out h =
    ap (λ (o : Option Row). seal_row (table_ok t) o name iv a p out) h.found_is
    ∙ answer-done _ _ out (rw h.found_is at (seal_passed (table_ok t) name iv a (length p) (length out) (data_row t name) h))

pub seals-only_in_range : SealsOnlyInRange
unfolding seal_row
seals-only_in_range t name iv a p out e = in_range (table_ok t) name iv a (length p) (length out) (data_row t name) e

-- ---- the record

-- its ciphertext and its tag
abbrev pub text_by : ℕ → List ℕ → List ℕ → List ℕ → List ℕ
text_by u key iv p = (mode_of u).ciphertext key iv p

abbrev pub tag_by : ℕ → List ℕ → List ℕ → List ℕ → List ℕ → List ℕ → List ℕ
tag_by u key name iv a p = (mode_of u).tag key iv (record_front u name (length p) ++ a) p

pub record_of_laid : (u : ℕ) (key name iv a p : List ℕ) → laid u name (length p) iv (text_by u key iv p) (tag_by u key name iv a p) ≡ record_of u key name iv a p
unfolding record_of
record_of_laid u key name iv a p = refl

module _ (u : ℕ) (key name iv a p : List ℕ) (keyed : Keyed (mode_of u) key iv) (permitted : (mode_of u).permits (length p) ≡ true) where
  pub length_text_by : length (text_by u key iv p) ≡ length p
  length_text_by = (modes_fitting u).ciphertext-length key iv p keyed permitted

  pub length_tag_by : length (tag_by u key name iv a p) ≡ (mode_of u).tag_size
  length_tag_by = (modes_fitting u).tag-length key iv (record_front u name (length p) ++ a) p keyed permitted

  pub length-record_of : length (record_of u key name iv a p) ≡ end_at (mode_of u) (length name) (length p)
  length-record_of =
      ap length (sym (record_of_laid u key name iv a p))
      ∙ length_laid u name (length p) iv (text_by u key iv p) (tag_by u key name iv a p) keyed.iv-size length_text_by length_tag_by

-- the row that records look for is no key-encrypting key's: its use is a mode
pub data-row_mode : DataRowMode
data-row_mode t name row ok has = go (eqb row.row_use 1) refl
  where
    good : GoodRow data_type name row
    good = row_for_good t data_type name row ok has

    not_kek : row.row_use ≡ kek_use → ⊥
    not_kek e = false≢true ((kek-by_type data_type name row good).0 e)

    go : (b : Bool) → eqb row.row_use 1 ≡ b → (b || eqb row.row_use 2) ≡ true
    go true e = refl
    go false e = eq-eqb row.row_use 2 (omega (arith, not_kek, eqb-false row.row_use 1 e, good.use_low, good.use_high))

-- a row's key, and an IV of the length of its use's mode
pub row_keyed : (t name : List ℕ) (row : Row) (iv : List ℕ) → Bytes t → Bytes iv → table_ok t ≡ true → data_row t name ≡ some row → length iv ≡ (mode_of row.row_use).iv_size
    → Keyed (mode_of row.row_use) row.row_key iv
row_keyed t name row iv bytes iv_bytes ok has size =
    record {
      key_size = (row_for_good t data_type name row ok has).key_size ∙ sym (key_size row.row_use);
      key-bytes = row_key_bytes t data_type name row bytes has;
      iv-size = size;
      iv_bytes = iv_bytes;
    }

-- ---- sealing makes r: over its definitions

pub record SealedAs (t name iv a p r : List ℕ) : Type 0 where
  pub bytes : Bytes p
  pub iv_bytes : Bytes iv
  pub able : SealInRange (table_ok t) (data_row t name) name iv a (length p) (sealed_size (data_row t name) name (length p))
  pub is : record_of able.found-row.row_use able.found-row.row_key name iv a p ≡ r

-- the IV of bytes that begin with a front and the IV
front_iv_bytes : (F iv S out r : List ℕ) → length F + length iv ≤ length out → over (F ++ (iv ++ S)) out ≡ r → Bytes r → Bytes iv
front_iv_bytes F iv S out r fits e bytes = rw is at (bytes_take (length iv) (bytes_drop (length F) bytes))
  where
    rest : List ℕ
    rest = over S (drop (length (F ++ iv)) out)

    whole : F ++ (iv ++ rest) ≡ r
    whole =
        sym (append_assoc F iv rest)
        ∙ sym (over_append (F ++ iv) S out (omega (arith, length-append F iv)))
        ∙ ap (λ (l : List ℕ). over l out) (append_assoc F iv S)
        ∙ e

    is : take (length iv) (drop (length F) r) ≡ iv
    is = ap (λ (l : List ℕ). part_of l (length F) (length iv)) (sym whole) ∙ part_at F iv rest (length F) (length iv) refl refl

module _ (t name iv a p r : List ℕ) (table-bytes : Bytes t) where
  pub as_keyed : (h : SealedAs t name iv a p r) → Keyed (mode_of h.able.found-row.row_use) h.able.found-row.row_key iv
  as_keyed h = row_keyed t name h.able.found-row iv table-bytes h.iv_bytes h.able.accepted h.able.found_is h.able.iv-size

  pub seals_as : Bytes r → Seals t name iv a p r → SealedAs t name iv a p r
  unfolding record_of
  seals_as bytes h = record { bytes = h.bytes; iv_bytes = iv_bytes; able = able; is = is }
    where
      size : ℕ
      size = sealed_size (data_row t name) name (length p)

      out : List ℕ
      out = replicate size 0

      length_out : length out ≡ size
      length_out = length-replicate size 0

      answered : seal_answer t name iv a p out ≡ (0, r)
      answered = h.makes out (length_out ∙ ap (λ (o : Option Row). sealed_size o name (length p)) h.has-row)

      inside : SealInRange (table_ok t) (data_row t name) name iv a (length p) (length out)
      inside = seals-only_in_range t name iv a p out (ap (λ (x : ℕ × List ℕ). x.0) answered)

      u : ℕ
      u = inside.found-row.row_use

      key : List ℕ
      key = inside.found-row.row_key

      written : over (record_of u key name iv a p) out ≡ r
      written = ap (λ (x : ℕ × List ℕ). x.1) (sym (seals_in_range t name iv a p out inside) ∙ answered)

      iv_bytes : Bytes iv
      iv_bytes =
          front_iv_bytes (record_front u name (length p)) iv _ out r (omega (arith, length_front u name (length p), inside.iv-size, inside.room_fits)) written bytes

      keyed : Keyed (mode_of u) key iv
      keyed = row_keyed t name inside.found-row iv table-bytes iv_bytes inside.accepted inside.found_is inside.iv-size

      whole : length (record_of u key name iv a p) ≡ length out
      whole =
          length-record_of u key name iv a p keyed inside.permitted
          ∙ ap (λ (o : Option Row). sealed_size o name (length p)) (sym inside.found_is)
          ∙ sym length_out

      able : SealInRange (table_ok t) (data_row t name) name iv a (length p) size
      able = with_room inside size (omega (arith, inside.room_fits, length_out))

      is : record_of u key name iv a p ≡ r
      is = sym (over-whole (record_of u key name iv a p) out whole) ∙ written

  pub as_seals : SealedAs t name iv a p r → Seals t name iv a p r
  as_seals h = record { bytes = h.bytes; row = h.able.found-row; has-row = h.able.found_is; makes = makes }
    where
      makes : (out : List ℕ) → length out ≡ sealed_size (some h.able.found-row) name (length p) → seal_answer t name iv a p out ≡ (0, r)
      makes out size =
          seals_in_range t name iv a p out (with_room h.able (length out) (omega arith))
          ∙ ap (λ (l : List ℕ). (0, l))
          (over-whole _ out (length-record_of h.able.found-row.row_use h.able.found-row.row_key name iv a p (as_keyed h) h.able.permitted ∙ sym size) ∙ h.is)

  -- and what is read from r
  pub as_laid : (h : SealedAs t name iv a p r)
      → let u = h.able.found-row.row_use in let key = h.able.found-row.row_key in Laid u name (length p) iv (text_by u key iv p) (tag_by u key name iv a p) r
  as_laid h =
      laid_out u name (length p) iv (text_by u key iv p) (tag_by u key name iv a p) h.able.iv-size (length_text_by u key name iv a p keyed h.able.permitted)
      (length_tag_by u key name iv a p keyed h.able.permitted) h.able.name-given h.able.permitted h.able.name_fits h.able.text_fits r
      (record_of_laid u key name iv a p ∙ h.is)
    where
      u : ℕ
      u = h.able.found-row.row_use

      key : List ℕ
      key = h.able.found-row.row_key

      keyed : Keyed (mode_of u) key iv
      keyed = as_keyed h
