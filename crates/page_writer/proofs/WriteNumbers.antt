-- The numbers of writing: each by the tests that led there, and what 0 says.
-- Assumes nothing.
use mathlib.Core.Path.{◌≡◌, refl}
use mathlib.Core.Bool.{Bool, true, false, not, ◌||◌}
use mathlib.Core.List.{List}
use Prim.Native.Nat.{ℕ, ◌≤◌}
use borrow.Author.Tests.{ltb-false, not-false}
use lib.Dec.{eqb, ltb}
use lib.ListN.{length}
use Rattle.octets.specs.Lent.{is_not}
use Rattle.octets.proofs.Lent.{is_not-false, test_at, none_applies}
use Rattle.octets.proofs.Tests.{and_left, or_left, or_right}
use Rattle.keytable.specs.Row.{name_max, is_kek_type}
use Rattle.keywrap.specs.Calls.{key_size_lem}
use Rattle.keypage.specs.Layout.{page_max}
use Rattle.keypage.specs.Page.{page_list_ok}
use Rattle.keypage.specs.KeyPart.{wrapped_format, part_refused, part_long}
use Rattle.page_writer.specs.declared.fields.Chosen.{Chosen}
use Rattle.page_writer.specs.Chosen.{values_of, EachFits}
use Rattle.page_writer.specs.Written.{page_size}
use Rattle.page_writer.specs.Write.{format_given, fields_fit, fields_permitted, fields_good, write_broken, write_refused, write_long, not_carried, write_tests, write_number}
use Rattle.page_writer.specs.Write.{wrapped_page_size, wrapping_broken, wrapping_refused, wrapping_long, wrapping_tests, wrapping_number}
use Rattle.page_writer.proofs.Head.{each_fits}

-- ---- a page of a KEY part as it stands

module _ (v s l : List ℕ) (room : ℕ) where
  pub write_three : write_broken v s l ≡ false → write_refused v s ≡ true → write_number v s l room ≡ 3
  unfolding write_number
  write_three a b = rw (a, b)

  pub write_four : write_broken v s l ≡ false → write_refused v s ≡ false → write_long v s l ≡ true → write_number v s l room ≡ 4
  unfolding write_number
  write_four a b c = rw (a, b, c)

  -- the reader's numbers passed
  module _ (a : write_broken v s l ≡ false) (b : write_refused v s ≡ false) (c : write_long v s l ≡ false) where
    pub size_within : page_size (length s) (length l) ≤ page_max
    size_within = ltb-false page_max (page_size (length s) (length l)) (or_left _ (part_long (format_given v) s) c)

-- no test applies
pub record WritePassed (v s l : List ℕ) (room : ℕ) : Type 0 where
  pub whole : write_broken v s l ≡ false
  pub permitted : write_refused v s ≡ false
  pub short : write_long v s l ≡ false
  pub roomy : ltb room (page_size (length s) (length l)) ≡ false
  pub carried : not_carried v s ≡ false

pub write_passed : (v s l : List ℕ) (room : ℕ) → write_number v s l room ≡ 0 → WritePassed v s l room
unfolding write_number
write_passed v s l room e = record { whole = none 0; permitted = none 1; short = none 2; roomy = none 3; carried = none 4 }
  where
    none : (i : ℕ) → test_at (write_tests v s l room) i ≡ false
    none i = none_applies (write_tests v s l room) i refl e

pub good_fit : (v : List ℕ) (other : Bool) → (not (fields_good v) || other) ≡ false → fields_fit v ≡ true
good_fit v other e = and_left (fields_fit v) (fields_permitted v) (not-false (fields_good v) (or_left (not (fields_good v)) other e))

-- ---- a page whose key is to be wrapped

module _ (identifier l : List ℕ) (c : wrapping_long identifier l ≡ false) where
  pub name_short : length identifier ≤ name_max
  name_short = ltb-false name_max (length identifier) (or_left (ltb name_max (length identifier)) _ c)

  pub page_short : wrapped_page_size identifier l ≤ page_max
  page_short = ltb-false page_max (wrapped_page_size identifier l) (or_right (ltb name_max (length identifier)) _ c)

pub record WrappingPassed (v : List ℕ) (type : ℕ) (identifier key l : List ℕ) (room : ℕ) : Type 0 where
  pub whole : wrapping_broken identifier key l ≡ false
  pub permitted : wrapping_refused v type ≡ false
  pub short : wrapping_long identifier l ≡ false
  pub roomy : ltb room (wrapped_page_size identifier l) ≡ false

pub wrapping_passed : (v : List ℕ) (type : ℕ) (identifier key l : List ℕ) (room : ℕ) → wrapping_number v type identifier key l room ≡ 0
    → WrappingPassed v type identifier key l room
unfolding wrapping_number
wrapping_passed v type identifier key l room e = record { whole = none 0; permitted = none 1; short = none 2; roomy = none 3 }
  where
    none : (i : ℕ) → test_at (wrapping_tests v type identifier key l room) i ≡ false
    none i = none_applies (wrapping_tests v type identifier key l room) i refl e

-- what that says of the fields, the key and the identifier
module _ (v : List ℕ) (type : ℕ) (identifier key l : List ℕ) (room : ℕ) (h : WrappingPassed v type identifier key l room) where
  pub wrapping_fit : fields_fit v ≡ true
  wrapping_fit = good_fit v (not (eqb (format_given v) wrapped_format)) (or_left _ (not (is_kek_type type)) h.permitted)

  pub wrapping_key : length key ≡ key_size_lem
  wrapping_key = is_not-false key_size_lem key (or_right (not (page_list_ok l)) (is_not key_size_lem key) (or_left _ (eqb (length identifier) 0) h.whole))

-- ---- what 0 says of the page: its fields fit, and it does not pass its maximum

pub writable : (v : Chosen) (s l : List ℕ) (room : ℕ) → write_number (values_of v) s l room ≡ 0 → EachFits v × (page_size (length s) (length l) ≤ page_max)
writable v s l room e =
    let h = write_passed (values_of v) s l room e in
    (each_fits v (good_fit (values_of v) (part_refused (v.format) s) h.permitted), size_within (values_of v) s l room h.whole h.permitted h.short)

pub wrappable : (v : Chosen) (type : ℕ) (identifier key l : List ℕ) (room : ℕ) → wrapping_number (values_of v) type identifier key l room ≡ 0
    → EachFits v × (length key ≡ key_size_lem) × (length identifier ≤ name_max) × (wrapped_page_size identifier l ≤ page_max)
wrappable v type identifier key l room e =
    let h = wrapping_passed (values_of v) type identifier key l room e in (
      each_fits v (wrapping_fit (values_of v) type identifier key l room h),
      wrapping_key (values_of v) type identifier key l room h,
      name_short identifier l h.short,
      page_short identifier l h.short,
    )
