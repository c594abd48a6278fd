-- The KEY part by its format: what format 04h's value has, which formats are known, what its tests tell, and what passes them.
-- Assumes nothing.
use mathlib.Core.Path.{◌≡◌, refl, sym, ap}
use mathlib.Core.Bool.{Bool, true, false, not, ◌||◌, false≢true}
use mathlib.Core.List.{List}
use Prim.Native.Nat.{ℕ, ◌+◌, ◌≤◌}
use native.Mathlib.Omega.{arith}
use borrow.Author.Tests.{eqb-true, eqb-false, ne_eqb, ltb-false, le-ltb, leb-true, le-leb, not-false}
use lib.Dec.{eqb}
use lib.ListN.{length}
use Rattle.std.specs.Prelude.{Some, None}
use Rattle.octets.specs.Lent.{when}
use Rattle.octets.specs.Tests.{every}
use Rattle.octets.proofs.Lent.{is_not-false, is_not_right}
use Rattle.octets.proofs.Tests.{every_at}
use Rattle.keytable.specs.Row.{name_max, row_key_size, is_kek_type}
use Rattle.keypage.specs.KeyPart.{plain_format, reference_format, wrapped_format, reference_min, by_format, needs_row}
use Rattle.keypage.specs.KeyPart.{kek_type, identifier_size_of, identifier_at, wrapped_tests, part_broken, part_refused, part_long}
use Rattle.keypage.specs.declared.parts.Format.TheVariants.{Plain, Reference, Wrapped}
use Rattle.keypage.specs.Laws.{PartLaid, plain, reference, wrapped}

-- ---- what format 04h's value has

pub of-wrapped : {A : Type 0} (f : ℕ) (a b c d : A) → f ≡ wrapped_format → by_format f a b c d ≡ c
of-wrapped f a b c d e = rw e

-- a number that names it
pub names-wrapped : (f : ℕ) → by_format f (Some Plain) (Some Reference) (Some Wrapped) None ≡ Some Wrapped → f ≡ wrapped_format
names-wrapped f e = go (eqb f plain_format) (eqb f reference_format) (eqb f wrapped_format) refl e
  where
    go : (a b c : Bool) → eqb f wrapped_format ≡ c → when a (Some Plain) (when b (Some Reference) (when c (Some Wrapped) None)) ≡ Some Wrapped → f ≡ wrapped_format
    go true b c r h = cc
    go false true c r h = cc
    go false false true r h = eqb-true f wrapped_format r
    go false false false r h = cc

-- where all formats but one have the same
pub not-wrapped : {A : Type 0} (f : ℕ) (one others : A) → (f ≡ wrapped_format → ⊥) → by_format f others others one others ≡ others
not-wrapped f one others another = go (eqb f plain_format) (eqb f reference_format)
  where
    go : (a b : Bool) → when a others (when b others (when (eqb f wrapped_format) one others)) ≡ others
    go true b = refl
    go false true = refl
    go false false = rw (ne_eqb f wrapped_format another)

-- ---- the formats that are known

pub data Known (f : ℕ) : Type 0 where
  as_plain : f ≡ plain_format → Known f
  as-reference : f ≡ reference_format → Known f
  as-wrapped : f ≡ wrapped_format → Known f

pub known : (f : ℕ) (s : List ℕ) → part_refused f s ≡ false → Known f
unfolding part_refused
known f s e = go (eqb f plain_format) (eqb f reference_format) (eqb f wrapped_format) refl refl refl e
  where
    go : (a b c : Bool) → eqb f plain_format ≡ a → eqb f reference_format ≡ b → eqb f wrapped_format ≡ c
        → when a false (when b false (when c (not (is_kek_type (kek_type s))) true)) ≡ false → Known f
    go true b c p q r h = as_plain (eqb-true f plain_format p)
    go false true c p q r h = as-reference (eqb-true f reference_format q)
    go false false true p q r h = as-wrapped (eqb-true f wrapped_format r)
    go false false false p q r h = absurd (false≢true (sym h))

-- a known format that is neither of the first two is the third
pub third_format : (f : ℕ) → Known f → (f ≡ plain_format → ⊥) → (f ≡ reference_format → ⊥) → f ≡ wrapped_format
third_format f (as_plain e) a b = absurd (a e)
third_format f (as-reference e) a b = absurd (b e)
third_format f (as-wrapped e) a b = e

-- all but the plain one need a row
pub known_needs : (f : ℕ) → Known f → (f ≡ plain_format → ⊥) → needs_row f ≡ true
known_needs f (as_plain e) n = absurd (n e)
known_needs f (as-reference e) n = ap needs_row e
known_needs f (as-wrapped e) n = ap needs_row e

-- ---- the KEK type

pub kek-type : (k : ℕ) → is_kek_type k ≡ true → (1 ≤ k) × (k ≤ 2)
kek-type k e = go (eqb k 1) (eqb k 2) refl refl e
  where
    go : (a b : Bool) → eqb k 1 ≡ a → eqb k 2 ≡ b → (a || b) ≡ true → (1 ≤ k) × (k ≤ 2)
    go true b p q h = let one = eqb-true k 1 p in (omega arith, omega arith)
    go false true p q h = let two = eqb-true k 2 q in (omega arith, omega arith)
    go false false p q h = absurd (false≢true h)

type_kek : (k : ℕ) → 1 ≤ k → k ≤ 2 → is_kek_type k ≡ true
type_kek k low high = go (eqb k 1) (eqb k 2) refl refl
  where
    go : (a b : Bool) → eqb k 1 ≡ a → eqb k 2 ≡ b → (a || b) ≡ true
    go true b p q = refl
    go false true p q = refl
    go false false p q = absurd (eqb-false k 2 q (omega (arith, eqb-false k 1 p)))

-- ---- each format's tests, both ways

-- none of the tests for 2, 3 and 4 applies: of a whole page (proofs/ReadNumbers.antt), and of a part
pub record Passed (broken refused long : Bool) : Type 0 where
  pub whole : broken ≡ false
  pub permitted : refused ≡ false
  pub short : long ≡ false

abbrev pub PartPassed : ℕ → List ℕ → Type 0
PartPassed f s = Passed (part_broken f s) (part_refused f s) (part_long f s)

module _ (s : List ℕ) where
  pub plain_size : PartPassed plain_format s → length s ≡ row_key_size
  unfolding part_broken
  plain_size h = is_not-false row_key_size s h.whole

  laid-plain : length s ≡ row_key_size → PartPassed plain_format s
  unfolding part_broken part_refused part_long
  laid-plain size = record { whole = is_not_right row_key_size s size; permitted = refl; short = refl }

  reference_laid : PartPassed reference_format s → PartLaid reference_format s
  unfolding part_broken part_long
  reference_laid h = reference refl (ltb-false (length s) reference_min h.whole) (ltb-false name_max (length s) h.short)

  laid-reference : reference_min ≤ length s → length s ≤ name_max → PartPassed reference_format s
  unfolding part_broken part_refused part_long
  laid-reference least most =
      record { whole = le-ltb (length s) reference_min least; permitted = refl; short = le-ltb name_max (length s) most }

  wrapped_laid : PartPassed wrapped_format s → PartLaid wrapped_format s
  unfolding part_broken part_refused part_long
  wrapped_laid h =
      let tests = not-false (every (wrapped_tests s)) h.whole in
      let kind = kek-type (kek_type s) (not-false (is_kek_type (kek_type s)) h.permitted) in
      wrapped refl kind.0 kind.1
      (leb-true 1 (identifier_size_of s) (every_at (wrapped_tests s) 1 tests))
      (ltb-false name_max (identifier_size_of s) h.short)
      (leb-true (identifier_at + identifier_size_of s) (length s) (every_at (wrapped_tests s) 2 tests))

  laid-wrapped : 1 ≤ kek_type s → kek_type s ≤ 2 → 1 ≤ identifier_size_of s → identifier_size_of s ≤ name_max → identifier_at + identifier_size_of s ≤ length s
      → PartPassed wrapped_format s
  unfolding part_broken part_refused part_long
  laid-wrapped low high there most within =
      record {
        whole = rw (le-leb identifier_at (length s) (omega arith), le-leb 1 (identifier_size_of s) there, le-leb (identifier_at + identifier_size_of s) (length s) within);
        permitted = ap not (type_kek (kek_type s) low high);
        short = le-ltb name_max (identifier_size_of s) most;
      }

-- ---- and of any format

pub part_laid : (f : ℕ) (s : List ℕ) → PartPassed f s → PartLaid f s
part_laid f s h = go (known f s h.permitted)
  where
    go : Known f → PartLaid f s
    go (as_plain e) = plain e (plain_size s (rw e at h))
    go (as-reference e) = rw e (reference_laid s (rw e at h))
    go (as-wrapped e) = rw e (wrapped_laid s (rw e at h))

pub laid_part : (f : ℕ) (s : List ℕ) → PartLaid f s → PartPassed f s
laid_part f s (plain e size) = rw e (laid-plain s size)
laid_part f s (reference e least most) = rw e (laid-reference s least most)
laid_part f s (wrapped e low high there most within) = rw e (laid-wrapped s low high there most within)
