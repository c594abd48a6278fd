-- Reading a page by itself: its tests, each number by the tests that led there, and what 0 says of the page.
-- Assumes nothing.
use mathlib.Core.Path.{◌≡◌, refl}
use mathlib.Core.Bool.{true, false, not}
use mathlib.Core.List.{List}
use Prim.Native.Nat.{ℕ}
use borrow.Author.Tests.{not-false}
use Rattle.std.specs.Prelude.{Some, None, IsSome}
use Rattle.octets.proofs.Lent.{test_at, none_applies}
use Rattle.octets.proofs.Tests.{or_left, every_at, or_right, every-not}
use Rattle.keypage.specs.Page.{format_in, key_part_of, list_in, page_list_ok, page_tests, page_ok, fields_of, fields_ok}
use Rattle.keypage.specs.KeyPart.{part_broken, by_format, part_refused}
use Rattle.keypage.specs.Read.{broken, refused, long, page_read_tests, page_read_number, page_read_answer}
use Rattle.keypage.specs.declared.parts.Format.TheVariants.{Plain, Reference, Wrapped}
use Rattle.keypage.proofs.KeyPart.{Passed, Known, known, as_plain, as-reference, as-wrapped}

-- a page whose list is not accepted
pub unlisted_two : (p : List ℕ) → page_list_ok (list_in p) ≡ false → page_read_number p ≡ 2
unfolding page_ok page_read_number
unlisted_two p e = rw (every-not (page_tests p) 5 e)

-- ---- the number 0: no test applies

abbrev pub ReadPassed : List ℕ → Type 0
ReadPassed p = Passed (broken p) (refused p) (long p)

pub read_passed : (p : List ℕ) → page_read_number p ≡ 0 → ReadPassed p
unfolding page_read_number
read_passed p e = record { whole = no 0; permitted = no 1; short = no 2 }
  where
    no : (i : ℕ) → test_at (page_read_tests p) i ≡ false
    no i = none_applies (page_read_tests p) i refl e

pub list_good : (p : List ℕ) → page_read_number p ≡ 0 → page_list_ok (list_in p) ≡ true
unfolding page_ok
list_good p e =
    every_at (page_tests p) 5 (not-false (page_ok p) (or_left (not (page_ok p)) (part_broken (format_in p) (key_part_of p)) (read_passed p e).whole))

-- its format is known
pub format_known : (p : List ℕ) → page_read_number p ≡ 0
    → IsSome (by_format (format_in p) (Some Plain) (Some Reference) (Some Wrapped) None)
format_known p e = go (known (format_in p) (key_part_of p) (or_right (not (fields_ok p)) (part_refused (format_in p) (key_part_of p)) (read_passed p e).permitted))
  where
    go : Known (format_in p) → IsSome (by_format (format_in p) (Some Plain) (Some Reference) (Some Wrapped) None)
    go (as_plain f) = rw f refl
    go (as-reference f) = rw f refl
    go (as-wrapped f) = rw f refl

-- ---- the answer of such a page

pub page-fields : (p fields : List ℕ) → page_read_number p ≡ 0 → page_read_answer p fields ≡ (0, fields_of p)
unfolding page_read_answer
page-fields p fields done = rw done
