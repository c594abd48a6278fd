-- 0 of writing, both ways: the fields have room in their bits, a reader accepts the page, and there is room for it.
-- Assumes nothing.
use mathlib.Core.Path.{◌≡◌, refl, sym, ◌∙◌}
use mathlib.Core.Bool.{Bool, true, false}
use mathlib.Core.List.{List, [], ◌∷◌}
use Prim.Native.Nat.{ℕ}
use native.Mathlib.Omega.{arith}
use borrow.Author.Tests.{eqb-true, eqb-false, le-ltb, lt-ltb}
use lib.Dec.{eqb, ltb}
use lib.ListN.{length}
use Rattle.octets.specs.Lent.{is_not}
use Rattle.octets.proofs.Lent.{is_not-false, is_not_right}
use Rattle.octets.proofs.Lowest.{lowest_passed}
use Rattle.keywrap.specs.Calls.{wrapped_size}
use Rattle.keypage.specs.Layout.{page_max}
use Rattle.keypage.specs.KeyPart.{wrapped_format, wrapped_of}
use Rattle.keypage.proofs.ReadNumbers.{read_passed}
use Rattle.keypage.proofs.Page.{passed_read, passed-readable, readable_passed}
use Rattle.keypage.proofs.KeyPart.{of-wrapped, not-wrapped}
use Rattle.page_writer.specs.Written.{page_size, page_of}
use Rattle.page_writer.specs.Write.{format_given, not_carried, readers_tests, write_number}
use Rattle.page_writer.specs.Laws.{Writable, WritesExactly, TooWideThree, TooLongFour}
use Rattle.page_writer.proofs.Parts.{length_page}
use Rattle.page_writer.proofs.Read.{numbers_agree}
use Rattle.page_writer.proofs.WriteNumbers.{write_passed, write_three, write_four}
use Rattle.page_writer.proofs.Written.{passed_fit, passed_roomy, passed_reads}

-- ---- a wrapped key that is carried

module _ (v s : List ℕ) where
  carried_size : not_carried v s ≡ false → format_given v ≡ wrapped_format → length (wrapped_of s) ≡ wrapped_size
  carried_size e is = is_not-false wrapped_size (wrapped_of s) (sym (of-wrapped (format_given v) false false (is_not wrapped_size (wrapped_of s)) false is) ∙ e)

  size_carried : (format_given v ≡ wrapped_format → length (wrapped_of s) ≡ wrapped_size) → not_carried v s ≡ false
  size_carried forty = go (eqb (format_given v) wrapped_format) refl
    where
      go : (t : Bool) → eqb (format_given v) wrapped_format ≡ t → not_carried v s ≡ false
      go true e =
          let is = eqb-true (format_given v) wrapped_format e in
          of-wrapped (format_given v) false false (is_not wrapped_size (wrapped_of s)) false is ∙ is_not_right wrapped_size (wrapped_of s) (forty is)
      go false e = not-wrapped (format_given v) (is_not wrapped_size (wrapped_of s)) false (eqb-false (format_given v) wrapped_format e)

-- ---- both ways

pub writes_exactly : WritesExactly
unfolding write_number
writes_exactly v part list room = (to, from)
  where
    to : write_number v part list room ≡ 0 → Writable v part list room
    to e =
        let h = write_passed v part list room e in
        record {
          fit = passed_fit v part list room h;
          readable = passed-readable (page_of v part list) (read_passed (page_of v part list) (passed_reads v part list room h));
          roomy = passed_roomy v part list room h;
          carried = carried_size v part h.carried;
        }

    from : Writable v part list room → write_number v part list room ≡ 0
    from h =
        let total = length_page v part list in
        let accepted = passed_read (page_of v part list) (readable_passed (page_of v part list) h.readable) in
        let none = numbers_agree v part list h.fit (omega (arith, total, h.readable.laid.short)) ∙ accepted in
        let roomy : ltb room (page_size (length part) (length list)) ≡ false = le-ltb room (page_size (length part) (length list)) (omega (arith, total, h.roomy)) in
        lowest_passed (readers_tests v part list) ((5, ltb room (page_size (length part) (length list))) ∷ (8, not_carried v part) ∷ []) refl none ∙ rw (roomy, size_carried v part h.carried)

-- ---- pages that cannot be written

pub too_wide_three : TooWideThree
too_wide_three v part list room whole wide = write_three v part list room whole (rw wide)

pub too-long_four : TooLongFour
too-long_four v part list room whole permitted long =
    write_four v part list room whole permitted (rw (lt-ltb page_max (page_size (length part) (length list)) (omega (arith, long, length_page v part list))))
