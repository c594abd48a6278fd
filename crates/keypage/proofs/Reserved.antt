-- A page with a reserved descriptor: the laws on it of specs/Laws.antt.
-- Assumes nothing.
use mathlib.Core.Path.{◌≡◌, refl}
use mathlib.Core.Bool.{Bool, true, false}
use mathlib.Core.List.{List}
use Prim.Native.Nat.{ℕ}
use Rattle.octets.proofs.Tests.{every-not}
use Rattle.keytable.specs.Table.{table_ok}
use Rattle.descriptors.proofs.StrictLaws.{reserved-not_ok}
use Rattle.keypage.specs.Page.{format_in, key_part_of, list_in, page_tests, page_ok}
use Rattle.keypage.specs.Read.{page_read_number, page_read_answer}
use Rattle.keypage.specs.Load.{row_named, load_number, load_row}
use Rattle.keypage.specs.Laws.{HoldsReserved, reserved_number, ReservedReadsTwo, ReservedLoadsTwo}
use Rattle.keypage.proofs.ReadNumbers.{unlisted_two}

not_laid : (p : List ℕ) → HoldsReserved p → page_ok p ≡ false
unfolding page_ok
not_laid p h = every-not (page_tests p) 5 (reserved-not_ok false (list_in p) h)

pub reserved-number : (p : List ℕ) → HoldsReserved p → page_read_number p ≡ 2
reserved-number p h = unlisted_two p (reserved-not_ok false (list_in p) h)

pub reserved_reads_two : ReservedReadsTwo
unfolding page_read_answer
reserved_reads_two p fields h = rw (reserved-number p h)

pub reserved_loads_two : ReservedLoadsTwo
unfolding load_row load_number
reserved_loads_two t p out fields h = go (table_ok t)
  where
    go : (ok : Bool) → load_row ok (row_named t (format_in p) (key_part_of p)) p out fields ≡ ((reserved_number ok, out), fields)
    go true = rw (not_laid p h)
    go false = refl
