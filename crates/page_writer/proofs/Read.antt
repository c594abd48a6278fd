-- What a reader finds in a page that was written: its tests are the writer's, and its fields and parts are those that were given.
-- Assumes nothing.
use mathlib.Core.Path.{◌≡◌, sym, ap, ap₂, ◌∙◌}
use mathlib.Core.Bool.{Bool, true, not, ◌&&◌, ◌||◌}
use mathlib.Core.List.{List, [], ◌∷◌, ◌++◌}
use Prim.Native.Nat.{ℕ, ◌+◌, ◌≤◌}
use native.Mathlib.Omega.{arith}
use borrow.Author.Tests.{eq-eqb, le-leb}
use lib.Dec.{ltb}
use lib.ListN.{length}
use Rattle.octets.specs.BigEndian.{number_at}
use Rattle.octets.specs.Lent.{lowest}
use Rattle.octets.proofs.Values.{values_list}
use Rattle.keypage.specs.Layout.{code_at, page_code, page_length_at, before_length, page_max}
use Rattle.keypage.specs.Page.{reserved_in, format_in, chosen_in, key_part_of, list_at, list_in, page_list_ok, page_list_count, page_ok, fields_ok, fields_of}
use Rattle.keypage.specs.KeyPart.{part_broken, part_refused, part_long}
use Rattle.keypage.specs.Read.{broken, refused, long, page_read_number}
use Rattle.page_writer.specs.Written.{page_size, page_of}
use Rattle.page_writer.specs.Write.{format_given, fields_fit, fields_permitted, write_broken, write_refused, write_long, readers_tests}
use Rattle.page_writer.specs.Laws.{chosen_count, tellable, ReadersNumber}
use Rattle.page_writer.proofs.Parts.{length_page}
use Rattle.page_writer.proofs.ReadHead.{listed, page_listed, code_read, zeros_read, length_read, key-length_read, part_read, list_read}
use Rattle.page_writer.proofs.ReadHead.{scope_read, zero_read, lock_read, ceem_read, rdmc_read, sdk_read, ckod_read, ckorp_read, ckorl_read}
use Rattle.page_writer.proofs.ReadHead.{encryption_read, decryption_read, algorithm_read, format_read}

module _ (v s l : List ℕ) (ok : fields_fit v ≡ true) (short : page_size (length s) (length l) ≤ tellable) where
  abbrev p : List ℕ
  p = page_of v s l

  abbrev q : List ℕ
  q = listed v s l

  is : p ≡ q
  is = page_listed v s l

  -- ---- its parts

  pub format_back : format_in p ≡ format_given v
  format_back = rw is (format_read v s l ok)

  pub part_back : key_part_of p ≡ s
  part_back = rw is (part_read v s l short)

  pub list_back : list_in p ≡ l
  list_back = rw is (list_read v s l short)

  total : length p ≡ page_size (length s) (length l)
  total = length_page v s l

  -- ---- its tests

  layout_read : page_ok q ≡ page_list_ok l
  unfolding page_ok
  layout_read =
      let whole : length q ≡ page_size (length s) (length l) = sym (ap length is) ∙ total in
      rw (
        eq-eqb (number_at 2 q code_at) page_code (code_read v s l),
        eq-eqb (length q) (number_at 2 q page_length_at + before_length) (omega (arith, whole, length_read v s l short)),
        eq-eqb (reserved_in q) 0 (zero_read v s l ok),
        zeros_read v s l,
        le-leb (list_at q) (length q) (omega (arith, whole, key-length_read v s l short)),
        list_read v s l short,
      )

  permitted_read : fields_ok q ≡ fields_permitted v
  unfolding fields_ok fields_permitted
  permitted_read = rw (scope_read v s l ok, encryption_read v s l ok, decryption_read v s l ok, algorithm_read v s l ok)

  -- a test of the KEY part, by its format
  of_part : (test : ℕ → List ℕ → Bool) → test (format_in p) (key_part_of p) ≡ test (format_given v) s
  of_part test = ap₂ test format_back part_back

  broken_is : broken p ≡ write_broken v s l
  broken_is = ap₂ (λ (a b : Bool). not a || b) (ap page_ok is ∙ layout_read) (of_part part_broken)

  refused_is : refused p ≡ write_refused v s
  refused_is =
      ap₂ (λ (a b : Bool). not a || b) (ap fields_ok is ∙ permitted_read ∙ ap (λ (t : Bool). t && fields_permitted v) (sym ok)) (of_part part_refused)

  long_is : long p ≡ write_long v s l
  long_is = ap₂ (λ (a b : Bool). a || b) (ap (ltb page_max) total) (of_part part_long)

  pub numbers_agree : lowest (readers_tests v s l) ≡ page_read_number p
  unfolding page_read_number
  numbers_agree = rw (← broken_is, ← refused_is, ← long_is)

  -- ---- its fields

  chosen_back : length v ≡ chosen_count → chosen_in p ≡ v
  chosen_back size =
      rw is
      (rw (
        scope_read v s l ok,
        lock_read v s l ok,
        ceem_read v s l ok,
        rdmc_read v s l ok,
        sdk_read v s l ok,
        ckod_read v s l ok,
        ckorp_read v s l ok,
        ckorl_read v s l ok,
        encryption_read v s l ok,
        decryption_read v s l ok,
        algorithm_read v s l ok,
        format_read v s l ok,
      )
      (values_list v 0 12 size))

  pub fields_back : length v ≡ chosen_count → fields_of p ≡ v ++ length s ∷ page_list_count l ∷ []
  unfolding fields_of
  fields_back size =
      ap₂ (λ (a b : List ℕ). a ++ b) (chosen_back size)
      (ap₂ (λ (a b : ℕ). a ∷ b ∷ []) (ap (λ (r : List ℕ). number_at 2 r 18) is ∙ key-length_read v s l short) (ap page_list_count list_back))

pub readers-number : ReadersNumber
readers-number v part list ok short = numbers_agree v part list ok (omega (arith, short, length_page v part list))
