-- What 0 of either call tells: the page stands in the front of the output, and a reader accepts it.
-- Assumes nothing.
use mathlib.Core.Path.{◌≡◌, sym, ap, ◌∙◌}
use mathlib.Core.Bool.{true}
use mathlib.Core.List.{List}
use Prim.Native.Nat.{ℕ, ◌≤◌}
use native.Mathlib.Omega.{arith}
use borrow.Author.Tests.{ltb-false}
use lib.ListN.{length, take}
use Rattle.octets.specs.Lent.{lowest, over}
use Rattle.octets.proofs.Lent.{over_front}
use Rattle.keypage.specs.KeyPart.{part_refused}
use Rattle.keypage.specs.Read.{page_read_number}
use Rattle.keypage.proofs.ReadNumbers.{page-fields}
use Rattle.page_writer.specs.Written.{page_size, page_of}
use Rattle.page_writer.specs.Write.{format_given, fields_fit, readers_tests, write_number, write_answer}
use Rattle.page_writer.specs.Laws.{tellable, WrittenGivesBack}
use Rattle.page_writer.proofs.Parts.{length_page}
use Rattle.page_writer.proofs.Read.{numbers_agree, part_back, list_back, fields_back}
use Rattle.page_writer.proofs.WriteNumbers.{WritePassed, write_passed, size_within, good_fit}
use Rattle.page_writer.proofs.Answers.{write_done}

-- no test of writing applies
module _ (v s l : List ℕ) (room : ℕ) (h : WritePassed v s l room) where
  pub passed_fit : fields_fit v ≡ true
  passed_fit = good_fit v (part_refused (format_given v) s) h.permitted

  pub passed_short : page_size (length s) (length l) ≤ tellable
  passed_short = omega (arith, size_within v s l room h.whole h.permitted h.short)

  pub passed_roomy : length (page_of v s l) ≤ room
  passed_roomy = omega (arith, length_page v s l, ltb-false room (page_size (length s) (length l)) h.roomy)

  pub passed_reads : page_read_number (page_of v s l) ≡ 0
  passed_reads = sym (numbers_agree v s l passed_fit passed_short) ∙ none
    where
      none : lowest (readers_tests v s l) ≡ 0
      none = rw (h.whole, h.permitted, h.short)

-- the answer was 0
module _ (v s l out after : List ℕ) (n m : ℕ) (e : write_answer v s l out n ≡ ((0, after), m)) where
  number : write_number v s l (length out) ≡ 0
  unfolding write_answer
  number = ap (λ (x : (ℕ × List ℕ) × ℕ). x.0.0) e

  pub answer_passed : WritePassed v s l (length out)
  answer_passed = write_passed v s l (length out) number

  told : ◌≡◌ {A = (ℕ × List ℕ) × ℕ} ((0, over (page_of v s l) out), page_size (length s) (length l)) ((0, after), m)
  told = sym (write_done v s l out n number) ∙ e

  pub front_is : take m after ≡ page_of v s l
  front_is =
      ap (λ (k : ℕ). take k after) (sym (ap (λ (x : (ℕ × List ℕ) × ℕ). x.1) told))
      ∙ over_front (page_of v s l) out after (page_size (length s) (length l)) (length_page v s l) (omega (arith, length_page v s l, passed_roomy v s l (length out) answer_passed))
      (sym (ap (λ (x : (ℕ × List ℕ) × ℕ). x.0.1) told))

pub written_gives_back : WrittenGivesBack
written_gives_back v part list out after n m size e =
    let h = answer_passed v part list out after n m e in
    let fit = passed_fit v part list (length out) h in
    let short = passed_short v part list (length out) h in
    rw (front_is v part list out after n m e) (record {
      reads = λ fields. page-fields (page_of v part list) fields (passed_reads v part list (length out) h) ∙ ap (λ (x : List ℕ). (0, x)) (fields_back v part list fit short size);
      part_back = part_back v part list fit short;
      list_back = list_back v part list fit short;
    })
