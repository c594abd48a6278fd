-- The text of a list as it is written, and the answer by value that holds it.
-- Assumes nothing.
use mathlib.Core.Path.{◌≡◌, refl, sym, ap, subst, ◌∙◌}
use mathlib.Core.Bool.{Bool, true, false}
use mathlib.Core.List.{List, [], ◌∷◌, ◌++◌}
use Prim.Native.Nat.{ℕ, ◌+◌, ◌≤◌}
use native.Mathlib.Omega.{arith}
use borrow.Author.Tests.{ne_eqb}
use lib.ListN.{length, replicate, length-drop}
use Rattle.octets.specs.Tests.{part_of}
use Rattle.octets.proofs.Lent.{over_empty}
use Rattle.octets.proofs.Tests.{part-rest}
use Rattle.wording.specs.Ascii.{ascii}
use Rattle.wording.specs.Lines.{line}
use Rattle.descriptors.specs.Labels.{label_max, list_of, label_strict, label_number, label_answer}
use Rattle.descriptors.specs.Steps.{cursor_at_start, BegunAnswer}
use Rattle.descriptors.specs.Tested.{list_ok, unreserved, count_of}
use Rattle.descriptors.specs.Laws.{Accepted}
use Rattle.descriptors.specs.declared.reader.Reader.{Reader}
use Rattle.descriptors.specs.Parse.{split}
use Rattle.descriptors.specs.Readers.{standing, OpenedAnswer, opened_of}
use Rattle.descriptors.proofs.ReaderSteps.{Left, all_left}
use denote.Ref.{Bor}
use Rattle.descriptors.proofs.Answers.{begun-counted, ok-counted}
use Rattle.descriptors.proofs.Laws.{accepts_exactly, accepts_label}
use Rattle.keypage.specs.Layout.{key_part_at}
use Rattle.keypage.specs.Page.{key_length_of, page_strict, list_in, fields_of}
use Rattle.keypage.specs.Read.{page_read_number, page_read_answer}
use Rattle.keypage.proofs.Laws.{reads_exactly}
use Rattle.descriptor_text.specs.Lines.{descriptor_lines, list_text}
use Rattle.descriptor_text.specs.Described.{described_room, described_as, label_described, page_described}

-- ---- an accepted list opened: its count's line is to be written first, and then the lines of all that its reader has left

module _ (l : Bor (List ℕ)) (label strict : Bool) (ok : list_ok label strict l.now ≡ true) where
  whole_text : line (ascii "descriptors") (count_of label l.now) ++ descriptor_lines (unreserved label (split l.now).0) ≡ list_text label l.now
  unfolding list_text
  whole_text = refl

  module _ (count : ℕ) (reader : Reader) (opens : record { number = 0; count = count; reader = reader } ≡ opened_of l label strict) where
    opened : ◌≡◌ {A = OpenedAnswer} (record { number = 0; count = count; reader = reader })
        (record { number = 0; count = count_of label l.now; reader = standing l (cursor_at_start label strict) })
    opened =
        opens
        ∙ sym (ap (λ (b : BegunAnswer). record { number = b.number; count = b.count; reader = standing l b.place }) (begun-counted label strict l.now (count_of label l.now) ok refl))

    pub counted : line (ascii "descriptors") count ++ descriptor_lines (unreserved label (split l.now).0) ≡ list_text label l.now
    counted =
        ap (λ (o : OpenedAnswer). line (ascii "descriptors") o.count ++ descriptor_lines (unreserved label (split l.now).0)) opened ∙ whole_text

    pub at_start : Left label strict l.now reader (unreserved label (split l.now).0)
    at_start =
        subst (λ (d : Reader). Left label strict l.now d (unreserved label (split l.now).0)) (sym (ap (λ (o : OpenedAnswer). o.reader) opened))
        (all_left l label strict ok)

-- ---- the answer by value

pub described-refused : (n : ℕ) (text : List ℕ) → (n ≡ 0 → ⊥) → described_as n text ≡ (n, 0, replicate described_room 0)
described-refused n text h = rw (ne_eqb n 0 h) (ap (λ (l : List ℕ). (n, 0, l)) (over_empty (replicate described_room 0)))

-- ---- what number 0 says of a label's list and of a page's

list-ok : (label strict : Bool) (s : List ℕ) (n : ℕ) → Accepted label strict s n → list_ok label strict s ≡ true
list-ok label strict s n h = (ok-counted label strict s n ((accepts_exactly label strict s n).1 h)).0

pub label_list_ok : (s : List ℕ) → label_number s ≡ 0 → (list_ok true label_strict (list_of s) ≡ true) × (length (list_of s) ≤ label_max)
label_list_ok s zero =
    let accepted = (accepts_label s (count_of true (list_of s))).0 answers in
    (list-ok true label_strict (list_of s) (count_of true (list_of s)) accepted.list, omega (arith, accepted.short, length-drop 2 s))
  where
    answers : label_answer s ≡ (0, count_of true (list_of s) ∷ [])
    answers = rw zero

pub page-list-ok : (p : List ℕ) → page_read_number p ≡ 0 → (list_ok false page_strict (list_in p) ≡ true) × (length (list_in p) ≤ label_max)
unfolding page_read_answer
page-list-ok p zero =
    let read = ((reads_exactly p [] (fields_of p)).0 answers).0 in
    (list-ok false page_strict (list_in p) read.count read.laid.list, omega (arith, read.laid.short, length-drop (key_part_at + key_length_of p) p))
  where
    answers : page_read_answer p [] ≡ (0, fields_of p)
    answers = rw zero

-- ---- so the calls

module _ (s : List ℕ) (n : ℕ) (number : label_number s ≡ n) where
  pub label-refused : (n ≡ 0 → ⊥) → label_described s ≡ (n, 0, replicate described_room 0)
  unfolding label_described
  label-refused h = ap (λ (m : ℕ). described_as m (list_text true (list_of s))) number ∙ described-refused n (list_text true (list_of s)) h

module _ (s : List ℕ) (zero : label_number s ≡ 0) (list : List ℕ) (is : list ≡ part_of s 2 (length s)) where
  rest : list ≡ list_of s
  rest = is ∙ part-rest s 2

  pub label_tested : (list_ok true label_strict list ≡ true) × (length list ≤ label_max)
  label_tested = rw rest (label_list_ok s zero)

  pub label-done : label_described s ≡ described_as 0 (list_text true list)
  unfolding label_described
  label-done = ap (λ (m : ℕ). described_as m (list_text true (list_of s))) zero ∙ ap (λ (l : List ℕ). described_as 0 (list_text true l)) (sym rest)

module _ (p : List ℕ) (n : ℕ) (number : n ≡ page_read_number p) where
  pub page-refused : (n ≡ 0 → ⊥) → page_described p ≡ (n, 0, replicate described_room 0)
  unfolding page_described
  page-refused h = ap (λ (m : ℕ). described_as m (list_text false (list_in p))) (sym number) ∙ described-refused n (list_text false (list_in p)) h

module _ (p : List ℕ) (zero : 0 ≡ page_read_number p) (list : List ℕ) (is : list ≡ list_in p) where
  pub page_tested : (list_ok false page_strict list ≡ true) × (length list ≤ label_max)
  page_tested = rw is (page-list-ok p (sym zero))

  pub page-done : page_described p ≡ described_as 0 (list_text false list)
  unfolding page_described
  page-done = ap (λ (m : ℕ). described_as m (list_text false (list_in p))) (sym zero) ∙ ap (λ (l : List ℕ). described_as 0 (list_text false l)) (sym is)
