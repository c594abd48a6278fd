-- A page that a reader accepts is the page of its own fields, KEY part and list, byte for byte; so writing it again gives the same bytes.
-- Assumes nothing.
use mathlib.Core.Path.{◌≡◌, refl, sym, ap, ap₂, ◌∙◌}
use mathlib.Core.Bool.{true, false}
use mathlib.Core.List.{List, ◌++◌}
use Prim.Native.Nat.{ℕ, ◌+◌, ◌-◌, ◌*◌, ◌/◌, ◌%◌, ◌^◌, ◌≤◌, ◌<◌}
use native.Mathlib.Nat.{mod-lt}
use native.Mathlib.Omega.{arith}
use borrow.Author.Tests.{eqb-true, lt-ltb}
use lib.Dec.{eqb, ltb, lit<}
use lib.ListN.{length, get_or, take, drop, length-drop, take-append-drop}
use lib.Seq.{get_or-take, get_or-drop}
use Rattle.octets.specs.Bytes.{Bytes}
use Rattle.octets.specs.BigEndian.{number_at}
use Rattle.octets.specs.Lent.{over}
use Rattle.octets.specs.Tests.{part_of}
use Rattle.octets.proofs.BigEndian.{number_at_two}
use Rattle.octets.proofs.Tests.{all_at, length_part, part_next}
use Rattle.octets.proofs.Values.{cons_equal, values_part}
use Rattle.descriptors.proofs.StrictLaws.{strict-shows-whole}
use Rattle.keypage.specs.Layout.{page_length_at, before_length, zeros_at, zeros_count, key_part_at}
use Rattle.keypage.specs.Page.{chosen_in, key_length_of, key_part_of, list_at, list_in}
use Rattle.keypage.specs.Laws.{Laid}
use Rattle.keypage.proofs.ReadNumbers.{read_passed, list_good}
use Rattle.keypage.proofs.Page.{passed-readable}
use Rattle.page_writer.specs.Written.{head_of, page_size, page_of}
use Rattle.page_writer.specs.Write.{fields_fit, write_answer}
use Rattle.page_writer.specs.Laws.{PageAgain, WritesAgain}
use Rattle.page_writer.proofs.Head.{head_list, head-list}
use Rattle.page_writer.proofs.Parts.{length_page}
use Rattle.page_writer.proofs.Answers.{write_done}
use Rattle.page_writer.proofs.Exactly.{writes_exactly}

-- ---- the fields that are read of any page have room in their bits

pub read_fit : (p : List ℕ) → fields_fit (chosen_in p) ≡ true
unfolding fields_fit
read_fit p =
    rw (
      below 4 32 8 (lit< tt),
      below 4 1 2 (lit< tt),
      below 5 64 4 (lit< tt),
      below 5 16 4 (lit< tt),
      below 5 8 2 (lit< tt),
      below 5 4 2 (lit< tt),
      below 5 2 2 (lit< tt),
      below 5 1 2 (lit< tt),
      below 6 1 256 (lit< tt),
      below 7 1 256 (lit< tt),
      below 8 1 256 (lit< tt),
      below 9 1 256 (lit< tt),
    )
  where
    below : (i w n : ℕ) → 0 < n → ltb (get_or p i 0 / w % n) n ≡ true
    below i w n some = lt-ltb (get_or p i 0 / w % n) n (mod-lt (get_or p i 0 / w) some)

-- ---- byte 5, taken apart into its six fields and put together again

joined : (x x1 x2 x3 x4 ceem rdmc sdk ckod ckorp ckorl : ℕ) → x ≡ x1 * 2 + ckorl → x1 ≡ x2 * 2 + ckorp → x2 ≡ x3 * 2 + ckod → x3 ≡ x4 * 2 + sdk → x4 ≡ ceem * 4 + rdmc
    → ceem * 64 + rdmc * 16 + sdk * 8 + ckod * 4 + ckorp * 2 + ckorl * 1 ≡ x
joined x x1 x2 x3 x4 ceem rdmc sdk ckod ckorp ckorl a b c d e = omega arith

six-fields : (x : ℕ) → x < 256
    → x / 64 % 4 * 64 + x / 16 % 4 * 16 + x / 8 % 2 * 8 + x / 4 % 2 * 4 + x / 2 % 2 * 2 + x / 1 % 2 * 1 ≡ x
six-fields x small =
    joined x (x / 2) (x / 4) (x / 8) (x / 16) (x / 64 % 4) (x / 16 % 4) (x / 8 % 2) (x / 4 % 2) (x / 2 % 2) (x / 1 % 2)
    (omega arith) (omega arith) (omega arith) (omega arith) (omega arith)

-- ---- the head

module _ (p : List ℕ) (n : ℕ) (bytes : Bytes p) (h : Laid p n) where
  abbrev at : ℕ → ℕ
  at i = get_or p i 0

  small : (i : ℕ) → at i < 256
  small = bytes.byte

  within : key_part_at + key_length_of p ≤ length p
  within = h.key_within

  -- a word's two bytes, by the number that they make
  upper : (i m : ℕ) → number_at 2 p i ≡ m → at (i + 0) ≡ m / 256 ^ 1 % 256
  upper i m e = omega (arith, number_at_two p i, e, small (i + 0), small (i + 1))

  lower : (i m : ℕ) → number_at 2 p i ≡ m → at (i + 1) ≡ m / 256 ^ 0 % 256
  lower i m e = omega (arith, number_at_two p i, e, small (i + 0), small (i + 1))

  total : number_at 2 p page_length_at ≡ length p - before_length
  total = omega (arith, h.total)

  -- a byte that is kept zero
  zero_at : (k : ℕ) → k < zeros_count → at (zeros_at + k) ≡ 0
  zero_at k below =
      let size = length_part p zeros_at zeros_count (omega (arith, within)) in
      sym (get_or-take zeros_count (drop zeros_at p) k 0 below ∙ get_or-drop zeros_at p k 0)
      ∙ eqb-true (get_or (part_of p zeros_at zeros_count) k 0) 0 (all_at (λ (b : ℕ). eqb b 0) (part_of p zeros_at zeros_count) k 0 h.reserved_bytes (omega (arith, size, below)))

  pub head-again : head_list (chosen_in p) (key_length_of p) (length p) ≡ take key_part_at p
  head-again =
      cons_equal (sym (upper 0 16 h.code))
      (cons_equal (sym (lower 0 16 h.code))
      (cons_equal (sym (upper 2 (length p - before_length) total))
      (cons_equal (sym (lower 2 (length p - before_length) total))
      (cons_equal (omega (arith, small 4, h.reserved-bits))
      (cons_equal (six-fields (at 5) (small 5))
      (cons_equal (omega (arith, small 6))
      (cons_equal (omega (arith, small 7))
      (cons_equal (omega (arith, small 8))
      (cons_equal (omega (arith, small 9))
      (cons_equal (sym (zero_at 0 (lit< tt)))
      (cons_equal (sym (zero_at 1 (lit< tt)))
      (cons_equal (sym (zero_at 2 (lit< tt)))
      (cons_equal (sym (zero_at 3 (lit< tt)))
      (cons_equal (sym (zero_at 4 (lit< tt)))
      (cons_equal (sym (zero_at 5 (lit< tt)))
      (cons_equal (sym (zero_at 6 (lit< tt)))
      (cons_equal (sym (zero_at 7 (lit< tt)))
      (cons_equal (sym (upper 18 (key_length_of p) refl))
      (cons_equal (sym (lower 18 (key_length_of p) refl)) refl)))))))))))))))))))
      ∙ values_part p 0 0 key_part_at (omega (arith, within))

  pub laid-again : page_of (chosen_in p) (key_part_of p) (list_in p) ≡ p
  unfolding page_of
  laid-again =
      let part-size : length (key_part_of p) ≡ key_length_of p = length_part p key_part_at (key_length_of p) within in
      let size : page_size (length (key_part_of p)) (length (list_in p)) ≡ length p = omega (arith, part-size, length-drop (list_at p) p, within) in
      ap₂ (λ (k m : ℕ). head_of (chosen_in p) k m ++ (key_part_of p ++ list_in p)) part-size size
      ∙ ap₂ (λ (a b : List ℕ). a ++ b) (head-list (chosen_in p) (key_length_of p) (length p) ∙ head-again) (part_next p key_part_at (key_length_of p))
      ∙ take-append-drop key_part_at p

pub page-again : PageAgain
page-again p bytes accepted =
    let r = passed-readable p (read_passed p accepted) in
    laid-again p r.count bytes r.laid

pub writes_again : WritesAgain
writes_again p out n bytes accepted forty roomy =
    let same = page-again p bytes accepted in
    let total : length (page_of (chosen_in p) (key_part_of p) (list_in p)) ≡ length p = ap length same in
    let sized = length_page (chosen_in p) (key_part_of p) (list_in p) in
    let zero =
    (writes_exactly (chosen_in p) (key_part_of p) (list_in p) (length out)).1 (record {
      fit = read_fit p;
      readable = rw same (passed-readable p (read_passed p accepted));
      roomy = omega (arith, total, roomy);
      carried = forty;
    }) in
    ap (λ (l : List ℕ). write_answer (chosen_in p) (key_part_of p) l out n) (strict-shows-whole false (list_in p) (list_good p accepted))
    ∙ write_done (chosen_in p) (key_part_of p) (list_in p) out n zero
    ∙ ap₂ (λ (q : List ℕ) (m : ℕ). ((0, over q out), m)) same (sym sized ∙ total)
