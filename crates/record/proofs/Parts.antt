-- A record that keeps to the layout: what each test tells, and that it is its front, its IV, its ciphertext and its tag, end to end.
-- Assumes nothing.
use mathlib.Core.Path.{◌≡◌, ap, ◌∙◌}
use mathlib.Core.Bool.{true, ◌&&◌, and-true}
use mathlib.Core.List.{List, ◌++◌}
use Prim.Native.Nat.{ℕ, ◌≤◌}
use native.Mathlib.Omega.{arith}
use borrow.Author.Tests.{eqb-true, eq-eqb, leb-true, le-leb}
use lib.Dec.{eqb, leb}
use lib.ListN.{length, get_or}
use Rattle.octets.specs.Bytes.{Bytes}
use Rattle.octets.specs.BigEndian.{number_at}
use Rattle.octets.proofs.Bytes.{bytes_take, bytes_drop}
use Rattle.octets.proofs.Tests.{every_at, length_part, parts_whole}
use Rattle.modes.specs.Modes.{mode_of}
use Rattle.modes.proofs.Laws.{modes_permit}
use Rattle.record.specs.Record.{record_format, name_at, iv_at_lem, text_at_lem, tag_at, end_at, mode_in, count_in, name_size_lem}
use Rattle.record.specs.Record.{mode_for, end_in, layout_tests, layout_ok, front_in, name_in, iv_in, text_in, tag_in}

-- each word of the header and the end, as the layout has them
pub record Kept (r : List ℕ) : Type 0 where
  pub format : number_at 2 r 0 ≡ record_format
  pub zero_byte : get_or r 3 0 ≡ 0
  pub name-at : number_at 2 r 8 ≡ name_at
  pub named : 1 ≤ name_size_lem r
  pub iv_at : number_at 2 r 12 ≡ iv_at_lem (name_size_lem r)
  pub iv-long : number_at 2 r 14 ≡ (mode_for r).iv_size
  pub text_at : number_at 4 r 16 ≡ text_at_lem (mode_for r) (name_size_lem r)
  pub tag-at : number_at 4 r 20 ≡ tag_at (mode_for r) (name_size_lem r) (count_in r)
  pub end-at : length r ≡ end_in r
  pub permitted : (mode_for r).permits (count_in r) ≡ true

pub layout-kept : (r : List ℕ) → layout_ok r ≡ true → Kept r
unfolding layout_ok
layout-kept r e =
    record {
      format = eqb-true _ _ (test 0);
      zero_byte = eqb-true _ _ (test 1);
      name-at = eqb-true _ _ (test 2);
      named = leb-true _ _ (test 3);
      iv_at = eqb-true _ _ (test 4);
      iv-long = eqb-true _ _ (test 5);
      text_at = eqb-true _ _ (test 6);
      tag-at = eqb-true _ _ (test 7);
      end-at = eqb-true _ _ (test 8);
      permitted = test 9;
    }
  where
    test : (i : ℕ) → get_or (layout_tests r) i true ≡ true
    test i = every_at (layout_tests r) i e

pub kept_layout : (r : List ℕ) → Kept r → layout_ok r ≡ true
unfolding layout_ok
kept_layout r h =
    rw (
      eq-eqb (number_at 2 r 0) record_format h.format,
      eq-eqb (get_or r 3 0) 0 h.zero_byte,
      eq-eqb (number_at 2 r 8) name_at h.name-at,
      le-leb 1 (name_size_lem r) h.named,
      eq-eqb (number_at 2 r 12) (iv_at_lem (name_size_lem r)) h.iv_at,
      eq-eqb (number_at 2 r 14) (mode_for r).iv_size h.iv-long,
      eq-eqb (number_at 4 r 16) (text_at_lem (mode_for r) (name_size_lem r)) h.text_at,
      eq-eqb (number_at 4 r 20) (tag_at (mode_for r) (name_size_lem r) (count_in r)) h.tag-at,
      eq-eqb (length r) (end_in r) h.end-at,
      h.permitted,
    )

-- ---- from the numbers that were read

-- the tests one after another, of the fields, the places and the words; both modes permit every count
pub layout_tested : (r : List ℕ) (u k n iv iv-size text tag end a b c d e f h : ℕ)
    → u ≡ mode_in r → k ≡ name_size_lem r → n ≡ count_in r → iv ≡ iv_at_lem k → iv-size ≡ (mode_of u).iv_size → text ≡ text_at_lem (mode_of u) k
    → tag ≡ tag_at (mode_of u) k n → end ≡ end_at (mode_of u) k n
    → a ≡ number_at 2 r 0 → b ≡ get_or r 3 0 → c ≡ number_at 2 r 8 → d ≡ number_at 2 r 12 → e ≡ number_at 2 r 14 → f ≡ number_at 4 r 16 → h ≡ number_at 4 r 20
    → (eqb a record_format && eqb b 0 && eqb c name_at && leb 1 k && eqb d iv && eqb e iv-size && eqb f text && eqb h tag && eqb (length r) end) ≡ layout_ok r
unfolding layout_ok
layout_tested r u k n iv iv-size text tag end a b c d e f h eu ek en ei ev ex et ez ea eb ec ed ee ef eh =
    rw (ei, ev, ex, et, ez, eu, ek, en, ea, eb, ec, ed, ee, ef, eh, modes_permit (mode_in r) (count_in r), and-true)

-- ---- the parts

module _ (r : List ℕ) (layout : layout_ok r ≡ true) where
  ends : length r ≡ end_in r
  ends = (layout-kept r layout).end-at

  pub parts_record : front_in r ++ (iv_in r ++ (text_in r ++ tag_in r)) ≡ r
  unfolding front_in iv_in text_in tag_in
  parts_record = parts_whole r (iv_at_lem (name_size_lem r)) (mode_for r).iv_size (count_in r) (mode_for r).tag_size ends

  pub length-front_in : length (front_in r) ≡ iv_at_lem (name_size_lem r)
  unfolding front_in
  length-front_in = length_part r 0 (iv_at_lem (name_size_lem r)) (omega (arith, ends))

  pub length-name_in : length (name_in r) ≡ name_size_lem r
  unfolding name_in
  length-name_in = length_part r name_at (name_size_lem r) (omega (arith, ends))

  pub length-iv_in : length (iv_in r) ≡ (mode_for r).iv_size
  unfolding iv_in
  length-iv_in = length_part r (iv_at_lem (name_size_lem r)) (mode_for r).iv_size (omega (arith, ends))

  pub length-text_in : length (text_in r) ≡ count_in r
  unfolding text_in
  length-text_in = length_part r (text_at_lem (mode_for r) (name_size_lem r)) (count_in r) (omega (arith, ends))

  pub length-tag_in : length (tag_in r) ≡ (mode_for r).tag_size
  unfolding tag_in
  length-tag_in = length_part r (tag_at (mode_for r) (name_size_lem r) (count_in r)) (mode_for r).tag_size (omega (arith, ends))

  pub permits-text_in : (mode_for r).permits (length (text_in r)) ≡ true
  permits-text_in = ap (mode_for r).permits length-text_in ∙ (layout-kept r layout).permitted

-- the parts of bytes are bytes
module _ (r : List ℕ) (bytes : Bytes r) where
  pub bytes-iv_in : Bytes (iv_in r)
  unfolding iv_in
  bytes-iv_in = bytes_take (mode_for r).iv_size (bytes_drop (iv_at_lem (name_size_lem r)) bytes)

  pub bytes-text_in : Bytes (text_in r)
  unfolding text_in
  bytes-text_in = bytes_take (count_in r) (bytes_drop (text_at_lem (mode_for r) (name_size_lem r)) bytes)
