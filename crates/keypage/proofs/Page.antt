-- What 0 of reading tells: no test applied, and so the page keeps to the layout with permitted values; and the other way.
-- Assumes nothing.
use mathlib.Core.Path.{◌≡◌, refl, ap}
use mathlib.Core.Bool.{true, false, not}
use mathlib.Core.List.{List}
use Prim.Native.Nat.{ℕ, ◌+◌, ◌≤◌}
use borrow.Author.Tests.{eqb-true, eq-eqb, ltb-false, le-ltb, leb-true, le-leb, not-false}
use lib.Dec.{ltb}
use lib.ListN.{length}
use Rattle.octets.specs.BigEndian.{number_at}
use Rattle.octets.proofs.Tests.{or_left, or_right, every_at}
use Rattle.descriptors.proofs.Answers.{list_accepted, number_ok}
use Rattle.descriptors.proofs.Laws.{accepts_exactly}
use Rattle.keypage.specs.Layout.{code_at, page_code, page_length_at, before_length, key_part_at, page_max}
use Rattle.keypage.specs.Page.{scope_in, reserved_in, encryption_in, decryption_in, algorithm_in, format_in, key_length_of}
use Rattle.keypage.specs.Page.{key_part_of, list_in, page_strict, page_list_ok, page_list_count, page_tests, page_ok, permitted_tests, fields_ok}
use Rattle.keypage.specs.KeyPart.{part_broken, part_refused, part_long}
use Rattle.keypage.specs.Read.{page_read_number, page_read_answer}
use Rattle.keypage.specs.Laws.{Laid, Readable}
use Rattle.keypage.proofs.ReadNumbers.{ReadPassed, read_passed}
use Rattle.keypage.proofs.KeyPart.{PartPassed, part_laid, laid_part}

-- ---- the page's own layout and fields

module _ (p : List ℕ) where
  pub page_laid : page_ok p ≡ true → fields_ok p ≡ true → length p ≤ page_max → Laid p (page_list_count (list_in p))
  unfolding page_ok fields_ok
  page_laid ok fields short =
      record {
        code = eqb-true (number_at 2 p code_at) page_code (every_at (page_tests p) 0 ok);
        total = eqb-true (length p) (number_at 2 p page_length_at + before_length) (every_at (page_tests p) 1 ok);
        reserved-bits = eqb-true (reserved_in p) 0 (every_at (page_tests p) 2 ok);
        reserved_bytes = every_at (page_tests p) 3 ok;
        key_within = leb-true (key_part_at + key_length_of p) (length p) (every_at (page_tests p) 4 ok);
        list =
            (accepts_exactly false page_strict (list_in p) (page_list_count (list_in p))).0
            (list_accepted false page_strict (list_in p) (page_list_count (list_in p)) (every_at (page_tests p) 5 ok) refl);
        scope = leb-true (scope_in p) 2 (every_at (permitted_tests p) 0 fields);
        encryption = leb-true (encryption_in p) 2 (every_at (permitted_tests p) 1 fields);
        decryption = leb-true (decryption_in p) 3 (every_at (permitted_tests p) 2 fields);
        algorithm_low = leb-true 1 (algorithm_in p) (every_at (permitted_tests p) 3 fields);
        algorithm_high = leb-true (algorithm_in p) 2 (every_at (permitted_tests p) 4 fields);
        short = short;
      }

  module _ (n : ℕ) (h : Laid p n) where
    pub laid_list : page_list_ok (list_in p) ≡ true
    laid_list = number_ok false page_strict (list_in p) (ap (λ (a : ℕ × List ℕ). a.0) ((accepts_exactly false page_strict (list_in p) n).1 h.list))

    pub laid_page : page_ok p ≡ true
    unfolding page_ok
    laid_page =
        rw (
          eq-eqb (number_at 2 p code_at) page_code h.code,
          eq-eqb (length p) (number_at 2 p page_length_at + before_length) h.total,
          eq-eqb (reserved_in p) 0 h.reserved-bits,
          h.reserved_bytes,
          le-leb (key_part_at + key_length_of p) (length p) h.key_within,
          laid_list,
        )

    pub laid-fields : fields_ok p ≡ true
    unfolding fields_ok
    laid-fields =
        rw (
          le-leb (scope_in p) 2 h.scope,
          le-leb (encryption_in p) 2 h.encryption,
          le-leb (decryption_in p) 3 h.decryption,
          le-leb 1 (algorithm_in p) h.algorithm_low,
          le-leb (algorithm_in p) 2 h.algorithm_high,
        )

-- ---- the numbers of reading

module _ (p : List ℕ) where
  pub passed_read : ReadPassed p → page_read_number p ≡ 0
  unfolding page_read_number
  passed_read h = rw (h.whole, h.permitted, h.short)

  -- so do none of the KEY part's
  pub passed_part : ReadPassed p → PartPassed (format_in p) (key_part_of p)
  passed_part h =
      record {
        whole = or_right (not (page_ok p)) (part_broken (format_in p) (key_part_of p)) h.whole;
        permitted = or_right (not (fields_ok p)) (part_refused (format_in p) (key_part_of p)) h.permitted;
        short = or_right (ltb page_max (length p)) (part_long (format_in p) (key_part_of p)) h.short;
      }

  pub read_part : page_read_number p ≡ 0 → PartPassed (format_in p) (key_part_of p)
  read_part e = passed_part (read_passed p e)

  pub passed-readable : ReadPassed p → Readable p
  passed-readable h =
      record {
        count = page_list_count (list_in p);
        laid =
            page_laid p (not-false (page_ok p) (or_left (not (page_ok p)) (part_broken (format_in p) (key_part_of p)) h.whole))
            (not-false (fields_ok p) (or_left (not (fields_ok p)) (part_refused (format_in p) (key_part_of p)) h.permitted))
            (ltb-false page_max (length p) (or_left (ltb page_max (length p)) (part_long (format_in p) (key_part_of p)) h.short));
        part = part_laid (format_in p) (key_part_of p) (passed_part h);
      }

  pub readable_passed : Readable p → ReadPassed p
  readable_passed h =
      let part = laid_part (format_in p) (key_part_of p) h.part in
      record {
        whole = rw (laid_page p h.count h.laid, part.whole);
        permitted = rw (laid-fields p h.count h.laid, part.permitted);
        short = rw (le-ltb page_max (length p) h.laid.short, part.short);
      }

  -- ---- the answer

  pub answer_told : (fields after : List ℕ) → page_read_answer p fields ≡ (0, after) → page_read_number p ≡ 0
  unfolding page_read_answer
  answer_told fields after e = ap (λ (x : ℕ × List ℕ). x.0) e
