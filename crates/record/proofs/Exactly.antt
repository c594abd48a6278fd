-- Demand 3, both ways: what opens was sealed so, and what was sealed so opens.
-- Assumes nothing.
use mathlib.Core.Path.{◌≡◌, sym, ap, ap₂, ◌∙◌}
use mathlib.Core.Bool.{true}
use mathlib.Core.List.{List, ◌++◌}
use Prim.Native.Nat.{ℕ, ◌≤◌}
use native.Mathlib.Omega.{arith}
use lib.ListN.{length}
use Rattle.octets.specs.Bytes.{Bytes}
use Rattle.modes.specs.Mode.{sealed}
use Rattle.modes.specs.Modes.{names_mode, mode_of}
use Rattle.modes.specs.Laws.{Keyed}
use Rattle.modes.proofs.Laws.{modes_fitting}
use Rattle.record.specs.Record.{mode_in, mode_for, count_in, name_size_lem, layout_ok, front_in, name_in, iv_in, text_in, tag_in, record_front}
use Rattle.record.specs.Seal.{record_of}
use Rattle.record.specs.Open.{authentic_by, plaintext_by}
use Rattle.record.proofs.Parts.{layout-kept, parts_record, length-name_in, length-iv_in, length-tag_in, permits-text_in, bytes-iv_in, bytes-text_in}
use Rattle.record.proofs.Written.{front_back}
use Rattle.record.proofs.Laid.{Laid}
use Rattle.record.proofs.Sealed.{data-row_mode, text_by, tag_by, length_text_by, length_tag_by, SealedAs, as_keyed, as_laid}
use Rattle.record.proofs.Opened.{OpenedAs, open_keyed, length-plaintext_by}

-- ---- what opens was sealed so

module _ (key r a : List ℕ) (keyed : Keyed (mode_for r) key (iv_in r)) (bytes : Bytes r) (layout : layout_ok r ≡ true) where
  pub plaintext_bytes : Bytes (plaintext_by key r)
  unfolding plaintext_by
  plaintext_bytes = (modes_fitting (mode_in r)).plaintext_bytes key (iv_in r) (text_in r) keyed (permits-text_in r layout) (bytes-text_in r bytes)

  front_is : record_front (mode_in r) (name_in r) (length (plaintext_by key r)) ≡ front_in r
  front_is = ap (record_front (mode_in r) (name_in r)) (length-plaintext_by key r keyed layout) ∙ sym (front_back r bytes layout)

  module _ (right : authentic_by key r a ≡ true) where
    -- the plaintext of an authentic record, encrypted, gives its ciphertext and its tag
    text_and_tag : sealed (mode_for r) key (iv_in r) (front_in r ++ a) (plaintext_by key r) ≡ text_in r ++ tag_in r
    unfolding plaintext_by authentic_by
    text_and_tag =
        ap₂ (λ (s l : List ℕ). s ++ l) ((modes_fitting (mode_in r)).seals key (iv_in r) (text_in r) keyed (permits-text_in r layout) (bytes-text_in r bytes))
        (((modes_fitting (mode_in r)).authentic_exactly key (iv_in r) (front_in r ++ a) (text_in r) (tag_in r) keyed (permits-text_in r layout) (bytes-text_in r bytes)
        (length-tag_in r layout)).0 right)

    -- and sealed by its own fields, the record
    pub record_back : record_of (mode_in r) key (name_in r) (iv_in r) a (plaintext_by key r) ≡ r
    unfolding record_of
    record_back =
        ap (λ (s : List ℕ). s ++ (iv_in r ++ sealed (mode_for r) key (iv_in r) (s ++ a) (plaintext_by key r))) front_is
        ∙ ap (λ (l : List ℕ). front_in r ++ (iv_in r ++ l)) text_and_tag
        ∙ parts_record r layout

-- ---- what was sealed so opens

module _ (u : ℕ) (key name iv a p r : List ℕ) (keyed : Keyed (mode_of u) key iv) (permitted : (mode_of u).permits (length p) ≡ true) (plain-bytes : Bytes p)
    (read : Laid u name (length p) iv (text_by u key iv p) (tag_by u key name iv a p) r) where
  undone : (mode_of u).plaintext key iv (text_by u key iv p) ≡ p
  undone = (modes_fitting u).opens key iv p keyed permitted plain-bytes

  pub plaintext_back : plaintext_by key r ≡ p
  unfolding plaintext_by
  plaintext_back =
      ap (λ (v : ℕ). (mode_of v).plaintext key (iv_in r) (text_in r)) read.fields.mode
      ∙ ap₂ ((mode_of u).plaintext key) read.iv_is read.text_is
      ∙ undone

  authentic_back : Bytes r → authentic_by key r a ≡ true
  unfolding authentic_by
  authentic_back bytes =
      ap (λ (v : ℕ). (mode_of v).authentic key (iv_in r) (front_in r ++ a) (text_in r) (tag_in r)) read.fields.mode
      ∙ ap₂ (λ (v h : List ℕ). (mode_of u).authentic key v (h ++ a) (text_in r) (tag_in r)) read.iv_is read.front_is
      ∙ ap₂ ((mode_of u).authentic key iv (record_front u name (length p) ++ a)) read.text_is read.tag_is
      ∙ ((modes_fitting u).authentic_exactly key iv (record_front u name (length p) ++ a) (text_by u key iv p) (tag_by u key name iv a p) keyed
      (ap (mode_of u).permits (length_text_by u key name iv a p keyed permitted) ∙ permitted)
      (rw read.text_is at (bytes-text_in r bytes))
      (length_tag_by u key name iv a p keyed permitted)).1
      (ap ((mode_of u).tag key iv (record_front u name (length p) ++ a)) undone)

-- ---- both ways

module _ (t r a out p : List ℕ) (table-bytes : Bytes t) (bytes : Bytes r) where
  pub opened-sealed : OpenedAs t r a out p → SealedAs t (name_in r) (iv_in r) a p r
  opened-sealed h =
      record {
        bytes = rw h.is at (plaintext_bytes key r a keyed bytes layout);
        iv_bytes = bytes-iv_in r bytes;
        able =
            record {
              accepted = h.able.accepted;
              found-row = h.row;
              found_is = h.has-row;
              name-given = omega (arith, name-long, (layout-kept r layout).named);
              iv-size = length-iv_in r layout ∙ ap (λ (u : ℕ). (mode_of u).iv_size) (sym h.able.use_is);
              permitted = ap₂ (λ (u n : ℕ). (mode_of u).permits n) h.able.use_is size ∙ (layout-kept r layout).permitted;
              name_fits = omega (arith, name-long, h.able.short);
              text_fits = omega (arith, size, h.able.few);
              data_fits = h.able.little;
              room_fits = rw h.has-row (omega arith);
            };
        is =
            ap₂ (λ (u : ℕ) (l : List ℕ). record_of u key (name_in r) (iv_in r) a l) h.able.use_is (sym h.is)
            ∙ record_back key r a keyed bytes layout h.able.authentic;
      }
    where
      key : List ℕ
      key = h.row.row_key

      layout : layout_ok r ≡ true
      layout = h.able.layout

      keyed : Keyed (mode_for r) key (iv_in r)
      keyed = open_keyed t r a h.row (length out) table-bytes bytes h.has-row h.able

      name-long : length (name_in r) ≡ name_size_lem r
      name-long = length-name_in r layout

      size : length p ≡ count_in r
      size = ap length (sym h.is) ∙ length-plaintext_by key r keyed layout

  pub sealed-opened : length p ≤ length out → SealedAs t (name_in r) (iv_in r) a p r → OpenedAs t r a out p
  sealed-opened room h =
      record {
        row = h.able.found-row;
        has-row = h.able.found_is;
        able =
            record {
              accepted = h.able.accepted;
              layout = read.layout;
              mode = ap names_mode mode_is ∙ data-row_mode t (name_in r) h.able.found-row h.able.accepted h.able.found_is;
              short = omega (arith, read.fields.size, h.able.name_fits);
              few = omega (arith, read.fields.count, h.able.text_fits);
              little = h.able.data_fits;
              fits = omega (arith, read.fields.count);
              use_is = sym mode_is;
              authentic = authentic_back u key (name_in r) (iv_in r) a p r keyed h.able.permitted h.bytes read bytes;
            };
        is = plaintext_back u key (name_in r) (iv_in r) a p r keyed h.able.permitted h.bytes read;
      }
    where
      u : ℕ
      u = h.able.found-row.row_use

      key : List ℕ
      key = h.able.found-row.row_key

      keyed : Keyed (mode_of u) key (iv_in r)
      keyed = as_keyed t (name_in r) (iv_in r) a p r table-bytes h

      read : Laid u (name_in r) (length p) (iv_in r) (text_by u key (iv_in r) p) (tag_by u key (name_in r) (iv_in r) a p) r
      read = as_laid t (name_in r) (iv_in r) a p r table-bytes h

      mode_is : mode_in r ≡ u
      mode_is = read.fields.mode
