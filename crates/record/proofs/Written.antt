-- A record's header, there and back: the fields of a written header, and the header that a record's fields fix.
-- Assumes nothing.
use mathlib.Core.Path.{◌≡◌, refl, sym, ap, ap₂, ◌∙◌}
use mathlib.Core.Bool.{true}
use mathlib.Core.List.{List, [], ◌∷◌, ◌++◌, append_assoc}
use Prim.Native.Nat.{ℕ, ◌+◌, ◌^◌, ◌≤◌, ◌<◌}
use native.Mathlib.Omega.{arith}
use lib.ListN.{length, take, drop}
use lib.Seq.{take-add, take_at}
use Rattle.octets.specs.Bytes.{Bytes}
use Rattle.octets.specs.BigEndian.{be, number_at}
use Rattle.octets.proofs.Values.{bytes_at_part}
use Rattle.octets.proofs.BigEndian.{number-be, be-number_at}
use Rattle.keytable.specs.Row.{name_max}
use Rattle.modes.specs.Calls.{text_max}
use Rattle.modes.specs.Modes.{mode_of}
use Rattle.record.specs.Record.{record_format, name_at, iv_at_lem, text_at_lem, tag_at, end_at, mode_in, count_in, name_size_lem, layout_ok, front_in, name_in, header, record_front}
use Rattle.record.specs.Laws.{ReadBack}
use Rattle.record.proofs.Lengths.{iv_small}
use Rattle.record.proofs.Parts.{Kept, layout-kept, length-name_in}

-- ---- there

pub length_front : (u : ℕ) (name : List ℕ) (n : ℕ) → length (record_front u name n) ≡ iv_at_lem (length name)
unfolding record_front header
length_front u name n = omega arith

-- a written header, whatever comes after it
module _ (u k n : ℕ) (rest : List ℕ) (short : k ≤ name_max) (few : n < 2 ^ 31) where
  pub header_mode : mode_in (header u k n ++ rest) ≡ u
  unfolding header
  header_mode = refl

  pub header_count : count_in (header u k n ++ rest) ≡ n
  unfolding header
  header_count = number-be 4 n (omega (arith, few))

  pub header_size : name_size_lem (header u k n ++ rest) ≡ k
  unfolding header
  header_size = number-be 2 k (omega (arith, short))

  -- its offsets match, and so does the total where the record has that length
  pub header-kept : 1 ≤ k → (mode_of u).permits n ≡ true → length (header u k n ++ rest) ≡ end_at (mode_of u) k n → Kept (header u k n ++ rest)
  unfolding header
  header-kept named permitted whole =
      record {
        format = refl;
        zero_byte = refl;
        name-at = refl;
        named = rw header_size named;
        iv_at = number-be 2 (iv_at_lem k) (omega (arith, short)) ∙ ap iv_at_lem (sym header_size);
        iv-long = number-be 2 (mode_of u).iv_size (omega (arith, iv_small u));
        text_at = number-be 4 (text_at_lem (mode_of u) k) (omega (arith, short, iv_small u)) ∙ ap (text_at_lem (mode_of u)) (sym header_size);
        tag-at =
            number-be 4 (tag_at (mode_of u) k n) (omega (arith, short, few, iv_small u))
            ∙ ap₂ (tag_at (mode_of u)) (sym header_size) (sym header_count);
        end-at = whole ∙ ap₂ (end_at (mode_of u)) (sym header_size) (sym header_count);
        permitted = ap (mode_of u).permits header_count ∙ permitted;
      }

module _ (u n : ℕ) (name rest : List ℕ) (short : length name ≤ name_max) (few : n ≤ text_max) where
  -- front and what follows, as a header and what follows
  front-header : header u (length name) n ++ (name ++ rest) ≡ record_front u name n ++ rest
  unfolding record_front
  front-header = sym (append_assoc (header u (length name) n) name rest)

  name_back : name_size_lem (record_front u name n ++ rest) ≡ length name → name_in (record_front u name n ++ rest) ≡ name
  unfolding record_front header name_in
  name_back e = take_at name rest (name_size_lem (record_front u name n ++ rest)) (sym e)

  pub read_back : ReadBack u n name (record_front u name n ++ rest)
  read_back = record { mode = rw front-header at mode; count = rw front-header at count; size = size_is; name_is = name_back size_is }
    where
      mode : mode_in (header u (length name) n ++ (name ++ rest)) ≡ u
      mode = header_mode u (length name) n (name ++ rest) short (omega (arith, few))

      count : count_in (header u (length name) n ++ (name ++ rest)) ≡ n
      count = header_count u (length name) n (name ++ rest) short (omega (arith, few))

      size : name_size_lem (header u (length name) n ++ (name ++ rest)) ≡ length name
      size = header_size u (length name) n (name ++ rest) short (omega (arith, few))

      size_is : name_size_lem (record_front u name n ++ rest) ≡ length name
      size_is = rw front-header at size

  pub front_kept : 1 ≤ length name → (mode_of u).permits n ≡ true → length (record_front u name n ++ rest) ≡ end_at (mode_of u) (length name) n → Kept (record_front u name n ++ rest)
  front_kept named permitted whole =
      rw front-header at
      (header-kept u (length name) n (name ++ rest) short (omega (arith, few)) named permitted (ap length front-header ∙ whole))

-- ---- back

-- one more field of the first bytes of a string
field : (r : List ℕ) (n w x : ℕ) (h : List ℕ) → Bytes r → n + w ≤ length r → h ≡ take n r → number_at w r n ≡ x → h ++ be w x ≡ take (n + w) r
field r n w x h bytes fits before e =
    ap₂ (λ (l : List ℕ) (y : ℕ). l ++ be w y) before (sym e)
    ∙ ap (λ (l : List ℕ). take n r ++ l) (be-number_at w r n bytes fits)
    ∙ sym (take-add n w r)

module _ (r : List ℕ) (bytes : Bytes r) (layout : layout_ok r ≡ true) where
  kept : Kept r
  kept = layout-kept r layout

  whole : name_at ≤ length r
  whole = omega (arith, kept.end-at)

  mode_bytes : mode_in r ∷ 0 ∷ [] ≡ take 2 (drop 2 r)
  mode_bytes = ap (λ (b : ℕ). mode_in r ∷ b ∷ []) (sym kept.zero_byte) ∙ bytes_at_part 2 r 2 (omega (arith, whole))

  first_four : be 2 record_format ++ (mode_in r ∷ 0 ∷ []) ≡ take 4 r
  first_four =
      ap₂ (λ (s l : List ℕ). s ++ l) (field r 0 2 record_format [] bytes (omega (arith, whole)) refl kept.format) mode_bytes
      ∙ sym (take-add 2 2 r)

  header_first : header (mode_in r) (name_size_lem r) (count_in r) ≡ take name_at r
  unfolding header
  header_first =
      field r 20 4 _ _ bytes (omega (arith, whole))
      (field r 16 4 _ _ bytes (omega (arith, whole))
      (field r 14 2 _ _ bytes (omega (arith, whole))
      (field r 12 2 _ _ bytes (omega (arith, whole))
      (field r 10 2 _ _ bytes (omega (arith, whole))
      (field r 8 2 _ _ bytes (omega (arith, whole))
      (field r 4 4 _ _ bytes (omega (arith, whole)) first_four refl)
      kept.name-at)
      refl)
      kept.iv_at)
      kept.iv-long)
      kept.text_at)
      kept.tag-at

  name_bytes : take (name_size_lem r) (drop name_at r) ≡ name_in r
  unfolding name_in
  name_bytes = refl

  pub front_back : front_in r ≡ record_front (mode_in r) (name_in r) (count_in r)
  unfolding front_in record_front
  front_back =
      take-add name_at (name_size_lem r) r
      ∙ ap₂ (λ (s l : List ℕ). s ++ l) (sym header_first) name_bytes
      ∙ ap (λ (k : ℕ). header (mode_in r) k (count_in r) ++ name_in r) (sym (length-name_in r layout))
