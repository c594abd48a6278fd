-- A record taken apart by its own fields, and what decrypting its parts says.
-- Assumes nothing.
use mathlib.Core.Path.{◌≡◌, refl, sym, ap, ◌∙◌}
use mathlib.Core.Bool.{Bool, true, false, not}
use mathlib.Core.List.{List, [], ◌∷◌}
use Prim.Native.Nat.{ℕ, ◌≤◌}
use native.Mathlib.Omega.{arith}
use lib.ListN.{length}
use Rattle.octets.specs.Lent.{lowest, over, answer}
use Rattle.octets.specs.Tests.{part_of}
use Rattle.keytable.specs.Row.{row_key_size}
use Rattle.modes.specs.Calls.{decrypt_answer, verify_number}
use Rattle.modes.proofs.Numbers.{decrypt_in_range}
use Rattle.modes.specs.Modes.{mode_of}
use Rattle.record.specs.Record.{name_at, iv_at_lem, text_at_lem, tag_at, mode_for, mode_in, count_in, name_size_lem, layout_ok, front_in, name_in, iv_in, text_in, tag_in}
use Rattle.record.specs.Read.{passes}
use Rattle.record.specs.Seal.{callers_max}
use Rattle.record.specs.Open.{authentic_by, plaintext_by, record_tag_tests, tag_answer}
use Rattle.record.proofs.Lengths.{key_size, name_within, count_within}
use Rattle.record.proofs.Parts.{length-front_in, length-iv_in, length-text_in, length-tag_in, permits-text_in}
use Rattle.record.proofs.Reading.{HeaderAccepted}

-- what the tag decided, by the number that was answered
module _ (right : Bool) (s out after : List ℕ) (x : ℕ) (e : answer (lowest ((9, not right) ∷ [])) s out ≡ (x, after)) where
  pub tag_wrong : (x ≡ 0 → ⊥) → (right ≡ false) × (9 ≡ x) × (out ≡ after)
  tag_wrong n = go right e
    where
      go : (b : Bool) → answer (lowest ((9, not b) ∷ [])) s out ≡ (x, after) → (b ≡ false) × (9 ≡ x) × (out ≡ after)
      go true h = absurd (n (sym (ap (λ (z : ℕ × List ℕ). z.0) h)))
      go false h = (refl, ap (λ (z : ℕ × List ℕ). z.0) h, ap (λ (z : ℕ × List ℕ). z.1) h)

  pub tag_was_right : x ≡ 0 → (right ≡ true) × (after ≡ over s out)
  tag_was_right n = go right e
    where
      go : (b : Bool) → answer (lowest ((9, not b) ∷ [])) s out ≡ (x, after) → (b ≡ true) × (after ≡ over s out)
      go true h = (refl, sym (ap (λ (z : ℕ × List ℕ). z.1) h))
      go false h = absurd (let nine : ◌≡◌ {A = ℕ} 9 x = ap (λ (z : ℕ × List ℕ). z.0) h in omega arith)

-- and with no output
module _ (right : Bool) (x : ℕ) (e : x ≡ lowest ((9, not right) ∷ [])) where
  pub tag_nine : (x ≡ 0 → ⊥) → (right ≡ false) × (9 ≡ x)
  tag_nine n = go right e
    where
      go : (b : Bool) → x ≡ lowest ((9, not b) ∷ []) → (b ≡ false) × (9 ≡ x)
      go true h = absurd (n h)
      go false h = (refl, sym h)

  pub tag-zero : x ≡ 0 → right ≡ true
  tag-zero n = go right e
    where
      go : (b : Bool) → x ≡ lowest ((9, not b) ∷ []) → b ≡ true
      go true h = refl
      go false h = absurd (omega (arith, h))

-- decrypting the parts: the tag decides
pub parts-opened : (key r a out : List ℕ) → layout_ok r ≡ true → passes (name_size_lem r) (count_in r) ≡ false
    → length key ≡ row_key_size → length a ≤ callers_max → count_in r ≤ length out
    → decrypt_answer (mode_for r) key (iv_in r) (front_in r) a (text_in r) (tag_in r) out
    ≡ answer (lowest ((9, not (authentic_by key r a)) ∷ [])) (plaintext_by key r) out
unfolding authentic_by plaintext_by
parts-opened key r a out good short key_right aad-short room =
    decrypt_in_range (mode_for r) key (iv_in r) (front_in r) a (text_in r) (tag_in r) out
    (key_right ∙ sym (key_size (mode_in r))) (length-iv_in r good) (permits-text_in r good) (length-tag_in r good)
    (omega (arith, length-front_in r good, name_within (name_size_lem r) (count_in r) short))
    (omega (arith, length-text_in r good, count_within (name_size_lem r) (count_in r) short)) (omega (arith, length-text_in r good))

-- the same with nothing written: the number by itself
pub parts_verified : (key r a : List ℕ) → layout_ok r ≡ true → passes (name_size_lem r) (count_in r) ≡ false → length key ≡ row_key_size → length a ≤ callers_max
    → verify_number (mode_for r) key (iv_in r) (front_in r) a (text_in r) (tag_in r) ≡ lowest (record_tag_tests key r a)
unfolding decrypt_answer
parts_verified key r a good short key_right aad-short =
    ap (λ (x : ℕ × List ℕ). x.0) (parts-opened key r a (text_in r) good short key_right aad-short (omega (arith, length-text_in r good)))

-- ---- the parts of a record that was read, cut where its fields say

module _ (r : List ℕ) (u k n : ℕ) (is : HeaderAccepted r u k n) where
  pub front_is : part_of r 0 (iv_at_lem k) ≡ front_in r
  unfolding front_in
  front_is = rw is.size_is

  pub name_is : part_of r name_at k ≡ name_in r
  unfolding name_in
  name_is = rw is.size_is

  pub iv_is : part_of r (iv_at_lem k) (mode_of u).iv_size ≡ iv_in r
  unfolding iv_in
  iv_is = rw (is.size_is, is.mode_is)

  pub text_is : part_of r (text_at_lem (mode_of u) k) n ≡ text_in r
  unfolding text_in
  text_is = rw (is.size_is, is.mode_is, is.count_is)

  pub tag_is : part_of r (tag_at (mode_of u) k n) (mode_of u).tag_size ≡ tag_in r
  unfolding tag_in
  tag_is = rw (is.size_is, is.mode_is, is.count_is)

  module _ {front iv text tag : List ℕ} (ef : front ≡ front_in r) (ei : iv ≡ iv_in r) (et : text ≡ text_in r) (eg : tag ≡ tag_in r) (key a : List ℕ)
      (key_right : length key ≡ row_key_size) (aad-short : length a ≤ callers_max) where
    pub fields-opened : (out : List ℕ) → n ≤ length out → {w : ℕ × List ℕ} → decrypt_answer (mode_of u) key iv front a text tag out ≡ w → tag_answer key r a out ≡ w
    fields-opened out room ran =
        sym (parts-opened key r a out is.layout is.short key_right aad-short (omega (arith, is.count_is)))
        ∙ rw (← ef, ← ei, ← et, ← eg, ← is.mode_is) ran

    pub fields_verified : {w : ℕ} → w ≡ verify_number (mode_of u) key iv front a text tag → w ≡ lowest (record_tag_tests key r a)
    fields_verified ran = (rw (ef, ei, et, eg, is.mode_is) at ran) ∙ parts_verified key r a is.layout is.short key_right aad-short
