-- GCM as the code makes it, for any f whose every value has 16 bytes: the counter blocks' front, the block of lengths, the text and the tag.
-- Assumes nothing.
use mathlib.Core.Path.{◌≡◌, refl, sym, ap, ap₂, ◌∙◌}
use mathlib.Core.Bool.{true}
use mathlib.Core.List.{List, [], ◌∷◌, ◌++◌}
use lib.Dec.{lit≤}
use Prim.Native.Nat.{ℕ, ◌+◌, ◌-◌, ◌*◌, ◌≤◌}
use native.Mathlib.Omega.{arith}
use lib.ListN.{length, take, drop, length-append}
use lib.Seq.{take_at}
use Rattle.octets.specs.BigEndian.{be}
use Rattle.octets.specs.Bytes.{Bytes}
use Rattle.octets.specs.Xor.{xors}
use Rattle.octets.specs.Same.{same}
use Rattle.octets.specs.Lent.{lowest, over, answer}
use Rattle.octets.specs.Blocks.{cut}
use Rattle.octets.proofs.Lent.{over_front, over_then}
use Rattle.octets.proofs.Bytes.{bytes_append, bytes_take}
use Rattle.octets.proofs.BigEndian.{bytes-be}
use Rattle.refusals.specs.Numbers.{number_of}
use Rattle.refusals.specs.declared.Refusal.{Refusal}
use Rattle.refusals.proofs.Laws.{not_zero}
use Rattle.ghash.specs.Ghash.{zero_block, ghash}
use Rattle.ghash.proofs.Laws.{ghash-length}
use Rattle.modes.specs.Counter.{counter_block, ctr, counter_answer, front_of}
use Rattle.modes.specs.Gcm.{inc32, hash_key, pre_counter, gcm_text, lengths_block, gcm_tag, gcm_tag_right}
use Rattle.modes.specs.Calls.{text_max, authentic_tests}
use Rattle.modes.proofs.Limits.{counter_fits_four, counter_answer_fits}
use Rattle.modes.proofs.Gctr.{gctr_block, length-gctr, gctr-gctr, bytes-gctr, gctr_two}

-- ---- the counter blocks' front, and the block of lengths

front_base : (iv : List ℕ) → length iv ≡ 12 → front_of true (iv ++ be 4 0) ≡ iv
front_base iv size = take_at iv (be 4 0) 12 size

module _ (f : List ℕ → List ℕ) where
  -- ---- the tag

  abbrev hashed : List ℕ → List ℕ → List ℕ
  hashed a c = ghash (hash_key f) (cut a ++ (cut c ++ (lengths_block a c ∷ [])))

  length_hashed : (a c : List ℕ) → length (hashed a c) ≡ 16
  length_hashed a c = ghash-length (hash_key f) zero_block (cut a ++ (cut c ++ (lengths_block a c ∷ []))) refl

  -- the hash key h, the block of lengths, the hash s, the pad of counter 1 and the sum
  pub tag_steps : (iv a b c : List ℕ) {h last s block pad r : List ℕ} → h ≡ hash_key f → last ≡ be 8 (8 * (length a + length b)) ++ be 8 (8 * length c)
      → s ≡ ghash h (cut (a ++ b) ++ (cut c ++ (last ∷ []))) → block ≡ counter_block 4 iv 1 → pad ≡ f block → r ≡ xors s pad → r ≡ gcm_tag f iv (a ++ b) c
  unfolding gcm_tag
  tag_steps iv a b c eh el es eb ep er =
      er
      ∙ ap₂ xors
      (es
      ∙ ap₂ (λ (h l : List ℕ). ghash h (cut (a ++ b) ++ (cut c ++ (l ∷ [])))) eh
      (el ∙ ap (λ (n : ℕ). be 8 (8 * n) ++ be 8 (8 * length c)) (sym (length-append a b))))
      (ep ∙ ap f eb)
      ∙ sym (gctr_block f (pre_counter iv) (hashed (a ++ b) c) (length_hashed (a ++ b) c))

  -- ---- lengths, and the text twice

  module _ (size : (x : List ℕ) → length (f x) ≡ 16) (iv : List ℕ) where
    pub length-gcm_text : (s : List ℕ) → length (gcm_text f iv s) ≡ length s
    unfolding gcm_text
    length-gcm_text s = length-gctr f (inc32 (pre_counter iv)) size s

    pub gcm_text_twice : (s : List ℕ) → gcm_text f iv (gcm_text f iv s) ≡ s
    unfolding gcm_text
    gcm_text_twice s = gctr-gctr f (inc32 (pre_counter iv)) size s

    pub bytes-gcm_text : ((x : List ℕ) → Bytes x → Bytes (f x)) → {s : List ℕ} → Bytes iv → Bytes s → Bytes (gcm_text f iv s)
    unfolding gcm_text inc32
    bytes-gcm_text bytes hv = bytes-gctr f (inc32 (pre_counter iv)) bytes (bytes_append (bytes_take 12 (bytes_append hv (bytes-be 4 1))) (bytes-be 4 _))

    pub length-gcm_tag : (a c : List ℕ) → length (gcm_tag f iv a c) ≡ 16
    unfolding gcm_tag
    length-gcm_tag a c = length-gctr f (pre_counter iv) size (hashed a c) ∙ length_hashed a c

-- ---- from the counter blocks' front as the code has it

module _ (f : List ℕ → List ℕ) (size : (x : List ℕ) → length (f x) ≡ 16) (iv a : List ℕ) {base : List ℕ} (h : length iv ≡ 12) (eb : base ≡ iv ++ be 4 0) where
  front_is : front_of true base ≡ iv
  front_is = ap (front_of true) eb ∙ front_base iv h

  text-counted : (s : List ℕ) → length s ≤ text_max → gcm_text f iv s ≡ ctr f 4 (front_of true base) 2 s
  unfolding gcm_text
  text-counted s short = gctr_two iv h f s (counter_fits_four 2 (length s) (lit≤ tt) short) ∙ ap (λ (l : List ℕ). ctr f 4 l 2 s) (sym front_is)

  -- its text is written where its counters fit
  pub text-written : (c out : List ℕ) {x : ℕ × List ℕ} → length c ≤ text_max → counter_answer f 4 (front_of true base) 2 c out ≡ x → answer 0 (gcm_text f iv c) out ≡ x
  text-written c out short ran =
      ap (λ (s : List ℕ). (0, over s out)) (text-counted c short)
      ∙ sym (counter_answer_fits f 4 (front_of true base) 2 c out (counter_fits_four 2 (length c) (lit≤ tt) short))
      ∙ ran

  -- its counters never run over
  pub text-unrefused : (p out : List ℕ) (e : Refusal) {out₁ : List ℕ} → length p ≤ text_max → counter_answer f 4 (front_of true base) 2 p out ≡ (number_of e, out₁) → ⊥
  text-unrefused p out e short ran = not_zero e (ap (λ (x : ℕ × List ℕ). x.0) (text-written p out short ran))

  -- the ciphertext over the front of the output, and its tag after it
  pub sealed_steps : (p out : List ℕ) {tag out₁ ys : List ℕ} → length p ≤ text_max → length p + 16 ≤ length out
      → counter_answer f 4 (front_of true base) 2 p out ≡ (0, out₁) → tag ≡ gcm_tag f (front_of true base) a (take (length p) out₁)
      → ys ≡ over tag (take (length out₁ - length p) (drop (length p) out₁))
      → answer 0 (gcm_text f iv p ++ gcm_tag f iv a (gcm_text f iv p)) out ≡ (0, take (length p) out₁ ++ (ys ++ drop (length out₁ - length p) (drop (length p) out₁)))
  sealed_steps p out {tag} {out₁} {ys} short fits ran et es =
      ap (λ (l : List ℕ). (0, l))
      (sym
      (over_then (gcm_text f iv p) (gcm_tag f iv a (gcm_text f iv p)) out out₁ ys (length p) (length-gcm_text f size iv p)
      (omega (arith, length-gcm_tag f size iv a (gcm_text f iv p))) first
      (es ∙ ap (λ (t : List ℕ). over t (take (length out₁ - length p) (drop (length p) out₁))) tagged)))
    where
      first : out₁ ≡ over (gcm_text f iv p) out
      first = sym (ap (λ (x : ℕ × List ℕ). x.1) (text-written p out short ran))

      tagged : tag ≡ gcm_tag f iv a (gcm_text f iv p)
      tagged = et ∙ ap₂ (λ (v c : List ℕ). gcm_tag f v a c) front_is (over_front (gcm_text f iv p) out out₁ (length p) (length-gcm_text f size iv p) (omega arith) first)

  -- the tag of the ciphertext decides
  pub opened-number : (c t : List ℕ) {right : List ℕ} {n : ℕ} → right ≡ gcm_tag f (front_of true base) a c → n ≡ lowest (authentic_tests (same t right))
      → n ≡ lowest (authentic_tests (gcm_tag_right f iv a c t))
  unfolding gcm_tag_right
  opened-number c t er en = en ∙ ap (λ (r : List ℕ). lowest (authentic_tests (same t r))) (er ∙ ap (λ (v : List ℕ). gcm_tag f v a c) front_is)
