-- CCM as the code makes it, for any f whose every value has 16 bytes: the first block, the data in two parts, the text, the tag, and both in the output.
-- Assumes nothing.
use mathlib.Core.Path.{◌≡◌, refl, sym, ap, ap₂, ◌∙◌}
use mathlib.Core.Bool.{Bool, true, false, not, false≢true}
use mathlib.Core.List.{List, ◌∷◌, ◌++◌}
use Prim.Native.Nat.{ℕ, suc, ◌+◌, ◌-◌, ◌%◌, ◌≤◌}
use native.Mathlib.Omega.{arith}
use borrow.Author.Tests.{eq-eqb, ne_eqb}
use lib.Dec.{eqb, lit<, lit≤}
use lib.ListN.{length, take, drop, length-append}
use lib.Seq.{take_at}
use Rattle.octets.specs.BigEndian.{be}
use Rattle.octets.specs.Bytes.{Bytes}
use Rattle.octets.specs.Xor.{xors}
use Rattle.octets.specs.Same.{same}
use Rattle.octets.specs.Lent.{lowest, over, answer}
use Rattle.octets.specs.Blocks.{cut, chain}
use Rattle.octets.specs.Running.{absorb, close}
use Rattle.octets.proofs.Bytes.{bytes_cons}
use Rattle.octets.proofs.Xor.{length-xors, xors_cancel}
use Rattle.octets.proofs.Same.{same_equal, same_refl, same-differ}
use Rattle.octets.proofs.Blocks.{chain_append, length-chain}
use Rattle.octets.proofs.Running.{absorb_append, close-chain}
use Rattle.modes.specs.Calls.{text_max, authentic_tests}
use Rattle.modes.specs.Counter.{counter_block, ctr, counter_answer, front_of}
use Rattle.modes.specs.Ccm.{flags, first_block, data_blocks, mac, counter_front, first_pad, ccm_text, ccm_tag, ccm_tag_right}
use Rattle.modes.proofs.Limits.{counter_fits_three, counter_answer_fits}
use Rattle.modes.proofs.Stream.{length-ctr, ctr-ctr, bytes-ctr}
use Rattle.octets.proofs.Lent.{over_then}

-- ---- the first block and the counter blocks' front

pub first_block-parts : (iv a b : List ℕ) (n : ℕ) → flags (not (eqb (length a + length b) 0)) ∷ (iv ++ be 3 n) ≡ first_block iv (a ++ b) n
unfolding first_block
first_block-parts iv a b n = rw (length-append a b)

pub front_base : (iv : List ℕ) → length iv ≡ 12 → front_of false (counter_front iv ++ be 3 0) ≡ counter_front iv
front_base iv size = take_at (counter_front iv) (be 3 0) 13 (ap suc size)

-- ---- the data

module _ (f : List ℕ → List ℕ) where
  pub data-none : (y a b : List ℕ) → length a + length b ≡ 0 → y ≡ chain f y (data_blocks (a ++ b))
  unfolding data_blocks
  data-none y a b none = rw (length-append a b, eq-eqb (length a + length b) 0 none)

  -- the length, then a, then b, and zeros after them
  pub data-parts : ((x : List ℕ) → length (f x) ≡ 16) → (y a b : List ℕ) → length y ≡ 16 → (length a + length b ≡ 0 → ⊥)
      → close f ((2 + (length a + length b)) % 16) (absorb f ((2 + length a) % 16) (absorb f 2 (absorb f 0 y (be 2 (length a + length b))) a) b)
      ≡ chain f y (data_blocks (a ++ b))
  unfolding data_blocks
  data-parts sizes y a b size some =
      rw (length-append a b, ne_eqb (length a + length b) 0 some)
      (ap₂ (close f) places (sym (absorb_append f 0 y (be 2 (length a + length b)) (a ++ b) (lit< tt) ∙ absorb_append f 2 (absorb f 0 y (be 2 (length a + length b))) a b (lit< tt)))
      ∙ close-chain f y (be 2 (length a + length b) ++ (a ++ b)) size sizes)
    where
      places : (2 + (length a + length b)) % 16 ≡ length (be 2 (length a + length b) ++ (a ++ b)) % 16
      places = omega (arith, length-append a b)

  -- the same, step by step
  pub data_steps : ((x : List ℕ) → length (f x) ≡ 16) → (y a b size x u v r : List ℕ) → length y ≡ 16 → (length a + length b ≡ 0 → ⊥)
      → size ≡ be 2 (length a + length b) → x ≡ absorb f 0 y size → u ≡ absorb f 2 x a → v ≡ absorb f ((2 + length a) % 16) u b
      → r ≡ close f ((2 + (length a + length b)) % 16) v → r ≡ chain f y (data_blocks (a ++ b))
  data_steps sizes y a b size x u v r h some es ex eu ev er = rw (er, ev, eu, ex, es) (data-parts sizes y a b h some)

-- ---- the text

module _ (f : List ℕ → List ℕ) (size : (x : List ℕ) → length (f x) ≡ 16) (iv : List ℕ) where
  pub length-ccm_text : (s : List ℕ) → length (ccm_text f iv s) ≡ length s
  unfolding ccm_text
  length-ccm_text s = length-ctr f size 3 (counter_front iv) 1 s

  -- the same sum gives the ciphertext and the plaintext
  pub ccm_text_twice : (s : List ℕ) → ccm_text f iv (ccm_text f iv s) ≡ s
  unfolding ccm_text
  ccm_text_twice s = ctr-ctr f size 3 (counter_front iv) 1 s

  pub bytes-ccm_text : ((x : List ℕ) → Bytes x → Bytes (f x)) → {s : List ℕ} → Bytes iv → Bytes s → Bytes (ccm_text f iv s)
  unfolding ccm_text
  bytes-ccm_text bytes hv = bytes-ctr f bytes 3 (bytes_cons (lit< tt) hv) 1

-- ---- the tag

-- one string with k is the other exactly where it is the other with k
same-moved : (a b k : List ℕ) → length a ≤ length k → length b ≤ length k → same (xors a k) b ≡ same a (xors b k)
same-moved a b k ha hb = go (same (xors a k) b) refl
  where
    go : (r : Bool) → same (xors a k) b ≡ r → r ≡ same a (xors b k)
    go true e = sym (rw (← same_equal (xors a k) b e, xors_cancel a k ha) (same_refl a))
    go false e = sym (same-differ a (xors b k) (λ q. false≢true (sym e ∙ ap (λ (l : List ℕ). same l b) (ap (λ (l : List ℕ). xors l k) q ∙ xors_cancel b k hb) ∙ same_refl b)))

module _ (f : List ℕ → List ℕ) (size : (x : List ℕ) → length (f x) ≡ 16) (iv a : List ℕ) where
  length-mac : (p : List ℕ) → length (mac f iv a p) ≡ 16
  unfolding mac
  length-mac p = length-chain f size (f (first_block iv a (length p))) (data_blocks a ++ cut p) (size (first_block iv a (length p)))

  pub length-ccm_tag : (p : List ℕ) → length (ccm_tag f iv a p) ≡ 16
  unfolding ccm_tag
  length-ccm_tag p = length-xors (mac f iv a p) (first_pad f iv) (omega (arith, length-mac p, size (counter_block 3 (counter_front iv) 0))) ∙ length-mac p

  -- the tag with S0 is the chain's last state exactly where the tag is the state with S0
  pub ccm_tag_right-same : (c t : List ℕ) → length t ≡ 16 → ccm_tag_right f iv a c t ≡ same t (ccm_tag f iv a (ccm_text f iv c))
  unfolding ccm_tag ccm_tag_right
  ccm_tag_right-same c t h =
      same-moved t (mac f iv a (ccm_text f iv c)) (first_pad f iv) (omega (arith, size (counter_block 3 (counter_front iv) 0)))
      (omega (arith, length-mac (ccm_text f iv c), size (counter_block 3 (counter_front iv) 0)))

-- ---- from the counter blocks' front as the code has it: the state y before the plaintext, z after it, and its sum with S0

module _ (f : List ℕ → List ℕ) (size : (x : List ℕ) → length (f x) ≡ 16) (iv a : List ℕ) {base : List ℕ} (h : length iv ≡ 12) (eb : base ≡ counter_front iv ++ be 3 0) where
  front_is : front_of false base ≡ counter_front iv
  front_is = ap (front_of false) eb ∙ front_base iv h

  pub text-counted : (s : List ℕ) → ccm_text f iv s ≡ ctr f 3 (front_of false base) 1 s
  unfolding ccm_text
  text-counted s = ap (λ (l : List ℕ). ctr f 3 l 1 s) (sym front_is)

  tag_steps : (p : List ℕ) {y z r : List ℕ} → y ≡ chain f (f (first_block (drop 1 (front_of false base)) a (length p))) (data_blocks a) → z ≡ chain f y (cut p)
      → r ≡ xors z (f (counter_block 3 (front_of false base) 0)) → r ≡ ccm_tag f iv a p
  unfolding mac ccm_tag
  tag_steps p ey ez er =
      er
      ∙ ap₂ (λ (z l : List ℕ). xors z (f (counter_block 3 l 0)))
      (ez
      ∙ ap (λ (y : List ℕ). chain f y (cut p)) (ey ∙ ap (λ (l : List ℕ). chain f (f (first_block (drop 1 l) a (length p))) (data_blocks a)) front_is)
      ∙ sym (chain_append f (f (first_block iv a (length p))) (data_blocks a) (cut p)))
      front_is

  -- the ciphertext over the front of the output, and the tag after it
  pub sealed_steps : (p out : List ℕ) {y z tag out₁ ys : List ℕ} → length p + 16 ≤ length out
      → y ≡ chain f (f (first_block (drop 1 (front_of false base)) a (length p))) (data_blocks a) → z ≡ chain f y (cut p)
      → out₁ ≡ over (ctr f 3 (front_of false base) 1 p) out → tag ≡ xors z (f (counter_block 3 (front_of false base) 0))
      → ys ≡ over tag (take (length out₁ - length p) (drop (length p) out₁))
      → answer 0 (ccm_text f iv p ++ ccm_tag f iv a p) out ≡ (0, take (length p) out₁ ++ (ys ++ drop (length out₁ - length p) (drop (length p) out₁)))
  sealed_steps p out {out₁ = out₁} fits ey ez eo et es =
      ap (λ (l : List ℕ). (0, l))
      (sym
      (over_then (ccm_text f iv p) (ccm_tag f iv a p) out out₁ _ (length p) (length-ccm_text f size iv p) (omega (arith, length-ccm_tag f size iv a p))
      (eo ∙ ap (λ (l : List ℕ). over l out) (sym (text-counted p)))
      (es ∙ ap (λ (t : List ℕ). over t (take (length out₁ - length p) (drop (length p) out₁))) (tag_steps p ey ez et))))

  -- the tag of the plaintext that a ciphertext gives decides, and then its text is written
  pub opened-number : (c t : List ℕ) {y z right : List ℕ} {n : ℕ} → length t ≡ 16
      → y ≡ chain f (f (first_block (drop 1 (front_of false base)) a (length c))) (data_blocks a) → z ≡ chain f y (cut (ctr f 3 (front_of false base) 1 c))
      → right ≡ xors z (f (counter_block 3 (front_of false base) 0)) → n ≡ lowest (authentic_tests (same t right)) → n ≡ lowest (authentic_tests (ccm_tag_right f iv a c t))
  opened-number c t {y} {right = right} ht ey ez er en = en ∙ ap (λ (b : Bool). lowest (authentic_tests b)) (ap (same t) whole ∙ sym (ccm_tag_right-same f size iv a c t ht))
    where
      whole : right ≡ ccm_tag f iv a (ccm_text f iv c)
      whole =
          tag_steps (ccm_text f iv c) (ey ∙ ap (λ (n : ℕ). chain f (f (first_block (drop 1 (front_of false base)) a n)) (data_blocks a)) (sym (length-ccm_text f size iv c)))
          (ez ∙ ap (λ (s : List ℕ). chain f y (cut s)) (sym (text-counted c))) er

  pub text-written : (c out : List ℕ) {x : ℕ × List ℕ} → length c ≤ text_max → counter_answer f 3 (front_of false base) 1 c out ≡ x → answer 0 (ccm_text f iv c) out ≡ x
  text-written c out short ran =
      ap (λ (s : List ℕ). (0, over s out)) (text-counted c)
      ∙ sym (counter_answer_fits f 3 (front_of false base) 1 c out (counter_fits_three 1 (length c) (lit≤ tt) short))
      ∙ ran
