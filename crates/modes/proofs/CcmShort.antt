-- CCM's opening of a short text by the pads that its pass kept, for any f whose every value has 16 bytes.
-- Assumes nothing.
use mathlib.Core.Path.{◌≡◌, refl, sym, ap, ap₂, ◌∙◌}
use mathlib.Core.Bool.{false}
use mathlib.Core.List.{List, ◌++◌}
use Prim.Native.Nat.{ℕ, ◌≤◌}
use native.Mathlib.Omega.{arith}
use lib.ListN.{length, take, drop, replicate, length-replicate}
use Rattle.octets.specs.Values.{values}
use Rattle.octets.specs.BigEndian.{be}
use Rattle.octets.specs.Xor.{xors}
use Rattle.octets.specs.Same.{same}
use Rattle.octets.specs.Lent.{over, lowest, answer}
use Rattle.octets.specs.Blocks.{blocks, cut, chain}
use Rattle.octets.proofs.Xor.{xors_assoc, xors-zeros}
use Rattle.octets.proofs.Lent.{over_front}
use Rattle.modes.specs.Calls.{authentic_tests, tag_decides}
use Rattle.modes.specs.Counter.{stream, counter_block, ctr, front_of}
use Rattle.modes.specs.Ccm.{chain_start, counter_front, ccm_opened}
use Rattle.modes.specs.Within.{opened_from}
use Rattle.modes.proofs.Stream.{length-ctr}
use Rattle.modes.proofs.CcmFormat.{text-counted, opened-number}

-- ---- the pads of a text are what the counter makes of as many zeros

module _ (f : List ℕ → List ℕ) (size : (x : List ℕ) → length (f x) ≡ 16) (front : List ℕ) where
  zeros_pads : (s : List ℕ) → xors s (ctr f 3 front 1 (replicate (length s) 0)) ≡ ctr f 3 front 1 s
  unfolding ctr
  zeros_pads s =
      sym (xors_assoc s (replicate (length s) 0) (of (length (replicate {A = ℕ} (length s) 0))))
      ∙ ap₂ (λ (a : List ℕ) (n : ℕ). xors a (of n)) (xors-zeros s (length s) refl) (length-replicate {A = ℕ} (length s) 0)
    where
      of : ℕ → List ℕ
      of n = stream f (values (counter_block 3 front) 1 (blocks n))

  module _ (c : List ℕ) {kept : List ℕ} (room : ℕ) (short : length c ≤ room)
      (passed : kept ≡ over (ctr f 3 front 1 (replicate (length c) 0)) (replicate room 0)) where
    kept_is : take (length c) kept ≡ ctr f 3 front 1 (replicate (length c) 0)
    kept_is =
        over_front (ctr f 3 front 1 (replicate (length c) 0)) (replicate room 0) kept (length c)
        (length-ctr f size 3 front 1 (replicate (length c) 0) ∙ length-replicate {A = ℕ} (length c) 0)
        (omega (arith, length-replicate {A = ℕ} room 0)) passed

    pads_sum : xors c (take (length c) kept) ≡ ctr f 3 front 1 c
    pads_sum = ap (xors c) kept_is ∙ zeros_pads c

    -- the plaintext over the front of the output
    pub short-put : (out : List ℕ) {after : List ℕ} → after ≡ over (xors c (take (length c) kept)) out → answer 0 (ctr f 3 front 1 c) out ≡ (0, after)
    short-put out e = ap (λ (l : List ℕ). (0, l)) (sym (e ∙ ap (λ (s : List ℕ). over s out) pads_sum))

  -- the number that the tag decides
  pub short-number : (c t y : List ℕ) {z s₀ right : List ℕ} {n : ℕ} → z ≡ chain f y (cut (ctr f 3 front 1 c)) → s₀ ≡ f (counter_block 3 front 0)
      → right ≡ xors z s₀ → n ≡ lowest (authentic_tests (same t right))
      → n ≡ tag_decides (same t (xors (chain f y (cut (ctr f 3 front 1 c))) (f (counter_block 3 front 0))))
  short-number c t y ez es er en = en ∙ ap (λ (l : List ℕ). lowest (authentic_tests (same t l))) (er ∙ ap₂ xors ez es)

-- ---- from the state before the plaintext: CCM's answer

module _ (f : List ℕ → List ℕ) (size : (x : List ℕ) → length (f x) ≡ 16) (iv a : List ℕ) {base : List ℕ} (h : length iv ≡ 12)
    (eb : base ≡ counter_front iv ++ be 3 0) where
  pub short-opened : (c t out : List ℕ) {y : List ℕ} {x : ℕ × List ℕ} → length t ≡ 16 → y ≡ chain_start f (drop 1 (front_of false base)) a (length c)
      → opened_from f (front_of false base) y c t out ≡ x → ccm_opened f iv a c t out ≡ x
  short-opened c t out ht ey e =
      ap₂ (λ (n : ℕ) (s : List ℕ). answer n s out) (sym (opened-number f size iv a h eb c t ht ey refl refl refl)) (text-counted f size iv a h eb c) ∙ e
