-- CCM's one pass over a text in each direction, for any f whose every value has 16 bytes: `opening` says whether the text is a ciphertext, whose plaintext is chained
-- and written nowhere; `written` whether the pass writes, which of a ciphertext are the pads alone.
-- Assumes nothing.
use mathlib.Core.Path.{◌≡◌, refl, sym, ap, ap₂, ◌∙◌}
use mathlib.Core.Bool.{Bool, true, false, false≢true, not}
use mathlib.Core.List.{List, [], ◌∷◌, ◌++◌, append-nil}
use Prim.Native.Nat.{ℕ, ◌+◌, ◌-◌, ◌≤◌, ◌<◌}
use native.Mathlib.Omega.{arith}
use borrow.Author.Tests.{ne_eqb}
use lib.Dec.{eqb}
use lib.ListN.{length, take, drop, replicate, length-take, length-drop, length-replicate, drop_of_length-le}
use lib.Seq.{drop-drop, take_at, drop_at, take_all, length-take-le}
use Rattle.octets.specs.Xor.{xors}
use Rattle.octets.specs.Blocks.{fill, cut, chain}
use Rattle.octets.specs.Lent.{when, over}
use Rattle.octets.proofs.Values.{cons_equal}
use Rattle.octets.proofs.Xor.{zeros-xors, length-xors}
use Rattle.octets.proofs.Blocks.{cut_nil, cut_short, cut_next, chain_turn}
use Rattle.octets.proofs.Written.{part-zeros}
use Rattle.octets.proofs.Tests.{rest_all}
use Rattle.modes.specs.Counter.{counter_block, ctr, with_pad, plain_block, shown_text, writes_into}
use Rattle.modes.proofs.Stream.{length-ctr, ctr_last, ctr_next, Partly, partly_start, partly_block, partly_last}

-- ---- the chain along the plaintext that a ciphertext gives

module _ (f : List ℕ → List ℕ) (size : (x : List ℕ) → length (f x) ≡ 16) (w : ℕ) (front : List ℕ) where
  cut-ctr : (i : ℕ) (s : List ℕ) → 16 ≤ length s
      → cut (ctr f w front i s) ≡ xors (take 16 s) (f (counter_block w front i)) ∷ cut (ctr f w front (i + 1) (drop 16 s))
  cut-ctr i s h =
      cut_next (ctr f w front i s) (omega (arith, length-ctr f size w front i s))
      ∙ cons_equal (ap (take 16) (ctr_next f size w front i s h) ∙ take_at first rest 16 whole)
      (ap (λ (l : List ℕ). cut (drop 16 l)) (ctr_next f size w front i s h) ∙ ap cut (drop_at first rest 16 whole))
    where
      first : List ℕ
      first = xors (take 16 s) (f (counter_block w front i))

      rest : List ℕ
      rest = ctr f w front (i + 1) (drop 16 s)

      whole : length first ≡ 16
      whole = length-xors (take 16 s) (f (counter_block w front i)) (omega (arith, length-take-le 16 s h, size (counter_block w front i))) ∙ length-take-le 16 s h

  -- the block at place `at`, with counter i, of what is left from there
  pub opened_turn : (y s : List ℕ) (i at : ℕ) → at + 16 ≤ length s
      → chain f (f (xors y (xors (take 16 (drop at s)) (f (counter_block w front i))))) (cut (ctr f w front (i + 1) (drop (at + 16) s)))
      ≡ chain f y (cut (ctr f w front i (drop at s)))
  opened_turn y s i at h =
      ap (λ (l : List ℕ). chain f (f (xors y (xors (take 16 (drop at s)) (f (counter_block w front i))))) (cut (ctr f w front (i + 1) l))) (sym (drop-drop 16 at s))
      ∙ sym (ap (chain f y) (cut-ctr i (drop at s) (omega (arith, length-drop at s))))

module _ (f : List ℕ → List ℕ) where
  -- nothing is left
  pub last_none : (opening : Bool) (y s pad : List ℕ) → length s ≡ 0 → y ≡ chain f y (cut (when opening (xors s pad) s))
  last_none true y [] pad h = sym (ap (chain f y) cut_nil)
  last_none false y [] pad h = sym (ap (chain f y) cut_nil)
  last_none opening y (x ∷ s) pad h = absurd (omega arith)

  -- a last part p of the plaintext, of a block or less, filled
  pub last_filled : (y p : List ℕ) {x b r : List ℕ} → (length p ≡ 0 → ⊥) → length p ≤ 16 → x ≡ fill p → b ≡ xors y x → r ≡ f b → r ≡ chain f y (cut p)
  last_filled y p some short ex eb er = er ∙ ap f (eb ∙ ap (xors y) ex) ∙ sym (ap (chain f y) (cut_short p (omega (arith, some)) short))

-- the plaintext of a last part is as long as the part
pub length_last : (opening : Bool) (s pad : List ℕ) → length s ≤ length pad → length (when opening (xors s pad) s) ≡ length s
length_last true s pad h = length-xors s pad h
length_last false s pad h = refl

-- ---- what is written: the pads are added to the string that is sealed, or to as many zeros

pub length_shown : (opening : Bool) (s : List ℕ) → length (shown_text opening s) ≡ length s
length_shown true s = length-replicate {A = ℕ} (length s) 0
length_shown false s = refl

shown_part : (opening : Bool) (s : List ℕ) (at m : ℕ) → at + m ≤ length s → take m (drop at (shown_text opening s)) ≡ shown_text opening (take m (drop at s))
shown_part true s at m h =
    part-zeros (length s) at m h ∙ ap (λ (n : ℕ). replicate n 0) (sym (length-take-le m (drop at s) (omega (arith, length-drop at s))))
shown_part false s at m h = refl

-- a block b of the string: its sum with the pad, or the pad
pub shown-whole : (opening : Bool) (s : List ℕ) (at : ℕ) (pad : List ℕ) {b : List ℕ} → at + 16 ≤ length s → length pad ≡ 16 → b ≡ take 16 (drop at s)
    → when opening pad (xors b pad) ≡ xors (take 16 (drop at (shown_text opening s))) pad
shown-whole true s at pad h size e =
    sym (ap (λ (l : List ℕ). xors l pad) (part-zeros (length s) at 16 h) ∙ zeros-xors 16 pad (omega arith) ∙ take_all 16 pad (omega arith))
shown-whole false s at pad h size e = ap (λ (l : List ℕ). xors l pad) e

-- the pad over a last part, as far as that reaches
pub pad-put : (s pad out : List ℕ) {after : List ℕ} → length pad ≡ 16 → length s ≤ 16 → length out ≡ length s → after ≡ over pad out
    → after ≡ xors (replicate (length s) 0) pad
pad-put s pad out size short room e =
    e
    ∙ ap₂ (λ (a b : List ℕ). a ++ b) (ap (λ (n : ℕ). take n pad) room) (drop_of_length-le out {i = length pad} (omega arith))
    ∙ append-nil (take (length s) pad)
    ∙ sym (zeros-xors (length s) pad (omega arith))

-- ---- an output that is empty is not written

pub written_some : (out : List ℕ) → (length out ≡ 0 → ⊥) → writes_into out ≡ true
written_some out some = rw (ne_eqb (length out) 0 some)

pub written_same : (out before : List ℕ) → length out ≡ length before → writes_into out ≡ writes_into before
written_same out before e = ap (λ (n : ℕ). not (eqb n 0)) e

pub written_fits : (out : List ℕ) (n : ℕ) → (0 < length out → n ≤ length out) → writes_into out ≡ true → n ≤ length out
written_fits [] n fits e = absurd (false≢true e)
written_fits (x ∷ out) n fits e = fits (omega arith)

pub over_none : (s out before : List ℕ) → length out ≡ 0 → length out ≡ length before → out ≡ over s before
over_none s [] [] e same = sym (drop_of_length-le [] {i = length s} (omega arith))
over_none s [] (y ∷ before) e same = absurd (omega arith)
over_none s (x ∷ out) before e same = absurd (omega arith)

pub over_some : (s out : List ℕ) → writes_into out ≡ true → when (writes_into out) (over s out) out ≡ over s out
over_some s out e = rw e

-- ---- the pass while it runs: the blocks before place `at` are chained to y, and where the pass writes they are written; counter k comes next

-- the plaintext of a text from counter i on
abbrev pub plain_text : Bool → (List ℕ → List ℕ) → ℕ → List ℕ → ℕ → List ℕ → List ℕ
plain_text opening f w front i s = when opening (ctr f w front i s) s

abbrev pub Output : Bool → (List ℕ → List ℕ) → ℕ → List ℕ → List ℕ → List ℕ → ℕ → ℕ → List ℕ → Type 0
Output true f w front s before at k out = Partly f w front 1 s before at k out
Output false f w front s before at k out = out ≡ before

pub record Passed (opening written : Bool) (f : List ℕ → List ℕ) (w : ℕ) (front y₀ s before y : List ℕ) (at k : ℕ) (out : List ℕ) : Type 0 where
  pub inside : at ≤ length s
  pub room : length out ≡ length before
  pub counted : k ≤ 1 + at
  pub chained : chain f y (cut (plain_text opening f w front k (drop at s))) ≡ chain f y₀ (cut (plain_text opening f w front 1 s))
  pub output : Output written f w front (shown_text opening s) before at k out

module _ (f : List ℕ → List ℕ) (size : (x : List ℕ) → length (f x) ≡ 16) (w : ℕ) (front : List ℕ) where
  pub passed_start : (opening written : Bool) (y s out : List ℕ) → Passed opening written f w front y s out y 0 1 out
  passed_start opening true y s out = record { inside = omega arith; room = refl; counted = omega arith; chained = refl; output = partly_start }
  passed_start opening false y s out = record { inside = omega arith; room = refl; counted = omega arith; chained = refl; output = refl }

  -- what is left, of a block or less, with its pad
  rest-counted : (s : List ℕ) (at k : ℕ) → length s - at ≤ 16 → {pad : List ℕ} → pad ≡ f (counter_block w front k)
      → xors (take (length s - at) (drop at s)) pad ≡ ctr f w front k (take (length s - at) (drop at s))
  rest-counted s at k short ep =
      ap (xors (take (length s - at) (drop at s))) ep
      ∙ sym (ctr_last f size w front k (take (length s - at) (drop at s)) (omega (arith, length-take (length s - at) (drop at s))))

  -- a block more of the chain, and of what is written
  chained_block : (opening : Bool) (y s : List ℕ) (at k : ℕ) → at + 16 ≤ length s → {pad z : List ℕ} → pad ≡ f (counter_block w front k)
      → z ≡ f (xors y (plain_block opening s at pad))
      → chain f z (cut (plain_text opening f w front (k + 1) (drop (at + 16) s))) ≡ chain f y (cut (plain_text opening f w front k (drop at s)))
  chained_block true y s at k more ep ez =
      ap (λ (z : List ℕ). chain f z (cut (ctr f w front (k + 1) (drop (at + 16) s)))) (ez ∙ ap (λ (b : List ℕ). f (xors y (xors (take 16 (drop at s)) b))) ep)
      ∙ opened_turn f size w front y s k at more
  chained_block false y s at k more ep ez = ap (λ (z : List ℕ). chain f z (cut (drop (at + 16) s))) ez ∙ chain_turn f y s at more

  output_room : (written : Bool) (s before : List ℕ) (at k : ℕ) (out : List ℕ) → Output written f w front s before at k out → length out ≡ length before
  output_room true s before at k out p = p.room
  output_room false s before at k out p = ap length p

  output_block : (written : Bool) (s before : List ℕ) (at k : ℕ) (out : List ℕ) → Output written f w front s before at k out
      → (written ≡ true → length s ≤ length before) → at + 16 ≤ length s → {pad after : List ℕ} → pad ≡ f (counter_block w front k)
      → after ≡ when written (with_pad s at pad out) out → Output written f w front s before (at + 16) (k + 1) after
  output_block true s before at k out p fits more ep eo = partly_block p (fits refl) size more ep eo
  output_block false s before at k out p fits more ep eo = eo ∙ p

  module _ {y₀ s before y : List ℕ} {at k : ℕ} {out : List ℕ} where
    pub passed_block : (opening written : Bool) → Passed opening written f w front y₀ s before y at k out → (written ≡ true → length s ≤ length before)
        → at + 16 ≤ length s → {pad z after : List ℕ} → pad ≡ f (counter_block w front k)
        → z ≡ f (xors y (plain_block opening s at pad))
        → after ≡ when written (with_pad (shown_text opening s) at pad out) out
        → Passed opening written f w front y₀ s before z (at + 16) (k + 1) after
    passed_block opening written p fits more {after = after} ep ez eo =
        let next =
        output_block written (shown_text opening s) before at k out p.output (λ e. omega (arith, fits e, length_shown opening s))
        (omega (arith, more, length_shown opening s)) ep eo in
        record {
          inside = more;
          room = output_room written (shown_text opening s) before (at + 16) (k + 1) after next;
          counted = omega (arith, p.counted);
          chained = chained_block opening y s at k more ep ez ∙ p.chained;
          output = next;
        }

    -- the chain's end, over what is left
    pub passed_chained : (opening written : Bool) → Passed opening written f w front y₀ s before y at k out → length s - at ≤ 16
        → {y₁ pad x r : List ℕ} → y₀ ≡ y₁ → pad ≡ f (counter_block w front k) → x ≡ y
        → r ≡ chain f x (cut (when opening (xors (take (length s - at) (drop at s)) pad) (take (length s - at) (drop at s))))
        → r ≡ chain f y₁ (cut (plain_text opening f w front 1 s))
    passed_chained opening written p short {pad = pad} {x} ey ep ex er =
        er
        ∙ ap₂ (λ (x l : List ℕ). chain f x (cut l)) ex (rest opening)
        ∙ p.chained
        ∙ ap (λ (y : List ℕ). chain f y (cut (plain_text opening f w front 1 s))) ey
      where
        rest : (opening : Bool)
            → when opening (xors (take (length s - at) (drop at s)) pad) (take (length s - at) (drop at s)) ≡ plain_text opening f w front k (drop at s)
        rest true = rest-counted s at k short ep ∙ ap (ctr f w front k) (rest_all s at)
        rest false = rest_all s at

    -- the output after it, where what is left is lent and comes back
    pub passed-written : (opening written : Bool) → written ≡ true → Passed opening written f w front y₀ s before y at k out
        → (written ≡ true → length s ≤ length before) → length s - at ≤ 16 → {pad ys : List ℕ} → pad ≡ f (counter_block w front k)
        → ys ≡ xors (shown_text opening (take (length s - at) (drop at s))) pad
        → take at out ++ (ys ++ drop (length s - at) (drop at out)) ≡ when written (over (ctr f w front 1 (shown_text opening s)) before) before
    passed-written opening false e p fits short ep es = absurd (false≢true e)
    passed-written opening true e p fits short {pad} {ys} ep es =
        ap (λ (n : ℕ). take at out ++ (ys ++ drop (n - at) (drop at out))) (sym (length_shown opening s))
        ∙ partly_last p.output (omega (arith, fits refl, length_shown opening s)) size
        (es
        ∙ ap (λ (l : List ℕ). xors l pad)
        (sym (shown_part opening s at (length s - at) (omega (arith, p.inside)))
        ∙ ap (λ (n : ℕ). take (n - at) (drop at (shown_text opening s))) (sym (length_shown opening s)))
        ∙ rest-counted (shown_text opening s) at k (omega (arith, short, length_shown opening s)) ep)
