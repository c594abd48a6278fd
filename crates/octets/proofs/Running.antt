-- A chain carried over a string that comes in parts: byte by byte, block by block and part by part it is the same, and closed it is the chain.
-- Assumes nothing.
use mathlib.Core.Path.{◌≡◌, refl, sym, ap, ap₂, ◌∙◌}
use mathlib.Core.Bool.{Bool, true, false}
use mathlib.Core.List.{List, [], ◌∷◌, ◌++◌}
use Prim.Native.Nat.{ℕ, zero, suc, ◌+◌, ◌*◌, ◌-◌, ◌/◌, ◌%◌, ◌≤◌, ◌<◌}
use native.Mathlib.Nat.{le_of_suc-le-suc, not-suc-le-zero, mod-lt, zero-add}
use native.Mathlib.Omega.{arith}
use borrow.Author.Tests.{eq-eqb, ne_eqb}
use lib.Bits.{bit_xor, xor_zero_r}
use lib.Dec.{eqb, lit<}
use lib.ListN.{length, take, drop, replicate, length-append, length-take, length-drop, length-set, take-append-drop, replicate-append-replicate}
use lib.Seq.{drop-drop, length-take-le}
use Rattle.octets.specs.Bytes.{Bytes}
use Rattle.octets.specs.Xor.{xors}
use Rattle.octets.specs.Lent.{when}
use Rattle.octets.specs.Blocks.{fill, cut, chain}
use Rattle.octets.specs.Running.{add_at, add_from, after_byte, absorb, close}
use Rattle.octets.proofs.Values.{cons_equal}
use Rattle.octets.proofs.Bytes.{bytes_head, bytes_tail, bytes-set}
use Rattle.octets.proofs.Xor.{xor_byte, xors-zeros}
use Rattle.octets.proofs.Blocks.{fill-whole, cut_nil, cut_short, cut_next}

-- ---- a part added to the state from a place on

pub add_from_nil : (k : ℕ) (y : List ℕ) → length y ≡ 16 → k ≤ 16 → add_from k y [] ≡ y
add_from_nil k y size h = ap (xors y) (replicate-append-replicate k (16 - (k + 0)) 0) ∙ xors-zeros y (k + (16 - (k + 0))) (omega arith)

pub add_from-zero : (y s : List ℕ) → add_from 0 y s ≡ xors y (fill s)
add_from-zero y s = ap (λ (n : ℕ). xors y (s ++ replicate (16 - n) 0)) (zero-add (length s))

-- one byte, and what comes after it
pub add_from_cons : (k : ℕ) (y : List ℕ) (b : ℕ) (s : List ℕ) → k < length y → add_from k y (b ∷ s) ≡ add_from (suc k) (add_at k y b) s
add_from_cons k y b s h =
    sym (past k y (s ++ replicate (16 - (k + suc (length s))) 0) h)
    ∙ ap (λ (n : ℕ). xors (add_at k y b) (replicate (suc k) 0 ++ (s ++ replicate (16 - n) 0))) places
  where
    past : (k : ℕ) (y t : List ℕ) → k < length y → xors (add_at k y b) (replicate (suc k) 0 ++ t) ≡ xors y (replicate k 0 ++ b ∷ t)
    past k [] t h = absurd (not-suc-le-zero h)
    past zero (a ∷ y) t h = cons_equal (xor_zero_r (bit_xor a b)) refl
    past (suc k) (a ∷ y) t h = cons_equal refl (past k y t (le_of_suc-le-suc h))

    places : k + suc (length s) ≡ suc k + length s
    places = omega arith

-- ---- absorb

module _ (f : List ℕ → List ℕ) where
  pub absorb_nil : (k : ℕ) (y : List ℕ) → absorb f k y [] ≡ y
  unfolding absorb
  absorb_nil k y = refl

  pub absorb_append : (k : ℕ) (y s t : List ℕ) → k < 16 → absorb f k y (s ++ t) ≡ absorb f ((k + length s) % 16) (absorb f k y s) t
  unfolding absorb
  absorb_append k y [] t h = ap (λ (n : ℕ). absorb f n y t) place
    where
      place : k ≡ (k + 0) % 16
      place = omega arith
  absorb_append k y (b ∷ s) t h =
      absorb_append ((k + 1) % 16) (after_byte f k (add_at k y b)) s t (mod-lt (k + 1) (lit< tt))
      ∙ ap (λ (n : ℕ). absorb f n (absorb f k y (b ∷ s)) t) place
    where
      place : ((k + 1) % 16 + length s) % 16 ≡ (k + suc (length s)) % 16
      place = omega arith

  pub length-absorb : ((x : List ℕ) → length (f x) ≡ 16) → (k : ℕ) (y s : List ℕ) → length y ≡ 16 → length (absorb f k y s) ≡ 16
  unfolding absorb
  length-absorb size k y [] h = h
  length-absorb size k y (b ∷ s) h = length-absorb size ((k + 1) % 16) (after_byte f k (add_at k y b)) s (after (eqb k 15) (add_at k y b) (simp length-set h))
    where
      after : (t : Bool) (x : List ℕ) → length x ≡ 16 → length (when t (f x) x) ≡ 16
      after true x h = size x
      after false x h = h

  -- a byte after which the block is not whole
  within_next : (k : ℕ) (y : List ℕ) (b : ℕ) (s : List ℕ) → k < 15 → absorb f k y (b ∷ s) ≡ absorb f (suc k) (add_at k y b) s
  unfolding absorb
  within_next k y b s h = ap₂ (λ (n : ℕ) (t : Bool). absorb f n (when t (f (add_at k y b)) (add_at k y b)) s) place (ne_eqb k 15 (λ e. omega arith))
    where
      place : (k + 1) % 16 ≡ suc k
      place = omega arith

  -- a byte after which it is
  whole_next : (k : ℕ) (y : List ℕ) (b : ℕ) → k ≡ 15 → absorb f k y (b ∷ []) ≡ f (add_at k y b)
  unfolding absorb
  whole_next k y b e = rw (eq-eqb k 15 e)

  -- less than what fills the block
  pub absorb_within : (k : ℕ) (y s : List ℕ) → length y ≡ 16 → k + length s < 16 → absorb f k y s ≡ add_from k y s
  absorb_within k y [] size h = absorb_nil k y ∙ sym (add_from_nil k y size (omega arith))
  absorb_within k y (b ∷ s) size h =
      within_next k y b s (omega arith)
      ∙ absorb_within (suc k) (add_at k y b) s (simp length-set size) (omega arith)
      ∙ sym (add_from_cons k y b s (omega arith))

  -- what just fills the block
  pub absorb-whole : (k : ℕ) (y s : List ℕ) → length y ≡ 16 → 0 < length s → k + length s ≡ 16 → absorb f k y s ≡ f (add_from k y s)
  absorb-whole k y [] size some h = absurd (not-suc-le-zero some)
  absorb-whole k y (b ∷ []) size some h =
      whole_next k y b (omega arith)
      ∙ ap f (sym (add_from_cons k y b [] (omega arith) ∙ add_from_nil (suc k) (add_at k y b) (simp length-set size) (omega arith)))
  absorb-whole k y (b ∷ c ∷ s) size some h =
      within_next k y b (c ∷ s) (omega arith)
      ∙ absorb-whole (suc k) (add_at k y b) (c ∷ s) (simp length-set size) (omega arith) (omega arith)
      ∙ ap f (sym (add_from_cons k y b (c ∷ s) (omega arith)))

  -- ---- from a block's beginning

  pub absorb_block : (y b : List ℕ) → length y ≡ 16 → length b ≡ 16 → absorb f 0 y b ≡ f (xors y b)
  absorb_block y b size whole =
      absorb-whole 0 y b size (omega arith) (omega arith) ∙ ap f (add_from-zero y b ∙ ap (xors y) (fill-whole b whole))

  pub absorb-blocks : (y s : List ℕ) → length y ≡ 16 → 16 ≤ length s → absorb f 0 y s ≡ absorb f 0 (f (xors y (take 16 s))) (drop 16 s)
  absorb-blocks y s size h =
      ap (absorb f 0 y) (sym (take-append-drop 16 s))
      ∙ absorb_append 0 y (take 16 s) (drop 16 s) (lit< tt)
      ∙ ap₂ (λ (n : ℕ) (x : List ℕ). absorb f ((0 + n) % 16) x (drop 16 s)) front (absorb_block y (take 16 s) size front)
    where
      front : length (take 16 s) ≡ 16
      front = length-take-le 16 s h

  -- ---- along what is left of a string

  -- the block at place `at`, of what is left from there
  pub absorb_block_turn : (y s : List ℕ) (at : ℕ) → length y ≡ 16 → at + 16 ≤ length s
      → absorb f 0 (f (xors y (take 16 (drop at s)))) (drop (at + 16) s) ≡ absorb f 0 y (drop at s)
  absorb_block_turn y s at size h =
      ap (absorb f 0 (f (xors y (take 16 (drop at s))))) (sym (drop-drop 16 at s))
      ∙ sym (absorb-blocks y (drop at s) size (omega (arith, length-drop at s)))

  -- the bytes that fill the block, and then from the start of one
  pub absorb_to_block : (k : ℕ) (y s : List ℕ) (n : ℕ) → k < 16 → n ≡ (16 - k) % 16 → n ≤ length s
      → absorb f 0 (absorb f k y (take n s)) (drop n s) ≡ absorb f k y s
  absorb_to_block k y s n h e le =
      sym
      (ap (absorb f k y) (sym (take-append-drop n s))
      ∙ absorb_append k y (take n s) (drop n s) h
      ∙ ap (λ (j : ℕ). absorb f j (absorb f k y (take n s)) (drop n s)) whole)
    where
      whole : (k + length (take n s)) % 16 ≡ 0
      whole = omega (arith, length-take n s)

  -- ---- close

  pub close-chain : (y s : List ℕ) → length y ≡ 16 → ((x : List ℕ) → length (f x) ≡ 16) → close f (length s % 16) (absorb f 0 y s) ≡ chain f y (cut s)
  close-chain y s size sizes = go (length s / 16) y s size (omega arith) (omega arith)
    where
      go : (m : ℕ) (y s : List ℕ) → length y ≡ 16 → 16 * m ≤ length s → length s < 16 * m + 16
          → close f (length s % 16) (absorb f 0 y s) ≡ chain f y (cut s)
      go zero y [] size lo hi = absorb_nil 0 y ∙ ap (chain f y) (sym cut_nil)
      go zero y (b ∷ s) size lo hi =
          ap₂ (λ (t : Bool) (x : List ℕ). when t x (f x)) (ne_eqb (suc (length s) % 16) 0 (λ e. omega arith))
          (absorb_within 0 y (b ∷ s) size (omega arith) ∙ add_from-zero y (b ∷ s))
          ∙ ap (chain f y) (sym (cut_short (b ∷ s) (omega arith) (omega arith)))
      go (suc m) y s size lo hi =
          ap₂ (λ (n : ℕ) (x : List ℕ). close f n x) same (absorb-blocks y s size (omega arith))
          ∙ go m (f (xors y (take 16 s))) (drop 16 s) (sizes (xors y (take 16 s))) (omega (arith, length-drop 16 s)) (omega (arith, length-drop 16 s))
          ∙ ap (chain f y) (sym (cut_next s (omega arith)))
        where
          same : length s % 16 ≡ length (drop 16 s) % 16
          same = omega (arith, length-drop 16 s)

  -- the same of a string in two parts
  pub close-parts : (y a b : List ℕ) → length y ≡ 16 → ((x : List ℕ) → length (f x) ≡ 16)
      → close f ((length a % 16 + length b) % 16) (absorb f (length a % 16) (absorb f 0 y a) b) ≡ chain f y (cut (a ++ b))
  close-parts y a b size sizes =
      ap₂ (close f) places (sym (joined ∙ ap (λ (n : ℕ). absorb f (n % 16) (absorb f 0 y a) b) (zero-add (length a))))
      ∙ close-chain y (a ++ b) size sizes
    where
      joined : absorb f 0 y (a ++ b) ≡ absorb f ((0 + length a) % 16) (absorb f 0 y a) b
      joined = absorb_append 0 y a b (lit< tt)

      places : (length a % 16 + length b) % 16 ≡ length (a ++ b) % 16
      places = omega (arith, length-append a b)

  pub bytes-absorb : ((x : List ℕ) → Bytes (f x)) → (k : ℕ) {y s : List ℕ} → Bytes y → Bytes s → Bytes (absorb f k y s)
  unfolding absorb
  bytes-absorb bytes k {y} {s = []} hy hs = hy
  bytes-absorb bytes k {y} {s = b ∷ s} hy hs =
      bytes-absorb bytes ((k + 1) % 16) {y = after_byte f k (add_at k y b)} {s = s} (after (eqb k 15) (bytes-set k hy (xor_byte (hy.byte k) (bytes_head hs)))) (bytes_tail hs)
    where
      after : (t : Bool) {x : List ℕ} → Bytes x → Bytes (when t (f x) x)
      after true {x} h = bytes x
      after false h = h
