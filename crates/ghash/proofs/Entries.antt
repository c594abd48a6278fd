-- The tables of H: how they are filled, each entry from an earlier one, and how a word is looked up in its table.
-- Assumes nothing.
use mathlib.Core.Path.{◌≡◌, sym, ap, ap₂, ◌∙◌}
use mathlib.Core.Bool.{Bool}
use mathlib.Core.List.{List}
use Prim.Native.Nat.{ℕ, suc, ◌+◌, ◌*◌, ◌-◌, ◌/◌, ◌%◌, ◌^◌, ◌≤◌, ◌<◌}
use native.Mathlib.Nat.{add_assoc, add-zero, zero-add, mul-suc, suc-mul}
use native.Mathlib.Numerals.{add-one}
use native.Mathlib.Omega.{arith}
use borrow.Author.Tests.{lt-ltb, le-ltb}
use lib.Arith.{digits_div, digits_mod}
use lib.Bits.{bit_xor, xor_comm, xor_zero_l, xor_zero_r}
use Rattle.octets.specs.BigEndian.{be}
use Rattle.octets.specs.Lent.{when}
use Rattle.octets.proofs.Xor.{xor_assoc}
use Rattle.ghash.specs.declared.words.Wide.{Wide}
use Rattle.ghash.specs.Field.{times_xs, times_h}
use Rattle.ghash.specs.Table.{adds, entry_at, Window, Sums, Filled}
use Rattle.ghash.specs.Words.{val, block_of}
use Rattle.ghash.proofs.Multiply.{times_xs_add, adds_none, adds_window, adds_mod, adds_highest, multiply-words}
use Rattle.ghash.proofs.Field.{adds-parts, times_xs-zero}

-- ---- entries

pub entry_first : (b h n : ℕ) → n < 16 → entry_at b h n ≡ adds 4 h n
unfolding entry_at
entry_first b h n lt =
    ap (λ (t : Bool). when t (adds 4 h n) (adds b (times_xs (4 + b * ((n - 16) / 2 ^ b)) h) ((n - 16) % 2 ^ b))) (lt-ltb n 16 lt)

pub entry_window : (b h k n : ℕ) → n < 2 ^ b → entry_at b h (16 + k * 2 ^ b + n) ≡ adds b (times_xs (4 + b * k) h) n
unfolding entry_at
entry_window b h k n lt =
    ap (λ (t : Bool). when t (adds 4 h i) (adds b (times_xs (4 + b * ((i - 16) / 2 ^ b)) h) ((i - 16) % 2 ^ b))) (le-ltb i 16 (past (k * 2 ^ b) n))
    ∙ ap (λ (m : ℕ). adds b (times_xs (4 + b * (m / 2 ^ b)) h) (m % 2 ^ b)) (from (k * 2 ^ b) n)
    ∙ ap₂ (λ (q m : ℕ). adds b (times_xs (4 + b * q) h) m) (digits_div k lt) (digits_mod k lt)
  where
    i : ℕ
    i = 16 + k * 2 ^ b + n

    past : (m r : ℕ) → 16 ≤ 16 + m + r
    past m r = omega arith

    from : (m r : ℕ) → 16 + m + r - 16 ≡ m + r
    from m r = omega arith

-- ---- windows

pub first_window : (b h : ℕ) → Window (entry_at b h) 0 4 h
first_window b h n lt = ap (entry_at b h) (zero-add n) ∙ entry_first b h n lt

pub window_at : (b h k i v : ℕ) → i ≡ 16 + k * 2 ^ b → v ≡ times_xs (4 + b * k) h → Window (entry_at b h) i b v
window_at b h k i v ei ev n lt = ap (λ (m : ℕ). entry_at b h (m + n)) ei ∙ entry_window b h k n lt ∙ ap (λ (m : ℕ). adds b m n) (sym ev)

-- the entry of no bit
pub window-none : (f : ℕ → ℕ) (base b v : ℕ) → 0 < 2 ^ b → Window f base b v → 0 ≡ f base
window-none f base b v lt w = sym (ap f (sym (add-zero base)) ∙ w 0 lt ∙ adds_none b v)

-- the entries whose highest bit has d bits before it and j after
pub window_sums : (f : ℕ → ℕ) (base d j v p : ℕ) → 2 ^ j + 2 ^ j ≤ 2 ^ suc (d + j) → p ≡ times_xs d v → Window f base (suc (d + j)) v → Sums f base (2 ^ j) p
window_sums f base d j v p fits ep w n lt =
    ap f (add_assoc base (2 ^ j) n)
    ∙ w (2 ^ j + n) (both (2 ^ j) n (2 ^ suc (d + j)) fits lt)
    ∙ adds_highest d j v n lt
    ∙ ap₂ bit_xor (sym (w n (lower (2 ^ j) n (2 ^ suc (d + j)) fits lt))) (sym ep)
  where
    both : (t m e : ℕ) → t + t ≤ e → m < t → t + m < e
    both t m e h k = omega arith

    lower : (t m e : ℕ) → t + t ≤ e → m < t → m < e
    lower t m e h k = omega arith

-- the entries of the last four bits of six
pub window_four : (f : ℕ → ℕ) (base v p : ℕ) → p ≡ times_xs 2 v → Window f base 6 v → Window f base 4 p
window_four f base v p ep w n lt =
    w n (omega arith)
    ∙ adds_window 2 4 v n
    ∙ ap₂ (λ (m q : ℕ). bit_xor (adds 2 v m) (adds 4 q n)) above (sym ep)
    ∙ ap (λ (m : ℕ). bit_xor m (adds 4 p n)) (adds_none 2 v)
    ∙ xor_zero_l (adds 4 p n)
  where
    above : n / 2 ^ 4 ≡ 0
    above = omega arith

-- ---- filling

pub filled_none : (f : ℕ → ℕ) (t : List ℕ) → Filled f t 0
filled_none f t = record { at = λ i lt. absurd (omega arith) }

pub filled-same : {f : ℕ → ℕ} {t : List ℕ} {m n : ℕ} → m ≡ n → Filled f t m → Filled f t n
filled-same e g = rw (sym e) g

pub twice : (b t u : ℕ) → t + t ≡ u → b + t + t ≡ b + u
twice b t u e = omega arith

next : (b k : ℕ) → 4 + b * k + b ≡ 4 + b * (k + 1)
next b k = add_assoc 4 (b * k) b ∙ ap (λ (n : ℕ). 4 + n) (sym (ap (λ (n : ℕ). b * n) (add-one k) ∙ mul-suc b k))

-- V from window to window
pub next_window : (b k h v r : ℕ) → v ≡ times_xs (4 + b * k) h → r ≡ times_xs b v → r ≡ times_xs (4 + b * (k + 1)) h
next_window b k h v r ev er = er ∙ ap (times_xs b) ev ∙ sym (times_xs_add (4 + b * k) b h) ∙ ap (λ (n : ℕ). times_xs n h) (next b k)

pub next_place : (k s i : ℕ) → i ≡ 16 + k * s → i + s ≡ 16 + (k + 1) * s
next_place k s i e =
    ap (λ (n : ℕ). n + s) e ∙ add_assoc 16 (k * s) s ∙ ap (λ (n : ℕ). 16 + n) (sym (ap (λ (n : ℕ). n * s) (add-one k) ∙ suc-mul k s))

-- ---- a word looked up, the last window first

pub word_turn : (b k h w z r i n : ℕ) → n ≡ w % 2 ^ b → n < 2 ^ b → i ≡ 16 + k * 2 ^ b + n → r ≡ bit_xor z (entry_at b h i)
    → bit_xor r (adds (4 + b * k) h (w / 2 ^ b)) ≡ bit_xor z (adds (4 + b * (k + 1)) h w)
word_turn b k h w z r i n en lt ei er =
    ap (λ (m : ℕ). bit_xor m M) (er ∙ ap (bit_xor z) entry)
    ∙ xor_assoc z E M
    ∙ ap (bit_xor z) (xor_comm E M ∙ sym (adds_window (4 + b * k) b h w) ∙ ap (λ (m : ℕ). adds m h w) (next b k))
  where
    M : ℕ
    M = adds (4 + b * k) h (w / 2 ^ b)

    E : ℕ
    E = adds b (times_xs (4 + b * k) h) w

    entry : entry_at b h i ≡ adds b (times_xs (4 + b * k) h) w
    entry = ap (entry_at b h) ei ∙ entry_window b h k n lt ∙ ap (adds b (times_xs (4 + b * k) h)) en ∙ adds_mod b (times_xs (4 + b * k) h) w

-- the first four bits
pub word_end : (b h w z r i : ℕ) → i ≡ w % 2 ^ 4 → i < 16 → r ≡ bit_xor z (entry_at b h i) → r ≡ bit_xor z (adds 4 h w)
word_end b h w z r i ei lt er = er ∙ ap (bit_xor z) (entry_first b h i lt ∙ ap (adds 4 h) ei ∙ adds_mod 4 h w)

-- ---- a block looked up by its two words

pub times_words : (h : ℕ) (x r : Wide) → block_of r ≡ be 16 (val r)
    → val r ≡ bit_xor (adds 64 h x.high) (adds 64 (times_xs 64 h) x.low) → block_of r ≡ times_h h (block_of x)
unfolding times_h block_of
times_words h x r block e = block ∙ ap (be 16) (e ∙ sym (multiply-words x.high x.low h))

-- ---- and by one table for its 32-bit parts

-- a word, with z after it
word_halves : (v w z s r : ℕ) → s ≡ bit_xor (adds 32 v w) (times_xs 32 z) → r ≡ bit_xor (adds 32 v (w / 2 ^ 32)) (times_xs 32 s)
    → r ≡ bit_xor (adds 64 v w) (times_xs 64 z)
word_halves v w z s r es er =
    er ∙ ap (λ (n : ℕ). bit_xor (adds 32 v (w / 2 ^ 32)) (times_xs 32 n)) es
    ∙ adds-parts 32 32 v (w / 2 ^ 32) w z
    ∙ ap (λ (n : ℕ). bit_xor n (times_xs 64 z)) (sym (adds_window 32 32 v w))

pub times_halves : (h : ℕ) (x s₁ s₂ s₃ r : Wide) → block_of r ≡ be 16 (val r)
    → val s₁ ≡ bit_xor (adds 32 h x.low) (times_xs 32 0) → val s₂ ≡ bit_xor (adds 32 h (x.low / 2 ^ 32)) (times_xs 32 (val s₁))
    → val s₃ ≡ bit_xor (adds 32 h x.high) (times_xs 32 (val s₂)) → val r ≡ bit_xor (adds 32 h (x.high / 2 ^ 32)) (times_xs 32 (val s₃))
    → block_of r ≡ times_h h (block_of x)
times_halves h x s₁ s₂ s₃ r block e₁ e₂ e₃ er =
    times_words h x r block
    (word_halves h x.high (val s₂) (val s₃) (val r) e₃ er
    ∙ ap (λ (n : ℕ). bit_xor (adds 64 h x.high) (times_xs 64 n)) (word_halves h x.low 0 (val s₁) (val s₂) e₁ e₂)
    ∙ adds-parts 64 64 h x.high x.low 0
    ∙ ap (bit_xor both) (times_xs-zero 128)
    ∙ xor_zero_r both)
  where
    both : ℕ
    both = bit_xor (adds 64 h x.high) (adds 64 (times_xs 64 h) x.low)
