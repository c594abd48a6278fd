-- `ghash::table::sum_bits` meets its contract. The loop's invariant: the sum, and what the first four bits and the k windows that are left add.
-- Assumes nothing.
use mathlib.Core.Path.{◌≡◌, refl, ap, ◌∙◌}
use Prim.Native.Nat.{ℕ, ◌+◌, ◌*◌, ◌-◌, ◌/◌, ◌%◌, ◌^◌, ◌≤◌, ◌<◌}
use native.Mathlib.Omega.{arith}
use lib.Bits.{bit_xor}
use Rattle.ghash.specs.Table.{adds, window_width, windows, entries, entry_in}
use Rattle.ghash.specs.Words.{val}
use Rattle.ghash.proofs.Entries.{word_turn, word_end}
use Rattle.ghash.proofs.Windows.{windows-none, entries_four, window_within, mod_below}
use Rattle.ghash.proofs.table.sum_bits.Goals as goal

back : (k : ℕ) → 0 < k → k - 1 + 1 ≡ k
back k h = omega arith

-- an entry of a window stands within the table

within : (i n s e : ℕ) → i + s ≤ e → n < s → i + n < e
within i n s e h k = omega arith

pub loop-k-init : goal.loop-k-init
loop-k-init g c = λ v t.
    ap (λ (n : ℕ). adds (4 + window_width g.C.Cut.fine * n) v c.args.w) (c.WINDOWS-k.ensures ∙ g.met.C.Cut.windows_are)

pub loop-k-preserved : goal.loop-k-preserved
loop-k-preserved g c = λ v t.
    let l = c.loop-k in
    let fine = g.C.Cut.fine in
    let b = window_width fine in
    let k = l.k - 1 in
    let size : c.SIZE-size.result ≡ 2 ^ b = c.SIZE-size.ensures ∙ g.met.C.Cut.size_is in
    let low : l.left % c.SIZE-size.result ≡ l.left % 2 ^ b = ap (λ (n : ℕ). l.left % n) size in
    let few : k < windows fine = omega (arith, c.WINDOWS-k.ensures ∙ g.met.C.Cut.windows_are) in
    let i = 16 + k * 2 ^ b + l.left % 2 ^ b in
    let place : 16 + k * c.SIZE-size.result + l.left % c.SIZE-size.result ≡ i = ap (λ (n : ℕ). 16 + k * n + l.left % n) size in
    let fits : i < entries fine = within _ _ _ _ (window_within fine k few) (mod_below fine l.left) in
    ap (λ (n : ℕ). bit_xor (val c.bitxor-sum.result) (adds (4 + b * k) v (l.left / n))) size
    ∙ word_turn b k v l.left (val l.sum) (val c.bitxor-sum.result) i (l.left % 2 ^ b) refl (mod_below fine l.left) refl
    (c.bitxor-sum.ensures.0 ∙ ap (bit_xor (val l.sum)) (c.read_entry.ensures ∙ ap (entry_in c.args.table.now) place ∙ t.at i fits))
    ∙ ap (λ (n : ℕ). bit_xor (val l.sum) (adds (4 + b * n) v l.left)) (back l.k (omega arith))
    ∙ l.invariant v t

pub returns : goal.returns
returns g c = λ v t.
    let l = c.loop-k in
    let fine = g.C.Cut.fine in
    let i = l.left % 16 in
    word_end (window_width fine) v l.left (val l.sum) (val c.bitxor.result) i refl (omega arith)
    (c.bitxor.ensures.0 ∙ ap (bit_xor (val l.sum)) (c.read_entry-2.ensures ∙ t.at i (omega (arith, entries_four fine))))
    ∙ ap (λ (n : ℕ). bit_xor (val l.sum) (adds n v l.left)) (windows-none (window_width fine) l.k (omega arith))
    ∙ l.invariant v t
