-- The windows of a fine table and of a small one.
-- Assumes nothing.
use mathlib.Core.Path.{◌≡◌, sym, ap, ◌∙◌}
use mathlib.Core.Bool.{Bool, true, false}
use Prim.Native.Nat.{ℕ, ◌+◌, ◌*◌, ◌%◌, ◌^◌, ◌≤◌, ◌<◌}
use native.Mathlib.Nat.{mul-zero}
use native.Mathlib.Omega.{arith}
use Rattle.ghash.specs.Table.{window_width, windows, entries}

-- none before the first
pub windows-none : (b k : ℕ) → k ≡ 0 → 4 ≡ 4 + b * k
windows-none b k e = sym (ap (λ (n : ℕ). 4 + b * n) e ∙ ap (λ (n : ℕ). 4 + n) (mul-zero b))

pub entries_four : (fine : Bool) → 16 ≤ entries fine
entries_four true = omega arith
entries_four false = omega arith

pub window_within : (fine : Bool) (k : ℕ) → k < windows fine → 16 + k * 2 ^ window_width fine + 2 ^ window_width fine ≤ entries fine
window_within true k lt = omega arith
window_within false k lt = omega arith

pub mod_below : (fine : Bool) (w : ℕ) → w % 2 ^ window_width fine < 2 ^ window_width fine
mod_below true w = omega arith
mod_below false w = omega arith
