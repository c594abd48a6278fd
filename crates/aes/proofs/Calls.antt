-- The answers over lent bytes, for any cipher f.
-- Assumes nothing.
use mathlib.Core.Path.{◌≡◌, sym, ◌∙◌}
use mathlib.Core.List.{List}
use Prim.Native.Nat.{ℕ}
use lib.ListN.{length}
use Rattle.octets.proofs.Lent.{is_not_right, over-whole}
use Rattle.aes.specs.State.{State}
use Rattle.aes.specs.KeyExpansion.{schedule}
use Rattle.aes.specs.Calls.{key_size_lem, block_size, block_number, block_answer}

module _ (f : List State → List ℕ → List ℕ) (key block : List ℕ) where
  pub in_range : length key ≡ key_size_lem → length block ≡ block_size → length (f (schedule key) block) ≡ block_size → block_answer f key block ≡ (0, f (schedule key) block)
  unfolding block_answer block_number
  in_range hk hb long = rw (is_not_right key_size_lem key hk, is_not_right block_size block hb, over-whole (f (schedule key) block) block (long ∙ sym hb))
