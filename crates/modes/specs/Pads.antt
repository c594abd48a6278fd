-- What the fast way's starts stand for here: one gives the pads of a group of counters.
-- Assumes nothing.
use Rattle.std.specs.Prelude.{◌≡◌, ℕ, ◌/◌, ◌%◌, List}
use Rattle.aes.specs.State.{State}
use Rattle.aes.specs.Cipher.{cipher}
use Rattle.aes_fast.specs.ByTables.{Tables}
use Rattle.aes_fast.specs.Start.{cipher_from}
use Rattle.aes_fast.specs.declared.start.Start.{Start}
use Rattle.modes.specs.Counter.{counter_block}

-- the start s gives the pad of each counter that differs from k in the last byte alone
pub record Serves (t : Tables) (ks : List State) (w : ℕ) (front : List ℕ) (s : Start) (k : ℕ) : Type 0 where
  pub pads : (j : ℕ) → j / 256 ≡ k / 256 → cipher_from t ks s (j % 256) ≡ cipher ks (counter_block w front j)
