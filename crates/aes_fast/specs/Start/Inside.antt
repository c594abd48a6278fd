-- What `start_by` and `cipher_from` are, for this crate's own proofs.
-- Assumes nothing.
use Rattle.std.specs.Prelude.{◌≡◌, ℕ, List, [], get_or}
use Rattle.std.proofs.Math.Path.{refl}
use Rattle.aes.specs.State.{State, column, bytes_of}
use Rattle.aes.specs.Cipher.{add_column, add_round_key}
use Rattle.aes_fast.specs.ByTables.{Tables, table_entry, shifted, later_rounds_by}
use Rattle.aes_fast.specs.Right.{word_from}
use Rattle.aes_fast.specs.Halves.{halves_from}
use Rattle.aes_fast.specs.declared.start.Start.{Start}
use Rattle.aes_fast.specs.Start.{state_after, column_adds, start_by, begun_by, cipher_from}

module _ (t : Tables) (ks : List State) (b : List ℕ) where
  pub start_key : (start_by t ks b).key ≡ get_or (column (get_or ks 0 []) 3) 3 0
  unfolding start_by
  start_key = refl

  pub start_first : (start_by t ks b).first ≡ word_from (add_column (column (state_after t ks 1 b) 0) (table_entry t 3 (shifted (state_after t ks 0 b) 0 3)))
  unfolding start_by
  start_first = refl

  pub start_second : (start_by t ks b).second ≡ halves_from (add_round_key (state_after t ks 2 b) (column_adds t (column (state_after t ks 1 b) 0)))
  unfolding start_by
  start_second = refl

pub cipher_from_is : (t : Tables) (ks : List State) (s : Start) (low : ℕ)
    → cipher_from t ks s low ≡ bytes_of (later_rounds_by t ks 2 (begun_by t s low))
unfolding cipher_from
cipher_from_is t ks s low = refl
