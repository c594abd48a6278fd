-- What `column_from` and `cipher_by` are, for this crate's own proofs.
-- Assumes nothing.
use Rattle.std.specs.Prelude.{◌≡◌, refl, ℕ, ◌/◌, ◌%◌, List, [], ◌∷◌, get_or}
use Rattle.aes.specs.State.{State, state_from, bytes_of}
use Rattle.aes.specs.Cipher.{add_round_key}
use Rattle.aes_fast.specs.ByTables.{Tables, column_from, last_round_by, rounds_by, cipher_by}

pub column_from_is : (w : ℕ) → column_from w ≡ w % 256 ∷ w / 256 % 256 ∷ w / 65536 % 256 ∷ w / 16777216 % 256 ∷ []
unfolding column_from
column_from_is w = refl

pub cipher_by_is : (t : Tables) (ks : List State) (b : List ℕ)
    → cipher_by t ks b ≡ bytes_of (last_round_by t (rounds_by t ks 13 (add_round_key (state_from b) (get_or ks 0 []))) (get_or ks 14 []))
unfolding cipher_by
cipher_by_is t ks b = refl
