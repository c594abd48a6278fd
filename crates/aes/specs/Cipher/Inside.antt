-- What `cipher` is, for the proofs of the block cipher's own crates.
-- Assumes nothing.
use Rattle.std.specs.Prelude.{◌≡◌, refl, ℕ, List, [], get_or}
use Rattle.aes.specs.State.{State, state_from, bytes_of}
use Rattle.aes.specs.Cipher.{add_round_key, last_round, first_rounds, cipher}

pub cipher_is : (ks : List State) (b : List ℕ)
    → cipher ks b ≡ bytes_of (last_round (first_rounds ks 13 (add_round_key (state_from b) (get_or ks 0 []))) (get_or ks 14 []))
unfolding cipher
cipher_is ks b = refl
