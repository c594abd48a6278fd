-- What `inv_cipher` is, for this crate's own proofs.
-- Assumes nothing.
use Rattle.std.specs.Prelude.{◌≡◌, refl, ℕ, List, [], get_or}
use Rattle.aes.specs.State.{State, state_from, bytes_of}
use Rattle.aes.specs.Cipher.{add_round_key}
use Rattle.aes.specs.InvCipher.{inv_rounds, inv_cipher}

pub inv_cipher_is : (ks : List State) (b : List ℕ) → inv_cipher ks b ≡ bytes_of (inv_rounds ks 13 (add_round_key (state_from b) (get_or ks 14 [])))
unfolding inv_cipher
inv_cipher_is ks b = refl
