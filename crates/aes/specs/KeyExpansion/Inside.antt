-- What `schedule` is, for this crate's own proofs.
-- Assumes nothing.
use Rattle.std.specs.Prelude.{◌≡◌, refl, ℕ, List}
use Rattle.octets.specs.Values.{values}
use Rattle.aes.specs.KeyExpansion.{words, round_key, schedule}

pub schedule_is : (key : List ℕ) → schedule key ≡ values (round_key (words key 52)) 0 15
unfolding schedule
schedule_is key = refl
