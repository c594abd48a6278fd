-- What `round_tables` and `Right` are, for this crate's own proofs.
-- Assumes nothing.
use Rattle.std.specs.Prelude.{◌≡◌, refl, [], ◌∷◌}
use Rattle.std.proofs.Props.{props}
use Rattle.aes_fast.specs.ByTables.{Tables}
use Rattle.aes_fast.specs.Right.{round_table, round_tables, Right}

pub round_tables_is : round_tables ≡ round_table 0 ∷ round_table 1 ∷ round_table 2 ∷ round_table 3 ∷ []
unfolding round_tables
round_tables_is = refl

pub right_is : {t : Tables} → Right t → t ≡ round_tables
unfolding Right
right_is h = h

pub is_right : {t : Tables} → t ≡ round_tables → Right t
unfolding Right
is_right h = h

-- there is one proof of it
pub right_prop : (t : Tables) → IsProp (Right t)
unfolding Right
right_prop t = Prim.hlevel props
