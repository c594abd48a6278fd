-- How many records open by a row (document 02, No. 1): "Records are opened with no caller's data."
-- Assumes nothing.
use Rattle.std.specs.Prelude.{ℕ, ◌+◌, Bool, true, ◌&&◌, List, [], ◌∷◌, eqb}
use Rattle.std.proofs.Math.Option.{some}
use Rattle.octets.specs.Lent.{when}
use Rattle.keytable.specs.Row.{data_type, Row, matches}
use Rattle.record.specs.Record.{count_in, name_in}
use Rattle.record.specs.Open.{open_number}

-- the row is the one of type 0000h with the record's whole name, and opening the record by it, with room, gives 0
unfoldable pub opens_with : Row → List ℕ → Bool
opens_with row r = matches data_type (name_in r) row && eqb (open_number true (some row) r [] (count_in r)) 0

unfoldable pub opens_by : Row → List (List ℕ) → ℕ
opens_by row [] = 0
opens_by row (r ∷ rs) = when (opens_with row r) 1 0 + opens_by row rs
