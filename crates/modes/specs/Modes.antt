-- The modes by the byte that names them (document 01, "Record": "mode (01h CCM, 02h GCM)").
-- Assumes nothing.
use Rattle.std.specs.Prelude.{ℕ, Bool, ◌||◌, eqb}
use Rattle.octets.specs.Lent.{when}
use Rattle.modes.specs.Mode.{Mode}
use Rattle.modes.specs.Ccm.{ccm}
use Rattle.modes.specs.Gcm.{gcm}

abbrev pub names_mode : ℕ → Bool
names_mode u = eqb u 1 || eqb u 2

-- what names none is measured by CCM's lengths
abbrev pub mode_of : ℕ → Mode
mode_of u = when (eqb u 2) gcm ccm
