-- What each mode of the code's enum is.
-- Assumes nothing.
use Rattle.modes.specs.Mode.{Mode}
use Rattle.modes.specs.Ccm.{ccm}
use Rattle.modes.specs.Gcm.{gcm}
use Rattle.modes.specs.declared.mode.Mode as by-name
use Rattle.modes.specs.declared.mode.Mode.TheVariants.{Ccm, Gcm}

abbrev pub named : by-name.Mode → Mode
named Ccm = ccm
named Gcm = gcm
