-- That tables and round keys are ready has one proof, so that a struct which holds them may keep it (a ghost field).
-- Assumes nothing.
use Rattle.std.specs.Prelude.{List}
use Rattle.std.proofs.Props.{props}
use Rattle.aes.specs.State.{State}
use Rattle.aes_fast.specs.ByTables.{Tables}
use Rattle.aes_fast.specs.Right.{Ready}
use Rattle.aes_fast.specs.Right.Inside.{right_prop}

pub ready_prop : (t : Tables) (ks : List State) → IsProp (Ready t ks)
ready_prop t ks = Prim.hlevel (props, right_prop)
