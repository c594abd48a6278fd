use mathlib.Core.Path.{◌≡◌}
use Prim.Native.Nat.{◌-◌}
use Rattle.keywrap.specs.Wrap.{wrap_steps}
use Rattle.keywrap.proofs.steps.wrap_steps.Given as goal

-- steps 1 to t - 1 are done
abbrev pub invariant-loop-t : goal.invariant-loop-t
invariant-loop-t l = l.r ≡ wrap_steps l.ks (l.t - 1) l.initial.r
