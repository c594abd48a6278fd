use mathlib.Core.Path.{◌≡◌}
use Rattle.keywrap.specs.Wrap.{unwrap_steps}
use Rattle.keywrap.proofs.steps.unwrap_steps.Given as goal

-- the steps left lead to what all 24 lead to from the start
abbrev pub invariant-loop-t : goal.invariant-loop-t
invariant-loop-t l = unwrap_steps l.ks l.t l.r ≡ unwrap_steps l.ks 24 l.initial.r
