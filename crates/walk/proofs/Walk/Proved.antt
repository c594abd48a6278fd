-- A walk proves a contract.
--     scene            the machine's tables, where code's calls mean γ. Its clauses read a routine's run as the kit's statements do, by `returns`
--     known            a callee's theorem, as a walk asks for it
--     proved           a walk over that scene is the function's theorem
-- For every `Model`, `Logic` and `Running`. Assumes nothing.
use mathlib.Core.Path.{◌≡◌}
use mathlib.Core.List.{List}
use seplogic.Ra.Ura.{Ura}
use mir.Syntax.{Callee, Fn}
use base.Logic.{via, fst∗}
use prog.Model.{Model}
use prog.Routine.{Routine, Env}
use prog.Wp.{WpFn, Closed}
use types.Logic.{Logic}
use contract.Monad.{Fun}
use contract.Running.{Running, tables, tables_of}
use sound.WpLaws.{FmC, fm_of, WpFn-mono}
use denote.Signature.{Slot}
use denote.Triple.Entry.{on_entry}
use denote.Triple.Statement.{Triple}
use denote.Triple.Clauses.{Ended, Clauses}
use denote.Triple.Table.{entered, cited}
use denote.Triple.Walked.{walked, walk_Meets}
use Rattle.walk.proofs.Walk.Parameters.{Params, stays, all_go, spell, all_tell}
use Rattle.walk.proofs.Walk.Ends.{Scene, Says, values, Walked}
use Rattle.walk.proofs.Walk.Callees.{promise, Meeting}

module _ {M : Type 1} {𝓤 : Ura M} (𝓛 : Logic 𝓤) (𝓜 : Model 𝓤 𝓛.H) (𝓡 : Running 𝓤 𝓛.H 𝓜) (γ : Env) where
  open 𝓛 use {H}

  pub framed : FmC 𝓤 H 𝓛.laws (tables 𝓤 H 𝓜 𝓡 γ).C
  unfolding tables_of
  framed = fm_of 𝓤 H 𝓛.laws (tables_of 𝓤 H 𝓜 (tables 𝓤 H 𝓜 𝓡 γ))

  abbrev pub scene : Scene 𝓛
  scene = record {
    mem = 𝓜.mem;
    run = 𝓡.returns;
    C = (tables 𝓤 H 𝓜 𝓡 γ).C;
    Λ = (tables 𝓤 H 𝓜 𝓡 γ).Λ;
    fm = framed;
  }

  module _ (T : Ended) (says : Says 𝓤 T) (k : Callee) where
    abbrev c : Clauses 𝓤 T
    c = says 𝓛 𝓜.mem 𝓡.returns

    pub known : (r : Routine) → γ k ≡ r → Triple 𝓤 (𝓡.run r) (promise 𝓛 T c) → Meeting scene T says k
    known r e met = cited 𝓤 H (promise 𝓛 T c) 𝓜 𝓡 γ k r e met

    pub proved : (ps : Params T.signature.params T.kept) (f : Fn) → Closed 𝓤 H scene.C scene.Λ k f → Walked scene T ps says f → Meeting scene T says k
    unfolding tables_of
    proved ps f closed walk =
        let ss : List (Slot T.signature.lifetimes) = T.signature.params in
        let run : Fun 𝓤 = WpFn 𝓤 H scene.C scene.Λ f in
        entered 𝓤 H (promise 𝓛 T c) scene.C scene.Λ k f closed
        (walk_Meets 𝓛 T (stays ss T.kept ps) (all_go 𝓛 ss T.kept ps) c run (WpFn-mono 𝓤 H 𝓛.laws (tables_of 𝓤 H 𝓜 (tables 𝓤 H 𝓜 𝓡 γ)) f)
        (walked 𝓛 T (stays ss T.kept ps) c run (spell ss T.kept ps) (all_tell ss T.kept ps) (λ κs qs bounds a g are.
        via 𝓤 (on_entry 𝓛 T.signature κs qs a (values scene T ps says κs a)) (fst∗ 𝓤 _ ((c κs a).requires g)) (walk κs qs bounds a g are))))
