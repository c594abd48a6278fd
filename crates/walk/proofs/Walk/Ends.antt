-- The two ends of a walk.
--     Scene 𝓛          over what a walk goes, beside the logic 𝓛 (a heap, the ghost state and their rules): what the clauses read the memory and a routine's run as, what calls and loops mean,
--                      and that calls are monotone under a frame
--     of_type          a machine value is of its MIR type, as a store asks
--     Walked           what a walk shows: from what there is on entry, the function's MIR runs to the end of a walk (the kit's `walk_of`)
--     starts           a walk begins: [the tokens; what each parameter owns; the locals]
--     ends             it ends, at a result and last values that are named: [the tokens; what is had of each parameter; what the result owns]
-- Assumes `Logic`, and what a `Scene` holds.
use mathlib.Core.Option.{none}
use mathlib.Core.List.{List, [], ◌∷◌, ◌++◌}
use seplogic.Ra.Ura.{Ura}
use mir.Syntax.{Fn}
use mir.Val.{Val}
use base.Logic.{SProp, ent, sep, emp, via, comm∗, mono_l, mono_r, emp∗}
use prog.Memory.{Memory}
use prog.Routine.{Routine}
use prog.Wp.{Calls, Loops, WpFn}
use types.Logic.{Logic, sem}
use contract.Monad.{Fun, fact, fact_i}
use contract.Lifetimes.{toks}
use types.Kit.{Item, ‵, ⋆, prop, runs, at_ret, Seq, Go, !, by}
use sound.WpLaws.{FmC}
use denote.RattleType.{RattleType, flat, mirs, owns}
use denote.Laws.{Is, Are, Ises, Typed, valss, all_Typed}
use denote.Triple.Entry.{Args, Vals, Res, on_entry}
use denote.Triple.Clauses.{Ended, Clauses, Lasts, at_exit}
use denote.Triple.Walked.{Fit, on_exit, walk_of, ends_at}
use Rattle.walk.proofs.Walk.Locals.{Blocks, Arguments, env_of, deaths, cells, stored, begins}
use Rattle.walk.proofs.Walk.Parameters.{Known, Params, stays, spell, all_lawful, had_on, had_gives}
use Rattle.walk.proofs.Walk.Entries.{Lives, Parts, Outlive, Rows, Result, tokens, owned_by, tokens_in, tokens_out, owned_in}

pub record Scene {M : Type 1} {𝓤 : Ura M} (𝓛 : Logic 𝓤) : Type 2 where
  pub mem : Memory → SProp 𝓤
  pub run : Routine → Fun 𝓤
  pub C : Calls 𝓤 𝓛.H
  pub Λ : Loops 𝓤 𝓛.H
  pub fm : FmC 𝓤 𝓛.H 𝓛.laws C

-- a machine value is of its MIR type
pub of_type : {M : Type 1} {𝓤 : Ura M} {𝓛 : Logic 𝓤} (w : Scene 𝓛) {R : RattleType} (N : Known R) (x : R.Denot) → Is R x (N.val x ∷ []) → Typed R.mir (N.val x ∷ [])
of_type {𝓛 = 𝓛} w N x is = (N.lawful 𝓛).typed x (N.val x ∷ []) is

-- a function's clauses, at any logic
abbrev pub Says : {M : Type 1} (𝓤 : Ura M) → Ended → Type 2
Says 𝓤 T = (𝓛 : Logic 𝓤) → (Memory → SProp 𝓤) → (Routine → Fun 𝓤) → Clauses 𝓤 T

module _ {M : Type 1} {𝓤 : Ura M} {𝓛 : Logic 𝓤} (w : Scene 𝓛) (T : Ended) (ps : Params T.signature.params T.kept) (says : Says 𝓤 T) where
  open 𝓛 use {H}

  abbrev c : Clauses 𝓤 T
  c = says 𝓛 w.mem w.run

  -- the machine values that are passed
  abbrev pub values : (κs : Lives T) → Args T.signature κs → Vals T.signature κs
  values κs a = valss (Rows T κs) (spell T.signature.params T.kept ps κs) a

  abbrev passed : (κs : Lives T) → Args T.signature κs → List Val
  passed κs a = flat (Rows T κs) (values κs a)

  abbrev Finish : (κs : Lives T) → Parts T → Outlive T κs → (a : Args T.signature κs) → (c κs a).ghost → Val → SProp 𝓤
  Finish κs qs bounds a g = (walk_of 𝓛 T (stays T.signature.params T.kept ps) c).post ((κs, qs, bounds, a, values κs a), g)

  abbrev pub Walked : Fn → Type 1
  Walked f = (κs : Lives T) (qs : Parts T) (bounds : Outlive T κs) (a : Args T.signature κs) (g : (c κs a).ghost) → Are (Rows T κs) (Ises (Rows T κs)) a (values κs a)
      → ent 𝓤 (on_entry 𝓛 T.signature κs qs a (values κs a)) (WpFn 𝓤 H w.C w.Λ f (passed κs a) (Finish κs qs bounds a g))

  module _ (κs : Lives T) (qs : Parts T) (bounds : Outlive T κs) (a : Args T.signature κs) (g : (c κs a).ghost) where
    abbrev Γ₀ : List (Item 𝓤)
    Γ₀ = tokens 𝓤 T.signature.lifetimes κs qs (owned_by 𝓤 (Rows T κs) a (values κs a) [])

    -- the locals, once the arguments are passed
    abbrev locals : (f : Fn) → Blocks f.locals → List (Item 𝓤)
    locals f bs = ‵ (deaths 𝓛 (env_of 𝓛 f.locals bs)) ∷ cells 𝓛 (env_of 𝓛 f.locals bs) (none ∷ stored (passed κs a))

    pub starts : (f : Fn) → Are (Rows T κs) (Ises (Rows T κs)) a (values κs a) → (Typed (mirs (Rows T κs)) (passed κs a) → Arguments 𝓛 f.locals (passed κs a))
        → ((bs : Blocks f.locals) → Arguments 𝓛 f.locals (passed κs a)
        → Seq (Go {0}) 𝓛 (Γ₀ ++ locals f bs) (runs w.C w.Λ (env_of 𝓛 f.locals bs) f.body (at_ret (env_of 𝓛 f.locals bs) (Finish κs qs bounds a g))))
        → ent 𝓤 (on_entry 𝓛 T.signature κs qs a (values κs a)) (WpFn 𝓤 H w.C w.Λ f (passed κs a) (Finish κs qs bounds a g))
    starts f are fits k =
        let Rs : List RattleType = Rows T κs in
        let own : List (Item 𝓤) = owned_by 𝓤 Rs a (values κs a) [] in
        let P : SProp 𝓤 = toks 𝓛 T.signature.lifetimes κs qs in
        let Q : SProp 𝓤 = sem 𝓛 (owns Rs a (values κs a)) in
        let lawful = all_lawful 𝓛 T.signature.params T.kept ps κs in
        let args : Arguments 𝓛 f.locals (passed κs a) = fits (all_Typed 𝓛 Rs lawful a (values κs a) are) in
        via 𝓤 (⋆ 𝓛 Γ₀)
        (via 𝓤 (sep 𝓤 P (⋆ 𝓛 own))
        (mono_r 𝓤 P (via 𝓤 (sep 𝓤 Q (emp 𝓤)) (via 𝓤 (sep 𝓤 (emp 𝓤) Q) (emp∗ 𝓤 Q) (comm∗ 𝓤 (emp 𝓤) Q)) (owned_in 𝓤 𝓛 Rs a (values κs a) [])))
        (tokens_in 𝓤 𝓛 T.signature.lifetimes κs qs own))
        (begins {Γ = Γ₀} ! w.C w.Λ f (passed κs a) (Finish κs qs bounds a g) args (λ bs. k bs args)).prf

    module _ (r : Res T.signature κs) (v : Val) (ws : Lasts T κs a) where
      abbrev result : List (Item 𝓤)
      result = ‵ ((Result T κs).own_val r (v ∷ [])) ∷ []

      abbrev had : List (Item 𝓤)
      had = had_on 𝓤 T.signature.params T.kept ps κs a ws (values κs a) result

      pub ends : Fit T (stays T.signature.params T.kept ps) κs a ws → {φ : Type 0} → φ → ent 𝓤 (fact 𝓤 φ) ((c κs a).ensures g r (at_exit T κs a ws))
          → Seq (Go {0}) 𝓛 (tokens 𝓤 T.signature.lifetimes κs qs had) (prop (Finish κs qs bounds a g v))
      ends fits {φ} e ensures =
          let P : SProp 𝓤 = toks 𝓛 T.signature.lifetimes κs qs in
          let Q : SProp 𝓤 = (c κs a).ensures g r (at_exit T κs a ws) in
          let X : SProp 𝓤 = on_exit 𝓛 T (stays T.signature.params T.kept ps) κs qs (values κs a) v r a ws in
          by ! (via 𝓤 (sep 𝓤 P (⋆ 𝓛 had)) (tokens_out 𝓤 𝓛 T.signature.lifetimes κs qs had)
          (via 𝓤 X (mono_r 𝓤 P (had_gives 𝓛 T.signature.params T.kept ps κs a ws (values κs a) result))
          (via 𝓤 (sep 𝓤 Q X) (via 𝓤 (sep 𝓤 (emp 𝓤) X) (emp∗ 𝓤 X) (mono_l 𝓤 X (via 𝓤 (fact 𝓤 φ) (fact_i 𝓤 φ (emp 𝓤) e) ensures)))
          (via 𝓤 (sep 𝓤 X Q) (comm∗ 𝓤 Q X) (ends_at 𝓛 T (stays T.signature.params T.kept ps) c ((κs, qs, bounds, a, values κs a), g) v r ws fits)))))
