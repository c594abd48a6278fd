-- A call in a walk, by the callee's contract.
--     Meeting          the callee that the scene's table of calls has under a name meets its contract: all that a walk knows of it
--     calls            it takes [the tokens; what each argument owns] and leaves [the tokens; what is said of each last value; what the result owns], with the fact that it ensures
-- The last two arguments of `calls` say that the callee requires nothing, and that what it ensures is the fact that the walk names. Both are `id⊢`.
-- Assumes `Logic`, and what a `Scene` holds.
use mathlib.Core.Path.{sym, ap, subst}
use mathlib.Core.List.{List, [], ◌∷◌}
use seplogic.Ra.Ura.{Ura}
use mir.Syntax.{Callee, Place, Opd as Operand, Body, seq, call}
use mir.Val.{Val}
use base.Logic.{SProp, ent, sep, emp, id⊢, via, mono_l, mono_r, emp∗}
use prog.Wp.{Env}
use types.Logic.{Logic, sem}
use contract.Monad.{fact}
use contract.Lifetimes.{toks}
use types.Kit.{Item, ‵, raw, some, later, ◌⊛◌, ⋆, push, runs, lands, Goal, Post, Seq, Step, step, ◌$◌, ◌∵◌, !, qed, move, use1, split, join, pick, await, done, Soaks}
use types.Run.{Opds}
use denote.RattleType.{RattleType, flat, owns}
use denote.Laws.{Is, Typed, shows}
use denote.Steps.{only, peeks, heard}
use denote.Triple.Entry.{Args, Vals, Res, alive}
use denote.Triple.Statement.{Contract, Triple}
use denote.Triple.Spec.{triple_of}
use denote.Triple.Clauses.{Ended, Clauses, Lasts, at_exit, lasts, closing}
use denote.Triple.Call.{calls_at}
use Rattle.walk.proofs.Walk.Parameters.{Known}
use Rattle.walk.proofs.Walk.Entries.{Lives, Parts, Outlive, Rows, Result, tokens, owned_by, lasts_on, tokens_in, tokens_out, owned_out, lasts_in}
use Rattle.walk.proofs.Walk.Ends.{Scene, Says}

abbrev pub promise : {M : Type 1} {𝓤 : Ura M} (𝓛 : Logic 𝓤) (T : Ended) → Clauses 𝓤 T → Contract 𝓤
promise 𝓛 T c = triple_of 𝓛 T.signature (closing 𝓛 T c)

module _ {M : Type 1} {𝓤 : Ura M} {𝓛 : Logic 𝓤} (w : Scene 𝓛) (T : Ended) (says : Says 𝓤 T) where
  open 𝓛 use {H}

  abbrev c : Clauses 𝓤 T
  c = says 𝓛 w.mem w.run

  abbrev pub Meeting : Callee → Type 1
  Meeting f = Triple 𝓤 (w.C f) (promise 𝓛 T c)

  module _ (κs : Lives T) (qs : Parts T) (bounds : Outlive T κs) (a : Args T.signature κs) (vss : Vals T.signature κs) (g : (c κs a).ghost) where
    abbrev pre : SProp 𝓤
    pre = (promise 𝓛 T c).pre ((κs, qs, bounds, a, vss), g)

    abbrev asked_on : List (Item 𝓤) → List (Item 𝓤)
    asked_on Γ = tokens 𝓤 T.signature.lifetimes κs qs (owned_by 𝓤 (Rows T κs) a vss Γ)

    -- what the caller has once the callee has returned r, whose machine value is v, and left the last values ws
    abbrev given_on : Res T.signature κs → Lasts T κs a → Val → List (Item 𝓤) → List (Item 𝓤)
    given_on r ws v Γ = tokens 𝓤 T.signature.lifetimes κs qs (lasts_on 𝓤 κs T.signature.params T.kept a ws (‵ ((Result T κs).own_val r (v ∷ [])) ∷ Γ))

    abbrev Ensures : Res T.signature κs → Lasts T κs a → SProp 𝓤
    Ensures r ws = (c κs a).ensures g r (at_exit T κs a ws)

    module _ {K : Type 0} {Γ : List (Item 𝓤)} where
      asked : K → ent 𝓤 (emp 𝓤) ((c κs a).requires g) → {G : Goal 𝓤 H} → Step K 𝓛 (raw pre ∷ Γ) G (asked_on Γ) G
      asked t needs =
          let P : SProp 𝓤 = toks 𝓛 T.signature.lifetimes κs qs in
          let Q : SProp 𝓤 = sem 𝓛 (owns (Rows T κs) a vss) in
          let N : SProp 𝓤 = (c κs a).requires g in
          let Z : SProp 𝓤 = ⋆ 𝓛 Γ in
          let own : List (Item 𝓤) = owned_by 𝓤 (Rows T κs) a vss Γ in
          step (λ s. record {
            prf = via 𝓤 (sep 𝓤 P (⋆ 𝓛 own)) (tokens_out 𝓤 𝓛 T.signature.lifetimes κs qs own)
                (via 𝓤 (sep 𝓤 P (sep 𝓤 Q Z)) (mono_r 𝓤 P (owned_out 𝓤 𝓛 (Rows T κs) a vss Γ))
                (via 𝓤 (sep 𝓤 N (sep 𝓤 P (sep 𝓤 Q Z))) (via 𝓤 (sep 𝓤 (emp 𝓤) (sep 𝓤 P (sep 𝓤 Q Z))) (emp∗ 𝓤 (sep 𝓤 P (sep 𝓤 Q Z))) (mono_l 𝓤 (sep 𝓤 P (sep 𝓤 Q Z)) needs))
                (via 𝓤 (sep 𝓤 pre Z) (qed 𝓛 (raw N ∷ raw P ∷ raw Q ∷ raw Z ∷ []) ∵ move ! (1 ∷ 2 ∷ 0 ∷ []) $ join ! $ join ! $ done !)
                (via 𝓤 (⋆ 𝓛 (raw pre ∷ Γ)) (push 𝓛 (raw pre) Γ) s.prf))));
          })

      gathered : K → (r : Res T.signature κs) (ws : Lasts T κs a) (v : Val) {G : Goal 𝓤 H}
          → Step K 𝓛 (given_on r ws v Γ) G (raw (alive 𝓛 T.signature κs qs) ∷ ‵ (lasts T κs a ws) ∷ ‵ ((Result T κs).own_val r (v ∷ [])) ∷ Γ) G
      gathered t r ws v =
          let P : SProp 𝓤 = alive 𝓛 T.signature κs qs in
          let own : List (Item 𝓤) = ‵ ((Result T κs).own_val r (v ∷ [])) ∷ Γ in
          let last : List (Item 𝓤) = lasts_on 𝓤 κs T.signature.params T.kept a ws own in
          step (λ s. record {
            prf = via 𝓤 (sep 𝓤 P (⋆ 𝓛 last)) (mono_r 𝓤 P (lasts_in 𝓤 𝓛 κs T.signature.params T.kept a ws own))
                (via 𝓤 (⋆ 𝓛 (given_on r ws v Γ)) (tokens_in 𝓤 𝓛 T.signature.lifetimes κs qs last) s.prf);
          })

    module _ (N : Known (Result T κs)) (Said : Res T.signature κs → Lasts T κs a → Type 0) where
      abbrev R : RattleType
      R = Result T κs

      -- the rest of the walk, at what the callee returned
      abbrev Rest : (K : Type 0) → List (Item 𝓤) → (Val → Goal 𝓤 H) → Type 1
      Rest K Γ G = (r : Res T.signature κs) (ws : Lasts T κs a) → Said r ws → Is R r (N.val r ∷ []) → Typed R.mir (N.val r ∷ []) → Seq K 𝓛 (given_on r ws (N.val r) Γ) (G (N.val r))

      returned : {K : Type 0} (t : K) {Γ : List (Item 𝓤)} → ((r : Res T.signature κs) (ws : Lasts T κs a) → ent 𝓤 (Ensures r ws) (fact 𝓤 (Said r ws)))
          → (G : Val → Goal 𝓤 H) (v : Val) → Soaks (G v) → Rest K Γ G → Seq K 𝓛 (raw ((promise 𝓛 T c).post ((κs, qs, bounds, a, vss), g) v) ∷ Γ) (G v)
      returned {K} t {Γ} ensures G v z k =
          let P : SProp 𝓤 = alive 𝓛 T.signature κs qs in
          use1 𝓛 (later (some (λ (r : Res T.signature κs). (raw P ⊛ ‵ (R.own_val r (v ∷ []))) ⊛ some (λ (ws : Lasts T κs a). ‵ (lasts T κs a ws) ⊛ raw (Ensures r ws))))) (id⊢ 𝓤 _) $
          await t z $ pick t (λ r. split t $ move t (1 ∷ []) $ pick t (λ ws. split t $ move t (1 ∷ []) $
          use1 𝓛 (raw (fact 𝓤 (Said r ws))) (ensures r ws) $ heard t (Said r ws) (λ e. move t (1 ∷ []) $ split t $ move t (1 ∷ []) $
          peeks t R (Is R) (shows 𝓛 R) r (v ∷ []) (λ is. move t (1 ∷ 2 ∷ 0 ∷ []) $ gathered t r ws v $
          subst (λ (u : Val). Is R r (u ∷ []) → Seq K 𝓛 (given_on r ws u Γ) (G u)) (sym (ap only (N.tells r (v ∷ []) is)))
          (λ is'. k r ws e is' ((N.lawful 𝓛).typed r (N.val r ∷ []) is')) is))))

      pub calls : {K : Type 0} → K → {Γ : List (Item 𝓤)} {E : Env 𝓤 H} {q : Post 𝓤 H} {f : Callee} {xs : List Operand} {d : Place} {rest : Body} → Meeting f
          → Opds K 𝓛 (raw pre ∷ Γ) E xs (flat (Rows T κs) vss) → Rest K Γ (λ v. lands w.C w.Λ E d v rest q)
          → ent 𝓤 (emp 𝓤) ((c κs a).requires g) → ((r : Res T.signature κs) (ws : Lasts T κs a) → ent 𝓤 (Ensures r ws) (fact 𝓤 (Said r ws)))
          → Seq K 𝓛 (asked_on Γ) (runs w.C w.Λ E (seq (call f xs d) rest) q)
      calls t {Γ} {E} {q} {f} {xs} {d} {rest} met os k needs ensures =
          asked t needs $ calls_at t w.fm (promise 𝓛 T c) met ((κs, qs, bounds, a, vss), g) os (λ v. returned t ensures (λ u. lands w.C w.Λ E d u rest q) v tt k)
