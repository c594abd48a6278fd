-- What a signature asks and gives, as single entries of a walk's context.
--     Lives, Parts, Outlive, Rows, Result      the types of a signature's lifetimes, shares and bounds, and its parameters' and result's types
--     tokens           a token for each lifetime.        owned_by     what each parameter owns
--     lasts_on         what is said of each last value. Of a parameter that has none there is no entry
--     tokens_in, tokens_out, owned_in, owned_out, lasts_in     the kit's formulas for all at once as such entries, and back
-- Assumes nothing.
use mathlib.Core.List.{List, [], ◌∷◌}
use Prim.Native.Nat.{ℕ, zero, suc}
use seplogic.Ra.Ura.{Ura}
use base.Logic.{SProp, ent, sep, emp, via, assoc∗, assoc', mono_r, snd∗, emp∗}
use base.Fml.{Fml, flft}
use types.Logic.{Logic, sem}
use contract.Lifetimes.{Lfts, Shares, AllOutlive, toks}
use types.Kit.{Item, ‵, ⋆, push, pop}
use denote.RattleType.{RattleType, Denots, Valss, owns}
use denote.Exit.{Exit, unchanged, leaves, Last, left}
use denote.Signature.{Slot, type_at, types_at}
use denote.Triple.End.{Kepts, Fins, lasts_of}
use denote.Triple.Clauses.{Ended}

-- ---- the parts of a signature
module _ (T : Ended) where
  abbrev pub Lives : Type 0
  Lives = Lfts T.signature.lifetimes

  abbrev pub Parts : Type 0
  Parts = Shares T.signature.lifetimes

  abbrev pub Outlive : Lives → Type 0
  Outlive κs = AllOutlive T.signature.lifetimes T.signature.outlives κs

  abbrev pub Rows : Lives → List RattleType
  Rows κs = types_at T.signature.params κs

  abbrev pub Result : Lives → RattleType
  Result κs = type_at T.signature.result κs

-- ---- the entries
module _ {M : Type 1} (𝓤 : Ura M) where
  abbrev pub tokens : (n : ℕ) → Lfts n → Shares n → List (Item 𝓤) → List (Item 𝓤)
  tokens zero κs qs Γ = Γ
  tokens (suc n) κs qs Γ = ‵ (flft κs.0 qs.0) ∷ tokens n κs.1 qs.1 Γ

  abbrev pub owned_by : (Rs : List RattleType) → Denots Rs → Valss Rs → List (Item 𝓤) → List (Item 𝓤)
  owned_by [] a vss Γ = Γ
  owned_by (R ∷ Rs) a vss Γ = ‵ (R.own_val a.0 vss.0) ∷ owned_by Rs a.1 vss.1 Γ

  -- what is said of a last value. Of a parameter that has none nothing is said
  abbrev last_on : {D : Type 0} (e : Exit D) (x : D) → Last e x → List (Item 𝓤) → List (Item 𝓤)
  last_on unchanged x w Γ = Γ
  last_on (leaves L l S s r₀) x w Γ = ‵ (l x w) ∷ Γ

  abbrev pub lasts_on : {n : ℕ} (κs : Lfts n) (ss : List (Slot n)) (ks : Kepts ss) (a : Denots (types_at ss κs)) → Fins κs ss ks a → List (Item 𝓤) → List (Item 𝓤)
  lasts_on κs [] ks a ws Γ = Γ
  lasts_on κs (s ∷ ss) ks a ws Γ = last_on ((s.row κs).exit ks.0) a.0 ws.0 (lasts_on κs ss ks.1 a.1 ws.1 Γ)

  module _ (𝓛 : Logic 𝓤) where
    open 𝓛 use {A}

    pub tokens_in : (n : ℕ) (κs : Lfts n) (qs : Shares n) (Γ : List (Item 𝓤)) → ent 𝓤 (sep 𝓤 (toks 𝓛 n κs qs) (⋆ 𝓛 Γ)) (⋆ 𝓛 (tokens n κs qs Γ))
    tokens_in zero κs qs Γ = snd∗ 𝓤 (emp 𝓤) (⋆ 𝓛 Γ)
    tokens_in (suc n) κs qs Γ =
        let P : SProp 𝓤 = A.lft κs.0 qs.0 in
        let Q : SProp 𝓤 = toks 𝓛 n κs.1 qs.1 in
        via 𝓤 (sep 𝓤 P (sep 𝓤 Q (⋆ 𝓛 Γ))) (assoc∗ 𝓤 P Q (⋆ 𝓛 Γ))
        (via 𝓤 (sep 𝓤 P (⋆ 𝓛 (tokens n κs.1 qs.1 Γ))) (mono_r 𝓤 P (tokens_in n κs.1 qs.1 Γ)) (push 𝓛 (‵ (flft κs.0 qs.0)) (tokens n κs.1 qs.1 Γ)))

    pub tokens_out : (n : ℕ) (κs : Lfts n) (qs : Shares n) (Γ : List (Item 𝓤)) → ent 𝓤 (⋆ 𝓛 (tokens n κs qs Γ)) (sep 𝓤 (toks 𝓛 n κs qs) (⋆ 𝓛 Γ))
    tokens_out zero κs qs Γ = emp∗ 𝓤 (⋆ 𝓛 Γ)
    tokens_out (suc n) κs qs Γ =
        let P : SProp 𝓤 = A.lft κs.0 qs.0 in
        let Q : SProp 𝓤 = toks 𝓛 n κs.1 qs.1 in
        via 𝓤 (sep 𝓤 P (⋆ 𝓛 (tokens n κs.1 qs.1 Γ))) (pop 𝓛 (‵ (flft κs.0 qs.0)) (tokens n κs.1 qs.1 Γ))
        (via 𝓤 (sep 𝓤 P (sep 𝓤 Q (⋆ 𝓛 Γ))) (mono_r 𝓤 P (tokens_out n κs.1 qs.1 Γ)) (assoc' 𝓤 P Q (⋆ 𝓛 Γ)))

    pub owned_in : (Rs : List RattleType) (a : Denots Rs) (vss : Valss Rs) (Γ : List (Item 𝓤)) → ent 𝓤 (sep 𝓤 (sem 𝓛 (owns Rs a vss)) (⋆ 𝓛 Γ)) (⋆ 𝓛 (owned_by Rs a vss Γ))
    owned_in [] a vss Γ = snd∗ 𝓤 (emp 𝓤) (⋆ 𝓛 Γ)
    owned_in (R ∷ Rs) a vss Γ =
        let F : Fml = R.own_val a.0 vss.0 in
        let Q : SProp 𝓤 = sem 𝓛 (owns Rs a.1 vss.1) in
        via 𝓤 (sep 𝓤 (sem 𝓛 F) (sep 𝓤 Q (⋆ 𝓛 Γ))) (assoc∗ 𝓤 (sem 𝓛 F) Q (⋆ 𝓛 Γ))
        (via 𝓤 (sep 𝓤 (sem 𝓛 F) (⋆ 𝓛 (owned_by Rs a.1 vss.1 Γ))) (mono_r 𝓤 (sem 𝓛 F) (owned_in Rs a.1 vss.1 Γ)) (push 𝓛 (‵ F) (owned_by Rs a.1 vss.1 Γ)))

    pub owned_out : (Rs : List RattleType) (a : Denots Rs) (vss : Valss Rs) (Γ : List (Item 𝓤)) → ent 𝓤 (⋆ 𝓛 (owned_by Rs a vss Γ)) (sep 𝓤 (sem 𝓛 (owns Rs a vss)) (⋆ 𝓛 Γ))
    owned_out [] a vss Γ = emp∗ 𝓤 (⋆ 𝓛 Γ)
    owned_out (R ∷ Rs) a vss Γ =
        let F : Fml = R.own_val a.0 vss.0 in
        let Q : SProp 𝓤 = sem 𝓛 (owns Rs a.1 vss.1) in
        via 𝓤 (sep 𝓤 (sem 𝓛 F) (⋆ 𝓛 (owned_by Rs a.1 vss.1 Γ))) (pop 𝓛 (‵ F) (owned_by Rs a.1 vss.1 Γ))
        (via 𝓤 (sep 𝓤 (sem 𝓛 F) (sep 𝓤 Q (⋆ 𝓛 Γ))) (mono_r 𝓤 (sem 𝓛 F) (owned_out Rs a.1 vss.1 Γ)) (assoc' 𝓤 (sem 𝓛 F) Q (⋆ 𝓛 Γ)))

    last_in : {D : Type 0} (e : Exit D) (x : D) (w : Last e x) (Γ : List (Item 𝓤)) → ent 𝓤 (sep 𝓤 (sem 𝓛 (left e x w)) (⋆ 𝓛 Γ)) (⋆ 𝓛 (last_on e x w Γ))
    last_in unchanged x w Γ = snd∗ 𝓤 (emp 𝓤) (⋆ 𝓛 Γ)
    last_in (leaves L l S s r₀) x w Γ = push 𝓛 (‵ (l x w)) Γ

    pub lasts_in : {n : ℕ} (κs : Lfts n) (ss : List (Slot n)) (ks : Kepts ss) (a : Denots (types_at ss κs)) (ws : Fins κs ss ks a) (Γ : List (Item 𝓤))
        → ent 𝓤 (sep 𝓤 (sem 𝓛 (lasts_of κs ss ks a ws)) (⋆ 𝓛 Γ)) (⋆ 𝓛 (lasts_on κs ss ks a ws Γ))
    lasts_in κs [] ks a ws Γ = snd∗ 𝓤 (emp 𝓤) (⋆ 𝓛 Γ)
    lasts_in κs (s ∷ ss) ks a ws Γ =
        let P : SProp 𝓤 = sem 𝓛 (left ((s.row κs).exit ks.0) a.0 ws.0) in
        let Q : SProp 𝓤 = sem 𝓛 (lasts_of κs ss ks.1 a.1 ws.1) in
        let Δ : List (Item 𝓤) = lasts_on κs ss ks.1 a.1 ws.1 Γ in
        via 𝓤 (sep 𝓤 P (sep 𝓤 Q (⋆ 𝓛 Γ))) (assoc∗ 𝓤 P Q (⋆ 𝓛 Γ))
        (via 𝓤 (sep 𝓤 P (⋆ 𝓛 Δ)) (mono_r 𝓤 P (lasts_in κs ss ks.1 a.1 ws.1 Γ)) (last_in ((s.row κs).exit ks.0) a.0 ws.0 Δ))
