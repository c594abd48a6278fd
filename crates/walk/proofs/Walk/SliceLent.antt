-- A lent slice that is lent on, as to a callee.
--     relends s i j    `_i = &*_s.0` and `_j = (_i, _s.1)`
-- Assumes `Logic`.
use mathlib.Core.Path.{ap}
use mathlib.Core.List.{List, [], ◌∷◌}
use Prim.Native.Nat.{ℕ}
use seplogic.Ra.Ura.{Ura}
use lib.Dec.{T}
use mir.Syntax.{Sym, Ty, Tys, Body, place, field as dot, deref, copy, addr_of, aggregate, assign, seq}
use mir.Val.{Val, Vals, vnil, vcons, vptr, vstruct, WT, has_ty}
use mir.Fields.{get_v}
use base.Fml.{Share}
use prog.Wp.{Env, Calls, Loops, spot_of}
use types.Logic.{Logic}
use types.Kit.{Item, Post, runs, Step, step, ◌$◌}
use types.Run.{stop, hop, from, fld, addr, Rv}
use types.Part.{agg, look_in}
use Rattle.walk.proofs.Walk.Locals.{at}
use Rattle.walk.proofs.Walk.Steps.{within, Holds, Empty, Fields, setting, var, field, args2, lets}

module _ {M : Type 1} {𝓤 : Ura M} (𝓛 : Logic 𝓤) (Γ : List (Item 𝓤)) (E : Env 𝓤 𝓛.H) (s i j : ℕ) where
  -- `_s` holds the slice; `_i` is room for its pointer, and `_j` for the slice
  abbrev pub Relent : Share → Share → Share → Sym → Tys → Vals → ℕ → ℕ → Ty → Ty → ℕ → ℕ → Type 2
  Relent q q₁ q₂ ν τs us b o σ₀ σ₁ d₀ d₁ =
      Fields 𝓛 Γ E s q ν τs (vcons (vptr b o) us) 0 σ₀ d₀ × (Empty 𝓛 Γ E i
      × (Holds 𝓛 (setting 𝓛 Γ E i (vptr b o)) E i q₁ (vptr b o) × (Fields 𝓛 (setting 𝓛 Γ E i (vptr b o)) E s q₂ ν τs (vcons (vptr b o) us) 1 σ₁ d₁
      × Empty 𝓛 (setting 𝓛 Γ E i (vptr b o)) E j)))

module _ {M : Type 1} {𝓤 : Ura M} {𝓛 : Logic 𝓤} {K : Type 0} {Γ : List (Item 𝓤)} {E : Env 𝓤 𝓛.H} where
  -- `&*_k.0` of a lent slice `_k`
  start : K → (k : ℕ) {q : Share} {ν : Sym} {τs : Tys} {us : Vals} {τ σ : Ty} {d b o : ℕ} → Fields 𝓛 Γ E k q ν τs (vcons (vptr b o) us) 0 σ d
      → Rv K 𝓛 Γ E (addr_of (place k (dot 0 ∷ deref τ ∷ []))) (vptr b o)
  start t k e = addr t (from t (fld t (ap (λ x. x.1.1) e) (hop t (look_in t (at 𝓛 Γ k) (within Γ t (at 𝓛 Γ k) 0 (ap (λ x. x.0) e) (ap (λ x. x.1.0) e))) (stop t))))

module _ {M : Type 1} {𝓤 : Ura M} {𝓛 : Logic 𝓤} {K : Type 0} {Γ : List (Item 𝓤)} {E : Env 𝓤 𝓛.H} {C : Calls 𝓤 𝓛.H} {Λ : Loops 𝓤 𝓛.H} {rest : Body} {p : Post 𝓤 𝓛.H} where
  open 𝓛 use {H}

  pub relends : K → (s i j : ℕ) {q q₁ q₂ : Share} {ν : Sym} {τs : Tys} {us : Vals} {b o : ℕ} {τ σ₀ σ₁ : Ty} {d₀ d₁ : ℕ}
      → Relent 𝓛 Γ E s i j q q₁ q₂ ν τs us b o σ₀ σ₁ d₀ d₁
      → T (has_ty (spot_of 𝓤 H E i).0 (vptr b o)) → (let v : Val = vstruct (vcons (vptr b o) (vcons (get_v us 0) vnil)) in T (has_ty (spot_of 𝓤 H E j).0 v) × WT v)
      → Step K 𝓛 (setting 𝓛 (setting 𝓛 Γ E i (vptr b o)) E j (vstruct (vcons (vptr b o) (vcons (get_v us 0) vnil)))) (runs C Λ E rest p)
      Γ (runs C Λ E (seq (assign (place i []) (addr_of (place s (dot 0 ∷ deref τ ∷ [])))) (seq (assign (place j []) (aggregate (copy (place i []) ∷ copy (place s (dot 1 ∷ [])) ∷ []))) rest)) p)
  relends t s i j e wi wj = step (λ k. lets t i (start t s e.0) e.1.0 (wi, tt) $ lets t j (agg t (args2 t (var t i e.1.1.0) (field t s 1 e.1.1.1.0))) e.1.1.1.1 wj $ k)
