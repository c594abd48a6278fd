-- The statements of a walk, over the locals as `Walk/Locals.antt` has them. Each takes the locals by their numbers in the MIR, and one `refl` by which antt finds the cells.
--     var k, field k j         the operands `_k` and `_k.j`
--     behind k p, behind-field k p j       the operands `*_k` and `(*_k).j`, where the entry p is the cell behind the reference `_k`
--     lets k           `_k = ..` of a right side.        gets k       `_k = ..` of what a call returned
--     stores k p, stores-field k p j       `*_k = ..` and `(*_k).j = ..`
--     again k          the right side `&*_k`, by which a reference is passed on
--     args1 .. args6   a list of operands
-- Assumes `Logic`.
use mathlib.Core.Path.{◌≡◌, sym, ap, subst}
use mathlib.Core.Option.{Option, some}
use mathlib.Core.List.{List, [], ◌∷◌}
use Prim.Native.Nat.{ℕ, zero, ◌+◌}
use seplogic.Ra.Ura.{Ura}
use base.Fraction.{full_share}
use lib.Dec.{T}
use mir.Syntax.{Sym, Ty, ty_struct, Tys, Body, place, field as dot, deref, Opd as Operand, copy, addr_of, Rv as RValue, assign, seq}
use mir.Raw.{raw as raw_ty}
use mir.Val.{Val, Vals, vptr, vstruct, WT, has_ty}
use mir.Fields.{get_v, set_v}
use base.Fml.{Share, fat, froom}
use prog.Memory.{field_at, field_of}
use prog.Wp.{Env, Calls, Loops, spot_of}
use types.Logic.{Logic}
use types.Kit.{Item, ‵, nth, put, Post, runs, lands, Step}
use types.Run.{look, look_raw, init, store_raw, stop, hop, from, fld, load, addr, and_then, no_more, assigns, land, Opd, Opds, Rv}
use types.Part.{Part, whole, sub, look_in, store_in}
use Rattle.walk.proofs.Walk.Locals.{at}

-- field j of the struct's cell at the entry p
pub within : {M : Type 1} {𝓤 : Ura M} {𝓛 : Logic 𝓤} {K : Type 0} (Γ : List (Item 𝓤)) → K → (p j : ℕ) {q : Share} {ν : Sym} {τs : Tys} {b o : ℕ} {vs : Vals} {τ : Ty} {d : ℕ}
    → nth 𝓛 p Γ ≡ ‵ (fat q (ty_struct ν τs) b o (vstruct vs)) → field_at zero τs j ≡ some (τ, d)
    → Part K 𝓛 (nth 𝓛 p Γ) q τ b (o + d) (get_v vs j) (λ u. ‵ (fat q (ty_struct ν τs) b o (vstruct (set_v vs j u))))
within {𝓤 = 𝓤} {𝓛 = 𝓛} {K = K} Γ t p j {q} {ν} {τs} {b} {o} {vs} {τ} {d} e f =
    subst (λ (i : Item 𝓤). Part K 𝓛 i q τ b (o + d) (get_v vs j) (λ u. ‵ (fat q (ty_struct ν τs) b o (vstruct (set_v vs j u))))) (sym e) (sub t j f (whole t))

module _ {M : Type 1} {𝓤 : Ura M} (𝓛 : Logic 𝓤) (Γ : List (Item 𝓤)) (E : Env 𝓤 𝓛.H) (k : ℕ) where
  open 𝓛 use {H}

  -- the cell of `_k`, with a value in it
  abbrev pub Holds : Share → Val → Type 2
  Holds q v = nth 𝓛 (at 𝓛 Γ k) Γ ≡ ‵ (fat q (spot_of 𝓤 H E k).0 (spot_of 𝓤 H E k).1 zero v)

  -- it is room for a value
  abbrev pub Empty : Type 2
  Empty = nth 𝓛 (at 𝓛 Γ k) Γ ≡ ‵ (froom (spot_of 𝓤 H E k).0 (spot_of 𝓤 H E k).1 zero)

  -- it holds a struct, whose field j is of the type τ at the offset d
  abbrev pub Fields : Share → Sym → Tys → Vals → ℕ → Ty → ℕ → Type 2
  Fields q ν τs vs j τ d =
      ◌≡◌ {A = Item 𝓤 × (Option (Ty × ℕ) × Option (Ty × ℕ))} (nth 𝓛 (at 𝓛 Γ k) Γ, (field_at zero τs j, field_of (spot_of 𝓤 H E k).0 j))
      (‵ (fat q (ty_struct ν τs) (spot_of 𝓤 H E k).1 zero (vstruct vs)), (some (τ, d), some (τ, d)))

  -- it holds a reference to the place of the entry p, a cell whose type and value are τ and v
  abbrev pub Behind : Share → ℕ → ℕ → Share → Ty → Val → ℕ → Type 2
  Behind q b o q' τ v p =
      ◌≡◌ {A = Item 𝓤 × Item 𝓤} (nth 𝓛 (at 𝓛 Γ k) Γ, nth 𝓛 p Γ) (‵ (fat q (spot_of 𝓤 H E k).0 (spot_of 𝓤 H E k).1 zero (vptr b o)), ‵ (fat q' τ b o v))

  -- the same of a struct, whose field j is of the type σ at the offset d
  abbrev pub FieldBehind : Share → ℕ → ℕ → Share → Sym → Tys → Vals → ℕ → ℕ → Ty → Ty → ℕ → Type 2
  FieldBehind q b o q' ν τs vs p j τ σ d =
      ◌≡◌ {A = Item 𝓤 × (Item 𝓤 × (Option (Ty × ℕ) × Option (Ty × ℕ)))} (nth 𝓛 (at 𝓛 Γ k) Γ, (nth 𝓛 p Γ, (field_at zero τs j, field_of τ j)))
      (‵ (fat q (spot_of 𝓤 H E k).0 (spot_of 𝓤 H E k).1 zero (vptr b o)), (‵ (fat q' (ty_struct ν τs) b o (vstruct vs)), (some (σ, d), some (σ, d))))

  -- the context once it is set to v
  abbrev pub setting : Val → List (Item 𝓤)
  setting v = put 𝓛 (at 𝓛 Γ k) (‵ (fat full_share (spot_of 𝓤 H E k).0 (spot_of 𝓤 H E k).1 zero v)) Γ

module _ {M : Type 1} {𝓤 : Ura M} {𝓛 : Logic 𝓤} {K : Type 0} {Γ : List (Item 𝓤)} {E : Env 𝓤 𝓛.H} where
  open 𝓛 use {H}

  -- ---- operands
  pub var : K → (k : ℕ) {q : Share} {v : Val} → Holds 𝓛 Γ E k q v → Opd K 𝓛 Γ E (copy (place k [])) v
  var t k e = load t (from t (stop t)) (look t (at 𝓛 Γ k) e)

  pub field : K → (k j : ℕ) {q : Share} {ν : Sym} {τs : Tys} {vs : Vals} {τ : Ty} {d : ℕ} → Fields 𝓛 Γ E k q ν τs vs j τ d → Opd K 𝓛 Γ E (copy (place k (dot j ∷ []))) (get_v vs j)
  field t k j e = load t (from t (fld t (ap (λ x. x.1.1) e) (stop t))) (look_in t (at 𝓛 Γ k) (within Γ t (at 𝓛 Γ k) j (ap (λ x. x.0) e) (ap (λ x. x.1.0) e)))

  pub behind : K → (k p : ℕ) {q q' : Share} {τ : Ty} {b o : ℕ} {v : Val} → Behind 𝓛 Γ E k q b o q' (raw_ty τ) v p → Opd K 𝓛 Γ E (copy (place k (deref τ ∷ []))) v
  behind t k p e = load t (from t (hop t (look t (at 𝓛 Γ k) (ap (λ x. x.0) e)) (stop t))) (look_raw t p (ap (λ x. x.1) e))

  pub behind-field : K → (k p j : ℕ) {q q' : Share} {ν : Sym} {τs : Tys} {τ σ : Ty} {b o d : ℕ} {vs : Vals} → FieldBehind 𝓛 Γ E k q b o q' ν τs vs p j τ σ d
      → Opd K 𝓛 Γ E (copy (place k (deref τ ∷ dot j ∷ []))) (get_v vs j)
  behind-field t k p j e =
      load t (from t (hop t (look t (at 𝓛 Γ k) (ap (λ x. x.0) e)) (fld t (ap (λ x. x.1.1.1) e) (stop t)))) (look_in t p (within Γ t p j (ap (λ x. x.1.0) e) (ap (λ x. x.1.1.0) e)))

  -- ---- right sides
  pub again : K → (k : ℕ) {q : Share} {τ : Ty} {b o : ℕ} → Holds 𝓛 Γ E k q (vptr b o) → Rv K 𝓛 Γ E (addr_of (place k (deref τ ∷ []))) (vptr b o)
  again t k e = addr t (from t (hop t (look t (at 𝓛 Γ k) e) (stop t)))

  -- ---- lists of operands
  pub args1 : K → {x : Operand} {v : Val} → Opd K 𝓛 Γ E x v → Opds K 𝓛 Γ E (x ∷ []) (v ∷ [])
  args1 t a = and_then t a (no_more t)

  pub args2 : K → {x x₁ : Operand} {v v₁ : Val} → Opd K 𝓛 Γ E x v → Opd K 𝓛 Γ E x₁ v₁ → Opds K 𝓛 Γ E (x ∷ x₁ ∷ []) (v ∷ v₁ ∷ [])
  args2 t a b = and_then t a (args1 t b)

  pub args3 : K → {x x₁ x₂ : Operand} {v v₁ v₂ : Val} → Opd K 𝓛 Γ E x v → Opd K 𝓛 Γ E x₁ v₁ → Opd K 𝓛 Γ E x₂ v₂ → Opds K 𝓛 Γ E (x ∷ x₁ ∷ x₂ ∷ []) (v ∷ v₁ ∷ v₂ ∷ [])
  args3 t a b c = and_then t a (and_then t b (args1 t c))

  pub args6 : K → {x x₁ x₂ x₃ x₄ x₅ : Operand} {v v₁ v₂ v₃ v₄ v₅ : Val} → Opd K 𝓛 Γ E x v → Opd K 𝓛 Γ E x₁ v₁ → Opd K 𝓛 Γ E x₂ v₂ → Opd K 𝓛 Γ E x₃ v₃ → Opd K 𝓛 Γ E x₄ v₄ → Opd K 𝓛 Γ E x₅ v₅
      → Opds K 𝓛 Γ E (x ∷ x₁ ∷ x₂ ∷ x₃ ∷ x₄ ∷ x₅ ∷ []) (v ∷ v₁ ∷ v₂ ∷ v₃ ∷ v₄ ∷ v₅ ∷ [])
  args6 t a b c d e f = and_then t a (and_then t b (and_then t c (args3 t d e f)))

  -- ---- statements
  module _ {C : Calls 𝓤 H} {Λ : Loops 𝓤 H} {rest : Body} {q : Post 𝓤 H} where
    pub lets : K → (k : ℕ) {rv : RValue} {v : Val} → Rv K 𝓛 Γ E rv v → Empty 𝓛 Γ E k → T (has_ty (spot_of 𝓤 H E k).0 v) × WT v
        → Step K 𝓛 (setting 𝓛 Γ E k v) (runs C Λ E rest q) Γ (runs C Λ E (seq (assign (place k []) rv) rest) q)
    lets t k r e wt = assigns t r (from t (stop t)) (init t (at 𝓛 Γ k) e wt)

    pub gets : K → (k : ℕ) {v : Val} → Empty 𝓛 Γ E k → T (has_ty (spot_of 𝓤 H E k).0 v) × WT v → Step K 𝓛 (setting 𝓛 Γ E k v) (runs C Λ E rest q) Γ (lands C Λ E (place k []) v rest q)
    gets t k e wt = land t (from t (stop t)) (init t (at 𝓛 Γ k) e wt)

    pub stores : K → (k p : ℕ) {rv : RValue} {s : Share} {τ : Ty} {b o : ℕ} {v₀ v : Val} → Rv K 𝓛 Γ E rv v → Behind 𝓛 Γ E k s b o full_share (raw_ty τ) v₀ p → T (has_ty τ v) × WT v
        → Step K 𝓛 (put 𝓛 p (‵ (fat full_share (raw_ty τ) b o v)) Γ) (runs C Λ E rest q) Γ (runs C Λ E (seq (assign (place k (deref τ ∷ [])) rv) rest) q)
    stores t k p r e wt = assigns t r (from t (hop t (look t (at 𝓛 Γ k) (ap (λ x. x.0) e)) (stop t))) (store_raw t p (ap (λ x. x.1) e) wt)

    pub stores-field : K → (k p j : ℕ) {rv : RValue} {s : Share} {ν : Sym} {τs : Tys} {τ σ : Ty} {b o d : ℕ} {vs : Vals} {v : Val} → Rv K 𝓛 Γ E rv v
        → FieldBehind 𝓛 Γ E k s b o full_share ν τs vs p j τ σ d → T (has_ty σ v) × WT v
        → Step K 𝓛 (put 𝓛 p (‵ (fat full_share (ty_struct ν τs) b o (vstruct (set_v vs j v)))) Γ) (runs C Λ E rest q) Γ (runs C Λ E (seq (assign (place k (deref τ ∷ dot j ∷ [])) rv) rest) q)
    stores-field t k p j r e wt =
        assigns t r (from t (hop t (look t (at 𝓛 Γ k) (ap (λ x. x.0) e)) (fld t (ap (λ x. x.1.1.1) e) (stop t))))
        (store_in t p (within Γ t p j (ap (λ x. x.1.0) e) (ap (λ x. x.1.1.0) e)) wt)
