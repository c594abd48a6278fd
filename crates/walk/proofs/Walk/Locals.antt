-- A function's locals in a walk of its MIR. They are the last entries of the context, the result `_0` last of all, so that `_k` is found from the end whatever stands in front.
--     deaths E, cells E ws     the entries: first that each local may be freed, then what each holds (nothing, or a value)
--     begins           into a function: its locals are allocated and its arguments are stored
--     leaves           out of it: what `_0` holds is returned, and the locals are freed. What stood in front of them is left
-- Assumes `Logic`.
use mathlib.Core.Path.{◌≡◌, subst}
use mathlib.Core.Option.{Option, none, some}
use mathlib.Core.List.{List, [], ◌∷◌, ◌++◌, map}
use Prim.Native.Nat.{ℕ, zero, suc, ◌-◌}
use seplogic.Ra.Ura.{Ura}
use base.Fraction.{full_share}
use lib.Dec.{T}
use lib.ListN.{length, take}
use mir.Syntax.{Ty, Local, Fn, return}
use mir.Val.{Val, WT, has_ty}
use base.Logic.{SProp, ent, sep, wand, emp, id⊢, via, comm∗, assoc∗, mono_l, mono_r, fst∗, emp∗, wand_i, all_i, guard_i}
use base.Fml.{Fml, ftrue, ffalse, feq, flt, fsep, fand, for, fwand, fex, fall, fupd, fat, froom, fdies, flft}
use base.Fml.{fdead, fobs, fauth, fres, fown, fbor, fobor, flent, fshr_bor, finv, fnamed, ftok, fkid, fme, fsent, fhide, fleft}
use prog.Wp.{Env, Calls, Loops, WpFn, Wp, at_return, ty_of, alloc, params, pass, release, spot_of}
use types.Logic.{Logic, sem}
use types.Kit.{Item, ‵, raw, ◌⊛◌, some as some', given, later, ⋆, nth, push, pop, ++⊢, ⊢++, prop, runs, at_ret, Seq, Step, step, ◌$◌, ◌∵◌, !, qed, move, drop, split, join, done}
use types.Run.{look, returns, enter}

-- where the locals lie
abbrev pub Blocks : List Local → Type 0
Blocks [] = Unit {0}
Blocks (l ∷ ls) = ℕ × Blocks ls

abbrev first : List (Option Val) → Option Val
first [] = none
first (w ∷ ws) = w

abbrev others : List (Option Val) → List (Option Val)
others [] = []
others (w ∷ ws) = ws

abbrev pub stored : List Val → List (Option Val)
stored vs = map some vs

module _ {M : Type 1} {𝓤 : Ura M} (𝓛 : Logic 𝓤) where
  open 𝓛 use {H}

  -- the arguments are of the types of the locals after the result
  abbrev Fits : List Local → List Val → Type 0
  Fits ls [] = Unit {0}
  Fits [] (v ∷ vs) = ⊥
  Fits (l ∷ ls) (v ∷ vs) = (T (has_ty (ty_of 𝓤 H l) v) × WT v) × Fits ls vs

  abbrev pub Arguments : List Local → List Val → Type 0
  Arguments [] vs = ⊥
  Arguments (l ∷ ls) vs = Fits ls vs

  abbrev pub env_of : (ls : List Local) → Blocks ls → Env 𝓤 H
  env_of [] bs = []
  env_of (l ∷ ls) bs = (ty_of 𝓤 H l, bs.0) ∷ env_of ls bs.1

  abbrev pub deaths : Env 𝓤 H → Fml
  deaths [] = ftrue
  deaths (e ∷ E) = fsep (fdies e.0 e.1) (deaths E)

  abbrev cell : Ty × ℕ → Option Val → Fml
  cell e none = froom e.0 e.1 zero
  cell e (some v) = fat full_share e.0 e.1 zero v

  abbrev cells_on : Env 𝓤 H → List (Option Val) → List (Item 𝓤) → List (Item 𝓤)
  cells_on [] ws Γ = Γ
  cells_on (e ∷ E) ws Γ = cells_on E (others ws) (‵ (cell e (first ws)) ∷ Γ)

  abbrev pub cells : Env 𝓤 H → List (Option Val) → List (Item 𝓤)
  cells E ws = cells_on E ws []

  -- the place of `_k` in the context
  abbrev pub at : List (Item 𝓤) → ℕ → ℕ
  at Γ k = length Γ - suc k

  -- what a cell holds
  abbrev holds : Fml → Option Val
  holds ftrue = none
  holds ffalse = none
  holds (feq X x y) = none
  holds (flt m n) = none
  holds (fsep P Q) = none
  holds (fand P Q) = none
  holds (for P Q) = none
  holds (fwand P Q) = none
  holds (fex X F) = none
  holds (fall X F) = none
  holds (fupd P) = none
  holds (fhide P) = none
  holds (fat q τ b o v) = some v
  holds (froom τ b o) = none
  holds (fleft q τ τs b o) = none
  holds (fdies τ b) = none
  holds (flft κ q) = none
  holds (fdead κ) = none
  holds (fobs γ v) = none
  holds (fauth γ v) = none
  holds (fres γ v) = none
  holds (fown R γ a) = none
  holds (fbor κ P) = none
  holds (fobor κ q P) = none
  holds (flent κ P) = none
  holds (fshr_bor κ F) = none
  holds (finv P) = none
  holds (fnamed n P) = none
  holds (ftok E) = none
  holds (fkid h a) = none
  holds (fme h) = none
  holds (fsent E) = none

  abbrev held_by : Item 𝓤 → Option Val
  held_by (‵ F) = holds F
  held_by (raw P) = none
  held_by (i ⊛ j) = none
  held_by (some' F) = none
  held_by (given φ i) = none
  held_by (later i) = none

  -- what the locals from `_k` on hold
  abbrev pub contents : List (Item 𝓤) → Env 𝓤 H → ℕ → List (Option Val)
  contents Γ [] k = []
  contents Γ (e ∷ E) k = held_by (nth 𝓛 (at Γ k) Γ) ∷ contents Γ E (suc k)

  -- what stands in front of the locals
  abbrev pub before : List (Item 𝓤) → Env 𝓤 H → List (Item 𝓤)
  before Γ E = take (length Γ - suc (length E)) Γ

  -- P, and the locals with what they hold
  abbrev held : Env 𝓤 H → List (Option Val) → SProp 𝓤 → SProp 𝓤
  held [] ws P = P
  held (e ∷ E) ws P = sep 𝓤 (sep 𝓤 (sem 𝓛 (cell e (first ws))) (H.dies e.0 e.1)) (held E (others ws) P)

  swap : (P Q R : SProp 𝓤) → ent 𝓤 (sep 𝓤 P (sep 𝓤 Q R)) (sep 𝓤 Q (sep 𝓤 P R))
  swap P Q R = qed 𝓛 (raw P ∷ raw Q ∷ raw R ∷ []) ∵ move ! (1 ∷ []) $ done !

  held_mono : (E : Env 𝓤 H) (ws : List (Option Val)) {P Q : SProp 𝓤} → ent 𝓤 P Q → ent 𝓤 (held E ws P) (held E ws Q)
  held_mono [] ws h = h
  held_mono (e ∷ E) ws h = mono_r 𝓤 (sep 𝓤 (sem 𝓛 (cell e (first ws))) (H.dies e.0 e.1)) (held_mono E (others ws) h)

  held_out : (E : Env 𝓤 H) (ws : List (Option Val)) (R P : SProp 𝓤) → ent 𝓤 (held E ws (sep 𝓤 R P)) (sep 𝓤 R (held E ws P))
  held_out [] ws R P = id⊢ 𝓤 (sep 𝓤 R P)
  held_out (e ∷ E) ws R P =
      let c : SProp 𝓤 = sep 𝓤 (sem 𝓛 (cell e (first ws))) (H.dies e.0 e.1) in
      via 𝓤 (sep 𝓤 c (sep 𝓤 R (held E (others ws) P))) (mono_r 𝓤 c (held_out E (others ws) R P)) (swap c R (held E (others ws) P))

  held_in : (E : Env 𝓤 H) (ws : List (Option Val)) (R P : SProp 𝓤) → ent 𝓤 (sep 𝓤 R (held E ws P)) (held E ws (sep 𝓤 R P))
  held_in [] ws R P = id⊢ 𝓤 (sep 𝓤 R P)
  held_in (e ∷ E) ws R P =
      let c : SProp 𝓤 = sep 𝓤 (sem 𝓛 (cell e (first ws))) (H.dies e.0 e.1) in
      via 𝓤 (sep 𝓤 c (sep 𝓤 R (held E (others ws) P))) (swap R c (held E (others ws) P)) (mono_r 𝓤 c (held_in E (others ws) R P))

  -- the locals as entries, and back
  to_cells : (E : Env 𝓤 H) (ws : List (Option Val)) (Γ : List (Item 𝓤)) → ent 𝓤 (held E ws (⋆ 𝓛 Γ)) (sep 𝓤 (sem 𝓛 (deaths E)) (⋆ 𝓛 (cells_on E ws Γ)))
  to_cells [] ws Γ = emp∗ 𝓤 (⋆ 𝓛 Γ)
  to_cells (e ∷ E) ws Γ =
      let c : SProp 𝓤 = sem 𝓛 (cell e (first ws)) in
      let d : SProp 𝓤 = H.dies e.0 e.1 in
      let P : SProp 𝓤 = ⋆ 𝓛 Γ in
      let Γ' : List (Item 𝓤) = ‵ (cell e (first ws)) ∷ Γ in
      via 𝓤 (sep 𝓤 d (sep 𝓤 c (held E (others ws) P)))
      (qed 𝓛 ((raw c ⊛ raw d) ∷ raw (held E (others ws) P) ∷ []) ∵ split ! $ move ! (1 ∷ []) $ done !)
      (via 𝓤 (sep 𝓤 d (held E (others ws) (⋆ 𝓛 Γ')))
      (mono_r 𝓤 d (via 𝓤 (held E (others ws) (sep 𝓤 c P)) (held_in E (others ws) c P) (held_mono E (others ws) (push 𝓛 (‵ (cell e (first ws))) Γ))))
      (via 𝓤 (sep 𝓤 d (sep 𝓤 (sem 𝓛 (deaths E)) (⋆ 𝓛 (cells_on E (others ws) Γ')))) (mono_r 𝓤 d (to_cells E (others ws) Γ'))
      (qed 𝓛 (raw d ∷ raw (sem 𝓛 (deaths E)) ∷ raw (⋆ 𝓛 (cells_on E (others ws) Γ')) ∷ []) ∵ join ! $ done !)))

  from_cells : (E : Env 𝓤 H) (ws : List (Option Val)) (Γ : List (Item 𝓤)) → ent 𝓤 (sep 𝓤 (sem 𝓛 (deaths E)) (⋆ 𝓛 (cells_on E ws Γ))) (held E ws (⋆ 𝓛 Γ))
  from_cells [] ws Γ = qed 𝓛 (raw (emp 𝓤) ∷ raw (⋆ 𝓛 Γ) ∷ []) ∵ drop ! $ done !
  from_cells (e ∷ E) ws Γ =
      let c : SProp 𝓤 = sem 𝓛 (cell e (first ws)) in
      let d : SProp 𝓤 = H.dies e.0 e.1 in
      let P : SProp 𝓤 = ⋆ 𝓛 Γ in
      let Γ' : List (Item 𝓤) = ‵ (cell e (first ws)) ∷ Γ in
      via 𝓤 (sep 𝓤 d (sep 𝓤 (sem 𝓛 (deaths E)) (⋆ 𝓛 (cells_on E (others ws) Γ')))) (assoc∗ 𝓤 d (sem 𝓛 (deaths E)) (⋆ 𝓛 (cells_on E (others ws) Γ')))
      (via 𝓤 (sep 𝓤 d (held E (others ws) (⋆ 𝓛 Γ'))) (mono_r 𝓤 d (from_cells E (others ws) Γ'))
      (via 𝓤 (sep 𝓤 d (sep 𝓤 c (held E (others ws) P)))
      (mono_r 𝓤 d (via 𝓤 (held E (others ws) (sep 𝓤 c P)) (held_mono E (others ws) (pop 𝓛 (‵ (cell e (first ws))) Γ)) (held_out E (others ws) c P)))
      (qed 𝓛 (raw d ∷ raw c ∷ raw (held E (others ws) P) ∷ []) ∵ move ! (1 ∷ 0 ∷ []) $ join ! $ done !)))

  room : (e : Ty × ℕ) (w : Option Val) → ent 𝓤 (sem 𝓛 (cell e w)) (H.room e.0 e.1 zero)
  room e none = id⊢ 𝓤 (H.room e.0 e.1 zero)
  room e (some v) = 𝓛.laws.at_room e.0 e.1 zero v

  freed : (E : Env 𝓤 H) (ws : List (Option Val)) (P : SProp 𝓤) → ent 𝓤 (held E ws P) (release 𝓤 H E P)
  freed [] ws P = id⊢ 𝓤 P
  freed (e ∷ E) ws P =
      let d : SProp 𝓤 = H.dies e.0 e.1 in
      via 𝓤 (sep 𝓤 (sep 𝓤 (H.room e.0 e.1 zero) d) (held E (others ws) P)) (mono_l 𝓤 (held E (others ws) P) (mono_l 𝓤 d (room e (first ws))))
      (mono_r 𝓤 (sep 𝓤 (H.room e.0 e.1 zero) d) (freed E (others ws) P))

  allocated : (ls : List Local) (K : Env 𝓤 H → SProp 𝓤) (P : SProp 𝓤) → ((bs : Blocks ls) → ent 𝓤 (held (env_of ls bs) [] P) (K (env_of ls bs))) → ent 𝓤 P (alloc 𝓤 H ls K)
  allocated [] K P h = h tt
  allocated (l ∷ ls) K P h =
      all_i 𝓤 (λ (b : ℕ). wand 𝓤 (rd b) (alloc 𝓤 H ls (λ E. K ((ty_of 𝓤 H l, b) ∷ E)))) (λ b.
      wand_i 𝓤 P (rd b) (alloc 𝓤 H ls (λ E. K ((ty_of 𝓤 H l, b) ∷ E)))
      (via 𝓤 (sep 𝓤 (rd b) P) (comm∗ 𝓤 P (rd b))
      (allocated ls (λ E. K ((ty_of 𝓤 H l, b) ∷ E)) (sep 𝓤 (rd b) P)
      (λ bs. via 𝓤 (sep 𝓤 (rd b) (held (env_of ls bs) [] P)) (held_out (env_of ls bs) [] (rd b) P) (h (b, bs))))))
    where
      rd : ℕ → SProp 𝓤
      rd b = sep 𝓤 (H.room (ty_of 𝓤 H l) b zero) (H.dies (ty_of 𝓤 H l) b)

  passed : (ls : List Local) (vs : List Val) → Fits ls vs → (bs : Blocks ls) (P K : SProp 𝓤) → ent 𝓤 (held (env_of ls bs) (stored vs) P) K
      → ent 𝓤 (held (env_of ls bs) [] P) (pass 𝓤 H (env_of ls bs) vs K)
  passed ls [] fits bs P K h = h
  passed [] (v ∷ vs) fits bs P K h = absurd fits
  passed (l ∷ ls) (v ∷ vs) fits bs P K h =
      let τ : Ty = ty_of 𝓤 H l in
      let b : ℕ = bs.0 in
      let E : Env 𝓤 H = env_of ls bs.1 in
      let r : SProp 𝓤 = H.room τ b zero in
      let d : SProp 𝓤 = H.dies τ b in
      let c : SProp 𝓤 = H.at full_share τ b zero v in
      let K' : SProp 𝓤 = pass 𝓤 H E vs K in
      via 𝓤 (sep 𝓤 r (wand 𝓤 c K'))
      (via 𝓤 (sep 𝓤 r (sep 𝓤 d (held E [] P))) (assoc∗ 𝓤 r d (held E [] P))
      (mono_r 𝓤 r (wand_i 𝓤 (sep 𝓤 d (held E [] P)) c K'
      (via 𝓤 (sep 𝓤 (sep 𝓤 c d) (held E [] P))
      (qed 𝓛 ((raw d ⊛ raw (held E [] P)) ∷ raw c ∷ []) ∵ split ! $ move ! (2 ∷ 0 ∷ []) $ join ! $ done !)
      (via 𝓤 (held E [] (sep 𝓤 (sep 𝓤 c d) P)) (held_in E [] (sep 𝓤 c d) P)
      (passed ls vs fits.1 bs.1 (sep 𝓤 (sep 𝓤 c d) P) K (via 𝓤 (sep 𝓤 (sep 𝓤 c d) (held E (stored vs) P)) (held_out E (stored vs) (sep 𝓤 c d) P) h)))))))
      (guard_i 𝓤 (T (has_ty τ v) × WT v) (sep 𝓤 r (wand 𝓤 c K')) fits.0)

  begun : (ls : List Local) (vs : List Val) → Arguments ls vs → (K : Env 𝓤 H → SProp 𝓤) (P : SProp 𝓤) → ((bs : Blocks ls) → ent 𝓤 (held (env_of ls bs) (none ∷ stored vs) P) (K (env_of ls bs)))
      → ent 𝓤 P (alloc 𝓤 H ls (λ E. params 𝓤 H E vs (K E)))
  begun [] vs fits K P h = absurd fits
  begun (l ∷ ls) vs fits K P h = allocated (l ∷ ls) (λ E. params 𝓤 H E vs (K E)) P (λ bs.
      let E : Env 𝓤 H = env_of ls bs.1 in
      let rd : SProp 𝓤 = sep 𝓤 (H.room (ty_of 𝓤 H l) bs.0 zero) (H.dies (ty_of 𝓤 H l) bs.0) in
      via 𝓤 (held E [] (sep 𝓤 rd P)) (held_in E [] rd P)
      (passed ls vs fits bs.1 (sep 𝓤 rd P) (K ((ty_of 𝓤 H l, bs.0) ∷ E)) (via 𝓤 (sep 𝓤 rd (held E (stored vs) P)) (held_out E (stored vs) rd P) (h bs))))

  beside : (E : Env 𝓤 H) (ws : List (Option Val)) (Γ : List (Item 𝓤)) → ent 𝓤 (held E ws (⋆ 𝓛 Γ)) (⋆ 𝓛 (Γ ++ (‵ (deaths E) ∷ cells E ws)))
  beside E ws Γ =
      let P : SProp 𝓤 = ⋆ 𝓛 Γ in
      via 𝓤 (held E ws (sep 𝓤 P (emp 𝓤))) (held_mono E ws (via 𝓤 (sep 𝓤 (emp 𝓤) P) (emp∗ 𝓤 P) (comm∗ 𝓤 (emp 𝓤) P)))
      (via 𝓤 (sep 𝓤 P (held E ws (emp 𝓤))) (held_out E ws P (emp 𝓤))
      (via 𝓤 (sep 𝓤 P (⋆ 𝓛 (‵ (deaths E) ∷ cells E ws)))
      (mono_r 𝓤 P (via 𝓤 (sep 𝓤 (sem 𝓛 (deaths E)) (⋆ 𝓛 (cells E ws))) (to_cells E ws []) (push 𝓛 (‵ (deaths E)) (cells E ws))))
      (++⊢ 𝓛 Γ (‵ (deaths E) ∷ cells E ws))))

  released : (E : Env 𝓤 H) (ws : List (Option Val)) (Γ : List (Item 𝓤)) (P : SProp 𝓤) → ent 𝓤 (⋆ 𝓛 Γ) P → ent 𝓤 (⋆ 𝓛 (Γ ++ (‵ (deaths E) ∷ cells E ws))) (release 𝓤 H E P)
  released E ws Γ P h =
      via 𝓤 (sep 𝓤 (⋆ 𝓛 Γ) (⋆ 𝓛 (‵ (deaths E) ∷ cells E ws))) (⊢++ 𝓛 Γ (‵ (deaths E) ∷ cells E ws))
      (via 𝓤 (sep 𝓤 P (held E ws (emp 𝓤)))
      (via 𝓤 (sep 𝓤 P (⋆ 𝓛 (‵ (deaths E) ∷ cells E ws))) (mono_l 𝓤 (⋆ 𝓛 (‵ (deaths E) ∷ cells E ws)) h)
      (mono_r 𝓤 P (via 𝓤 (sep 𝓤 (sem 𝓛 (deaths E)) (⋆ 𝓛 (cells E ws))) (pop 𝓛 (‵ (deaths E)) (cells E ws)) (from_cells E ws []))))
      (via 𝓤 (held E ws (sep 𝓤 P (emp 𝓤))) (held_in E ws P (emp 𝓤))
      (via 𝓤 (held E ws P) (held_mono E ws (fst∗ 𝓤 P (emp 𝓤))) (freed E ws P))))

module _ {M : Type 1} {𝓤 : Ura M} {𝓛 : Logic 𝓤} {K : Type 0} {Γ : List (Item 𝓤)} where
  open 𝓛 use {H}

  pub begins : K → (C : Calls 𝓤 H) (Λ : Loops 𝓤 H) (f : Fn) (vs : List Val) (Kf : Val → SProp 𝓤) → Arguments 𝓛 f.locals vs
      → ((bs : Blocks f.locals) → Seq K 𝓛 (Γ ++ (‵ (deaths 𝓛 (env_of 𝓛 f.locals bs)) ∷ cells 𝓛 (env_of 𝓛 f.locals bs) (none ∷ stored vs)))
      (runs C Λ (env_of 𝓛 f.locals bs) f.body (at_ret (env_of 𝓛 f.locals bs) Kf)))
      → Seq K 𝓛 Γ (prop (WpFn 𝓤 H C Λ f vs Kf))
  begins t C Λ f vs Kf fits k = enter t C Λ f vs Kf $ record {
    prf = begun 𝓛 f.locals vs fits (λ E. Wp 𝓤 H C Λ E f.body (at_return 𝓤 H E Kf)) (⋆ 𝓛 Γ) (λ bs.
        let E : Env 𝓤 H = env_of 𝓛 f.locals bs in
        via 𝓤 (⋆ 𝓛 (Γ ++ (‵ (deaths 𝓛 E) ∷ cells 𝓛 E (none ∷ stored vs)))) (beside 𝓛 E (none ∷ stored vs) Γ) (k bs).prf);
  }

  pub leaves : K → {C : Calls 𝓤 H} {Λ : Loops 𝓤 H} {E : Env 𝓤 H} {Kf : Val → SProp 𝓤} {r : Val}
      → before 𝓛 Γ E ++ (‵ (deaths 𝓛 E) ∷ cells 𝓛 E (contents 𝓛 Γ E 0)) ≡ Γ
      → nth 𝓛 (at 𝓛 Γ 0) Γ ≡ ‵ (fat full_share (spot_of 𝓤 H E 0).0 (spot_of 𝓤 H E 0).1 zero r)
      → Step K 𝓛 (before 𝓛 Γ E) (prop (Kf r)) Γ (runs C Λ E return (at_ret E Kf))
  leaves t {C} {Λ} {E} {Kf} {r} e e₀ = step (λ s. returns t (look t (at 𝓛 Γ 0) e₀) $ record {
    prf = subst (λ (Δ : List (Item 𝓤)). ent 𝓤 (⋆ 𝓛 Δ) (release 𝓤 H E (Kf r))) e (released 𝓛 E (contents 𝓛 Γ E 0) (before 𝓛 Γ E) (Kf r) s.prf);
  })
