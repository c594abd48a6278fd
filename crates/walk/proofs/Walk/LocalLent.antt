-- A local that is lent to a callee, `f(&mut _k)`, for a lifetime that is made for the call, and is had back.
--     over             a parameter by value of which nothing is had at exit
--     address          the right side `&mut _k`
--     lends k          `_k` and what its value owns are lent within a lifetime κ: [the loan's token; κ's token; what the borrow owns; what the lender keeps]. In the place of `_k` stands nothing
--     has_back k       the loan is over: [κ's token; what the last value owns], and `_k` holds the last value
--     has_back_alone   the same without the borrow, which the callee hands back closed
--     field_out        what a field owns, out of what its struct owns
-- `lends` takes κ's token and what the value owns; `has_back` takes the loan's token, κ's, what the callee says of the last value (that it is the last, and the borrow, closed), and what the
-- lender keeps. Assumes `Logic`.
use mathlib.Core.Path.{◌≡◌, sym, subst}
use mathlib.Core.List.{List, [], ◌∷◌}
use Prim.Native.Nat.{ℕ, zero, suc}
use seplogic.Ra.Ura.{Ura}
use base.Fraction.{full_share, left, right}
use mir.Syntax.{Ty, Body as Code, place, addr_of, erased}
use mir.Raw.{raw as raw_ty}
use mir.Val.{Val, vptr, vstruct}
use base.Logic.{SProp, ent, sep, emp, id⊢, via, mono_r, snd∗, emp∗}
use base.Fml.{GName, Lft, Share, Fml, ftrue, fsep, fat, flft, fdead, fres, fbor, flent}
use prog.Wp.{Env, Calls, Loops, spot_of}
use types.Logic.{Logic, sem}
use borrow.Within.Token.{Rest, within_token, within_end}
use types.Kit.{Item, ‵, raw, some, given, later, ◌⊛◌, ⋆, mean, nth, del, put, pull, fill, push, pop, Goal, Post, runs, Seq, Step, step, ◌$◌, ◌∵◌, !, qed, by, move, keep, drop, use1, use2, use3}
use types.Kit.{split, join, pick, learn, fsplit, fjoin, fpick, fpack, frame, await, done}
use types.Run.{Rv, addr, from, stop}
use types.SemTy.{Body}
use types.Tokens.{lft_new}
use denote.RattleType.{RattleType}
use denote.Exit.{yes}
use denote.Laws.{Is, Typed, shows}
use denote.Lend.{lends_ref, ref_back}
use denote.Memory.{mem, raw_all, cell_raw, cell_at, part_of}
use denote.Ref.{MutBor, MutRef}
use denote.Signature.{plain}
use denote.Steps.{peeks}
use denote.Struct.At.{get_at, spelled}
use denote.Struct.Declared.{Declared, shape}
use denote.Struct.Laws.{Lawss}
use denote.Struct.Rest.{all_own, field_own, rest, own_open, own_out}
use denote.Struct.Steps.{spelt}
use denote.Struct.Struct.{Struct}
use denote.Struct.Values.{Values, intos}
use denote.Triple.Walked.{Silent, stay_dropped, Goes-dropped}
use Rattle.walk.proofs.Walk.Locals.{at}
use Rattle.walk.proofs.Walk.Steps.{Holds}
use Rattle.walk.proofs.Walk.Parameters.{Known, Param}

abbrev pub over : {n : ℕ} {R : RattleType} → Known R → ((M : Type 1) (𝓤 : Ura M) (𝓛 : Logic 𝓤) → Silent 𝓛 n (plain (λ _. R)) yes)
    → Param {n = n} (plain (λ _. R)) yes
over {n} {R} N silent = record {
  stay = stay_dropped (plain (λ _. R)) yes;
  goes = λ {M} {𝓤 = 𝓤} 𝓛. Goes-dropped 𝓛 n (plain (λ _. R)) yes (silent M 𝓤 𝓛);
  had = λ κs x w vs. [];
  gives = λ {𝓤 = 𝓤} 𝓛 κs x w vs. id⊢ 𝓤 (sem 𝓛 ftrue);
  type = λ κs. N;
}

-- the borrow of the block l under a name
abbrev pub borrowed : {X : Type 0} → ℕ → GName → X → MutBor X
borrowed l δ h = record { ref_ptr = (l, zero); ghost_name = δ; now = h }

-- what the lender of the block l keeps: what is left of ν's token, which was met with the share q of a longer lifetime's, and that the cell comes back
abbrev kept : {M : Type 1} {𝓤 : Ura M} (𝓛 : Logic 𝓤) (R : RattleType) (l ν : ℕ) → Lft → Share → GName → Item 𝓤
kept 𝓛 R l ν κ q δ = raw (Rest 𝓛 ν q) ⊛ ‵ (flent (ν ∷ κ) (Body (mem R) l zero δ))

-- what the field k of a struct owns, out of what the struct owns
pub field_out : {M : Type 1} {𝓤 : Ura M} (𝓛 : Logic 𝓤) (D : Declared) (L : Lawss D.parts) (k : ℕ) (v : Values D.parts)
    → ent 𝓤 (sem 𝓛 ((Struct (shape D)).own_val (intos D.parts v) (vstruct (spelled D.parts L v) ∷ []))) (sem 𝓛 (field_own D.parts L k (get_at D.parts k v)))
field_out 𝓛 D L k v =
    let u : Val = vstruct (spelled D.parts L v) in
    qed 𝓛 (‵ ((Struct (shape D)).own_val (intos D.parts v) (u ∷ [])) ∷ []) ∵ use1 𝓛 (given (u ∷ [] ≡ u ∷ []) (‵ (all_own D.parts L v))) (own_open 𝓛 D L v u) $ learn ! (λ _.
    use1 𝓛 (‵ (field_own D.parts L k (get_at D.parts k v)) ⊛ ‵ (rest D.parts L k v)) (own_out 𝓛 D.parts L k v) $ split ! $ keep ! (0 ∷ []) $ done !)

-- ---- a cell and what its value owns, as what can be lent, and back
module _ {M : Type 1} {𝓤 : Ura M} (𝓛 : Logic 𝓤) {R : RattleType} (N : Known R) (τ : Ty) (fits : raw_all R.mir ≡ raw_ty τ ∷ []) (h : R.Denot) (l : ℕ) where
  abbrev v : Val
  v = N.val h

  abbrev cell : Fml
  cell = fat full_share τ l zero v

  abbrev owned : Fml
  owned = R.own_val h (v ∷ [])

  lies_in : ent 𝓤 (sep 𝓤 (sem 𝓛 cell) (sem 𝓛 owned)) (sem 𝓛 ((mem R).own_at h l zero))
  unfolding part_of
  lies_in =
      qed 𝓛 (‵ cell ∷ ‵ owned ∷ []) ∵ use1 𝓛 (‵ (cell_at full_share R.mir (v ∷ []) l zero))
      (subst (λ (ρs : List Ty). ent 𝓤 (sem 𝓛 cell) (sem 𝓛 (cell_raw full_share ρs (v ∷ []) l zero))) (sym fits) (𝓛.laws.at_raw full_share τ l zero v)) $
      fjoin ! $ fpack ! (List Val) (λ us. fsep (cell_at full_share R.mir us l zero) (R.own_val h us)) (v ∷ []) $ done !

  lies_out : ent 𝓤 (sem 𝓛 ((mem R).own_at h l zero)) (sep 𝓤 (sem 𝓛 cell) (sem 𝓛 owned))
  unfolding part_of
  lies_out =
      qed 𝓛 (‵ ((mem R).own_at h l zero) ∷ []) ∵ fpick ! (λ vs. fsplit ! $
      spelt ! R (Is R) (shows 𝓛 R) (λ x. N.val x ∷ []) N.tells full_share h vs l zero $ use1 𝓛 (‵ cell)
      (subst (λ (ρs : List Ty). ent 𝓤 (sem 𝓛 (cell_raw full_share ρs (v ∷ []) l zero)) (sem 𝓛 cell)) (sym fits) (𝓛.laws.raw_at full_share τ l zero v)) $ frame ! $ done !)

module _ {M : Type 1} {𝓤 : Ura M} {𝓛 : Logic 𝓤} {K : Type 0} {Γ : List (Item 𝓤)} where
  open 𝓛 use {H}

  -- the entry n is taken out, and nothing stands in its place; and an entry is put there
  takes : K → (n : ℕ) {i : Item 𝓤} {G : Goal 𝓤 H} → nth 𝓛 n Γ ≡ i → Step K 𝓛 (i ∷ put 𝓛 n (‵ ftrue) Γ) G Γ G
  takes t n {i} e =
      let P : SProp 𝓤 = ⋆ 𝓛 (del 𝓛 n Γ) in
      step (λ s. by t (via 𝓤 (sep 𝓤 (mean 𝓛 i) P) (subst (λ (j : Item 𝓤). ent 𝓤 (⋆ 𝓛 Γ) (sep 𝓤 (mean 𝓛 j) P)) e (pull 𝓛 n Γ))
      (via 𝓤 (sep 𝓤 (mean 𝓛 i) (⋆ 𝓛 (put 𝓛 n (‵ ftrue) Γ))) (mono_r 𝓤 (mean 𝓛 i) (via 𝓤 (sep 𝓤 (emp 𝓤) P) (emp∗ 𝓤 P) (fill 𝓛 n (‵ ftrue) Γ)))
      (via 𝓤 (⋆ 𝓛 (i ∷ put 𝓛 n (‵ ftrue) Γ)) (push 𝓛 i (put 𝓛 n (‵ ftrue) Γ)) s.prf))))

  puts : K → (n : ℕ) {i : Item 𝓤} {G : Goal 𝓤 H} → Step K 𝓛 (put 𝓛 n i Γ) G (i ∷ Γ) G
  puts t n {i} =
      let P : SProp 𝓤 = ⋆ 𝓛 (del 𝓛 n Γ) in
      step (λ s. by t (via 𝓤 (sep 𝓤 (mean 𝓛 i) (⋆ 𝓛 Γ)) (pop 𝓛 i Γ)
      (via 𝓤 (sep 𝓤 (mean 𝓛 i) P) (mono_r 𝓤 (mean 𝓛 i) (via 𝓤 (sep 𝓤 (mean 𝓛 (nth 𝓛 n Γ)) P) (pull 𝓛 n Γ) (snd∗ 𝓤 (mean 𝓛 (nth 𝓛 n Γ)) P)))
      (via 𝓤 (⋆ 𝓛 (put 𝓛 n i Γ)) (fill 𝓛 n i Γ) s.prf))))

  pub address : K → {k : ℕ} {E : Env 𝓤 H} → Rv K 𝓛 Γ E (addr_of (place k [])) (vptr (spot_of 𝓤 H E k).1 zero)
  address t = addr t (from t (stop t))

module _ {M : Type 1} {𝓤 : Ura M} {𝓛 : Logic 𝓤} {K : Type 0} {Γ : List (Item 𝓤)} {E : Env 𝓤 𝓛.H} {C : Calls 𝓤 𝓛.H} {Λ : Loops 𝓤 𝓛.H} {rest : Code} {p : Post 𝓤 𝓛.H}
    {R : RattleType} where
  open 𝓛 use {H}

  pub lends : K → (k : ℕ) (N : Known R) (h : R.Denot) {κ : Lft} {q : Share} → raw_all R.mir ≡ raw_ty (spot_of 𝓤 H E k).0 ∷ [] → Holds 𝓛 Γ E k full_share (N.val h)
      → (let l : ℕ = (spot_of 𝓤 H E k).1 in (ν : ℕ) (δ : GName)
      → Seq K 𝓛 (‵ (flft (ν ∷ κ) (left q)) ∷ ‵ (flft κ (right q)) ∷ ‵ ((MutRef erased (ν ∷ κ) R).own_val (borrowed l δ h) (vptr l zero ∷ [])) ∷ kept 𝓛 R l ν κ (left q) δ
      ∷ put 𝓛 (at 𝓛 Γ k) (‵ ftrue) Γ) (runs C Λ E rest p))
      → Seq K 𝓛 (‵ (flft κ q) ∷ ‵ (R.own_val h (N.val h ∷ [])) ∷ Γ) (runs C Λ E rest p)
  lends t k N h {κ} {q} fits e go =
      let l : ℕ = (spot_of 𝓤 H E k).1 in
      let q₀ : Share = left q in
      takes t (suc (suc (at 𝓛 Γ k))) e $
      move t (0 ∷ 2 ∷ []) $ use2 𝓛 (‵ ((mem R).own_at h l zero)) (lies_in 𝓛 N (spot_of 𝓤 H E k).0 fits h l) $
      -- [what is to be lent; κ's token; ..]
      move t (1 ∷ []) $ use1 𝓛 (‵ (flft κ q₀) ⊛ ‵ (flft κ (right q))) (𝓛.lfts.lft_split κ q) $ split t $
      lft_new t tt (λ ν. move t (0 ∷ 1 ∷ []) $ use2 𝓛 (‵ (flft (ν ∷ κ) q₀) ⊛ raw (Rest 𝓛 ν q₀)) (within_token 𝓛 ν κ q₀) $ split t $
      -- [the loan's token; what is left of ν's; κ's token; what is to be lent; ..]
      move t (3 ∷ []) $ use1 𝓛 (later (some (λ (δ : GName). ‵ ((MutRef erased (ν ∷ κ) R).own_val (borrowed l δ h) (vptr l zero ∷ [])) ⊛ ‵ (flent (ν ∷ κ) (Body (mem R) l zero δ)))))
      (lends_ref 𝓛 R erased (ν ∷ κ) h l zero) $ await t tt $ pick t (λ δ. split t $
      move t (3 ∷ 1 ∷ []) $ join t $ move t (2 ∷ 3 ∷ 1 ∷ 0 ∷ []) $ go ν δ))

  pub has_back_alone : K → (k : ℕ) (N : Known R) (h : R.Denot) (q : Share) {ν : ℕ} {κ : Lft} {δ : GName} → raw_all R.mir ≡ raw_ty (spot_of 𝓤 H E k).0 ∷ []
      → (Is R h (N.val h ∷ []) → Typed R.mir (N.val h ∷ [])
      → Seq K 𝓛 (‵ (flft κ q) ∷ ‵ (R.own_val h (N.val h ∷ [])) ∷ put 𝓛 (at 𝓛 Γ k) (‵ (fat full_share (spot_of 𝓤 H E k).0 (spot_of 𝓤 H E k).1 zero (N.val h))) Γ) (runs C Λ E rest p))
      → Seq K 𝓛 (‵ (flft (ν ∷ κ) (left q)) ∷ ‵ (flft κ (right q)) ∷ ‵ (fres δ (R.coded.code h)) ∷ kept 𝓛 R (spot_of 𝓤 H E k).1 ν κ (left q) δ ∷ Γ)
      (runs C Λ E rest p)
  has_back_alone t k N h q {ν} {κ} {δ} fits go =
      let l : ℕ = (spot_of 𝓤 H E k).1 in
      let q₀ : Share = left q in
      let c : Fml = fat full_share (spot_of 𝓤 H E k).0 l zero (N.val h) in
      move t (3 ∷ []) $ split t $ move t (2 ∷ 0 ∷ []) $ use2 𝓛 (later (‵ (fdead (ν ∷ κ)) ⊛ ‵ (flft κ q₀))) (within_end 𝓛 ν κ q₀) $ await t tt $ split t $
      -- [the loan is over; a half of κ's token; the lender's part; the other half; the last value; ..]
      move t (0 ∷ 2 ∷ 4 ∷ []) $ use3 𝓛 (later (‵ ((mem R).own_at h l zero))) (ref_back 𝓛 R (ν ∷ κ) δ h l zero) $ await t tt $
      use1 𝓛 (‵ c ⊛ ‵ (R.own_val h (N.val h ∷ []))) (lies_out 𝓛 N (spot_of 𝓤 H E k).0 fits h l) $ split t $
      move t (2 ∷ 3 ∷ []) $ use2 𝓛 (‵ (flft κ q)) (𝓛.lfts.lft_join κ q) $
      move t (2 ∷ []) $ peeks t R (Is R) (shows 𝓛 R) h (N.val h ∷ []) (λ is.
      move t (2 ∷ 1 ∷ 0 ∷ []) $ puts t (suc (suc (at 𝓛 Γ k))) $ go is ((N.lawful 𝓛).typed h (N.val h ∷ []) is))

  -- with what the callee says of the last value: that it is the last, and the borrow, closed
  pub has_back : K → (k : ℕ) (N : Known R) (h : R.Denot) (q : Share) {ν : ℕ} {κ : Lft} {δ : GName} → raw_all R.mir ≡ raw_ty (spot_of 𝓤 H E k).0 ∷ []
      → (Is R h (N.val h ∷ []) → Typed R.mir (N.val h ∷ [])
      → Seq K 𝓛 (‵ (flft κ q) ∷ ‵ (R.own_val h (N.val h ∷ [])) ∷ put 𝓛 (at 𝓛 Γ k) (‵ (fat full_share (spot_of 𝓤 H E k).0 (spot_of 𝓤 H E k).1 zero (N.val h))) Γ) (runs C Λ E rest p))
      → Seq K 𝓛 (‵ (flft (ν ∷ κ) (left q)) ∷ ‵ (flft κ (right q))
      ∷ ‵ (fsep (fres δ (R.coded.code h)) (fbor (ν ∷ κ) (Body (mem R) (spot_of 𝓤 H E k).1 zero δ))) ∷ kept 𝓛 R (spot_of 𝓤 H E k).1 ν κ (left q) δ ∷ Γ)
      (runs C Λ E rest p)
  has_back t k N h q fits go = move t (2 ∷ []) $ fsplit t $ move t (1 ∷ []) $ drop t $ move t (1 ∷ 2 ∷ 0 ∷ []) $ has_back_alone t k N h q fits go
