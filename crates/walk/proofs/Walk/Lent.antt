-- What a walk has behind a lent struct, and the last value of a slice that it passed on.
--     opened x         a `&mut` is opened: [the struct's cell; what the struct owns; the open borrow; two entries of the ghost name], with the struct's relation
--     closed x h       it is closed at another value h, and is owned at that value
--     counted, plainly     what a number, or a struct of numbers, owns is had for nothing
--     learnt           of a `&mut [T]` that a callee was given: its last list is as long as the list passed. What is left is what `slice_passed_on` has at exit: that the list is the last, and
--                      the borrow
--     learnt_alone     the same where the borrow stands elsewhere
-- Assumes `Logic`.
use mathlib.Core.Path.{◌≡◌, refl}
use mathlib.Core.List.{List, [], ◌∷◌}
use seplogic.Ra.Ura.{Ura}
use base.Fraction.{full_share}
use Prim.Native.Nat.{ℕ}
use mir.Syntax.{Width, erased}
use mir.Val.{Val, vint}
use base.Stored.{Gv}
use base.Fml.{Fml, Lft, Share, feq, fsep, flft, fobs, fauth, fobor}
use types.Logic.{Logic}
use types.Kit.{Item, ‵, Goal, Soaks, Seq, Step, step, ◌$◌, move, drop, fsplit, fsplit3, fjoin, fjoin3, feq_l, feq_i}
use types.SemTy.{Body}
use denote.RattleType.{RattleType}
use denote.Laws.{Is, Typed, shows}
use denote.Memory.{mem, cell_at}
use denote.Plain.{UInt, uint_Makes}
use denote.Ref.{MutBor, MutRef, at_last, mut_vals}
use denote.Steps.{opens, closes, peeks, owned}
use denote.Struct.Declared.{Declared, fields, row}
use denote.Struct.Laws as LL
use denote.Struct.Steps.{spelt}
use denote.Struct.Struct.{Plains}
use Rattle.walk.proofs.Walk.Parameters.{Known}

module _ {M : Type 1} {𝓤 : Ura M} {𝓛 : Logic 𝓤} {K : Type 0} {Γ : List (Item 𝓤)} {G : Goal 𝓤 𝓛.H} {R : RattleType} where
  pub opened : K → Soaks G → (N : Known R) (x : MutBor R.Denot) {κ : Lft} {q : Share} {vs : List Val}
      → (Is R x.now (N.val x.now ∷ []) → Typed R.mir (N.val x.now ∷ [])
      → Seq K 𝓛 (‵ (cell_at full_share R.mir (N.val x.now ∷ []) x.ref_ptr.0 x.ref_ptr.1) ∷ ‵ (R.own_val x.now (N.val x.now ∷ [])) ∷ ‵ (fobor κ q (Body (mem R) x.ref_ptr.0 x.ref_ptr.1 x.ghost_name))
      ∷ ‵ (fobs x.ghost_name (R.coded.code x.now)) ∷ ‵ (fauth x.ghost_name (R.coded.code x.now)) ∷ Γ) G)
      → Seq K 𝓛 (‵ ((MutRef erased κ R).own_val x vs) ∷ ‵ (flft κ q) ∷ Γ) G
  opened t z N x {κ} {q} k =
      fsplit3 t $ drop t $ opens t z R {κ = κ} {q = q} {h = x.now} {γ = x.ghost_name} x.ref_ptr.0 x.ref_ptr.1 (λ vs.
      spelt t R (Is R) (shows 𝓛 R) (λ h. N.val h ∷ []) N.tells full_share x.now vs x.ref_ptr.0 x.ref_ptr.1 $
      move t (1 ∷ []) $ peeks t R (Is R) (shows 𝓛 R) x.now (N.val x.now ∷ []) (λ is. move t (1 ∷ 0 ∷ []) $ k is ((N.lawful 𝓛).typed x.now (N.val x.now ∷ []) is)))

  pub closed : K → Soaks G → (N : Known R) (x : MutBor R.Denot) (h : R.Denot) {κ : Lft} {q : Share} {u v : Gv}
      → Step K 𝓛 (‵ ((MutRef erased κ R).own_val (at_last x h) (mut_vals x)) ∷ ‵ (flft κ q) ∷ Γ) G
      (‵ (cell_at full_share R.mir (N.val h ∷ []) x.ref_ptr.0 x.ref_ptr.1) ∷ ‵ (R.own_val h (N.val h ∷ [])) ∷ ‵ (fobor κ q (Body (mem R) x.ref_ptr.0 x.ref_ptr.1 x.ghost_name))
      ∷ ‵ (fobs x.ghost_name u) ∷ ‵ (fauth x.ghost_name v) ∷ Γ) G
  closed t z N x h {κ} {q} {u} {v} = step (λ s.
      closes t z R {κ = κ} {q = q} {u = u} {v = v} h (N.val h ∷ []) {γ = x.ghost_name} x.ref_ptr.0 x.ref_ptr.1 $ feq_i t (List Val) (mut_vals x) (mut_vals x) refl $ fjoin3 t $ s)

module _ {M : Type 1} {𝓤 : Ura M} {𝓛 : Logic 𝓤} {K : Type 0} {Γ : List (Item 𝓤)} {G : Goal 𝓤 𝓛.H} where
  pub counted : K → (w : Width) (n : ℕ) → Is (UInt w) n (vint w n ∷ []) → Step K 𝓛 (‵ ((UInt w).own_val n (vint w n ∷ [])) ∷ Γ) G Γ G
  counted t w n is = owned t (UInt w) (Is (UInt w)) (uint_Makes 𝓛 w) n (vint w n ∷ []) is

  pub plainly : K → (D : Declared) (L : LL.Laws D) → Plains (fields D) → (x : D.D) → Is (row D) x (LL.vals D L x) → Step K 𝓛 (‵ ((row D).own_val x (LL.vals D L x)) ∷ Γ) G Γ G
  plainly t D L plain x is = owned t (row D) (Is (row D)) (LL.makes D plain 𝓛) x (LL.vals D L x) is

  pub learnt_alone : K → {P : Fml} {X : Type 0} {m n : X} → (m ≡ n → Seq K 𝓛 (‵ P ∷ Γ) G) → Seq K 𝓛 (‵ (fsep P (feq X m n)) ∷ Γ) G
  learnt_alone t k = fsplit t $ move t (1 ∷ []) $ feq_l t k

  pub learnt : K → {P B : Fml} {X : Type 0} {m n : X} → (m ≡ n → Seq K 𝓛 (‵ (fsep P B) ∷ Γ) G) → Seq K 𝓛 (‵ (fsep (fsep P (feq X m n)) B) ∷ Γ) G
  learnt t k = fsplit t $ fsplit t $ move t (1 ∷ []) $ feq_l t (λ e. fjoin t $ k e)
