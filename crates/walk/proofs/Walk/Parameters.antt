-- What a walk knows of the types that a signature names.
--     Known R          a type with one machine value: what it is, that what is owned tells it, and that it is of the MIR type
--         struct, number, truth, reference, slice-lent, slice_read     the types that a walk meets
--     Param s k        a parameter at the slot s: how it stands at exit (the kit's `Stay` and its law `Goes`), as the formulas that are had of it, and its type
--         lent j       a `&mut` that the function still has at exit, at its last value.        passed_on j     one that it has given up to a callee
--         slice_passed_on j    a `&mut [T]` that it has given up to a callee.        slice_over j     a `&[T]` of which nothing is had at exit
--         slice_kept j, a-number, a-truth      a `&[T]`, a number or a bool that is owned as it was passed
--     Params           one for each parameter
-- Assumes nothing.
use mathlib.Core.Path.{refl}
use mathlib.Core.List.{List, [], ◌∷◌, ◌++◌, map}
use Prim.Native.Nat.{ℕ}
use seplogic.Ra.Ura.{Ura}
use lib.ListN.{length}
use mir.Syntax.{Lifetime, Width}
use mir.Val.{Val, vint, vbool, vptr}
use base.Logic.{SProp, ent, sep, id⊢, via, assoc', mono_l, mono_r, emp∗}
use base.Fml.{Fml, Lft, ftrue}
use types.Logic.{Logic, sem}
use types.Kit.{Item, ‵, ⋆, ⊢++}
use contract.Lifetimes.{Lfts}
use denote.RattleType.{RattleType, Denots, Valss}
use denote.Laws.{Is, Tells, Lawful, Lawfuls, Ises, Spells, Tellss}
use denote.Plain.{UInt, uint_Tells, uint_Lawful, Boolean, bool_Tells, bool_Lawful}
use denote.Ref.{MutRef, mut_Tells, mut_Lawful}
use denote.Slice.{MutSlice, ShrSlice, slice_val, mut_slice_Tells, mut_slice_Lawful, shr_slice_Tells, shr_slice_Lawful}
use denote.Struct.Declared.{Declared, row}
use denote.Struct.Laws as LL
use denote.Exit.{Kept, yes, Last}
use denote.Signature.{Slot, AllWithin, name_of, meet_at, plain, mut_ref_to, mut_slice_of, shr_slice_of, types_at}
use denote.Triple.End.{Kepts, Fins}
use denote.Triple.Walked.{Stay, Stays, has_of, Silent, Goes, AllGo, stay_ref, gave_ref, gave_slice, stay_dropped, stay_none, stay_none_slice}
use denote.Triple.Walked.{Goes-ref, Goes-gave_ref, Goes-gave_slice, Goes-dropped, Goes-none, Goes-none_slice}

-- ---- types with one machine value
pub record Known (R : RattleType) : Type 2 where
  pub val : R.Denot → Val
  pub tells : Tells R (Is R) (λ x. val x ∷ [])
  pub lawful : {M : Type 1} {𝓤 : Ura M} (𝓛 : Logic 𝓤) → Lawful 𝓛 R

abbrev pub struct : (D : Declared) (L : LL.Laws D) → Known (row D)
struct D L = record { val = LL.val D L; tells = LL.tells D L; lawful = λ 𝓛. LL.lawful D L 𝓛 }

abbrev pub number : (w : Width) → Known (UInt w)
number w = record { val = λ n. vint w n; tells = uint_Tells w; lawful = λ 𝓛. uint_Lawful 𝓛 w }

abbrev pub truth : Known Boolean
truth = record { val = λ t. vbool t; tells = bool_Tells; lawful = λ 𝓛. bool_Lawful 𝓛 }

module _ (ℓ : Lifetime) (κ : Lft) (R : RattleType) where
  abbrev pub reference : Known (MutRef ℓ κ R)
  reference = record { val = λ x. vptr x.ref_ptr.0 x.ref_ptr.1; tells = mut_Tells ℓ κ R; lawful = λ 𝓛. mut_Lawful 𝓛 ℓ κ R }

  abbrev pub slice-lent : Known (MutSlice ℓ κ R)
  slice-lent = record { val = λ x. slice_val x.ref_ptr (length x.now); tells = mut_slice_Tells ℓ κ R; lawful = λ 𝓛. mut_slice_Lawful 𝓛 ℓ κ R }

  abbrev pub slice_read : Known (ShrSlice ℓ κ R)
  slice_read = record { val = λ x. slice_val x.ref_ptr (length x.now); tells = shr_slice_Tells ℓ κ R; lawful = λ 𝓛. shr_slice_Lawful 𝓛 ℓ κ R }

-- ---- a parameter
module _ {n : ℕ} where
  pub record Param (s : Slot n) (k : Kept) : Type 2 where
    pub stay : Stay s k
    pub goes : {M : Type 1} {𝓤 : Ura M} (𝓛 : Logic 𝓤) → Goes 𝓛 n s k stay
    pub had : (κs : Lfts n) (x : (s.row κs).Denot) → Last ((s.row κs).exit k) x → List Val → List Fml
    pub gives : {M : Type 1} {𝓤 : Ura M} (𝓛 : Logic 𝓤) (κs : Lfts n) (x : (s.row κs).Denot) (f : Last ((s.row κs).exit k) x) (vs : List Val)
        → ent 𝓤 (⋆ 𝓛 (map (λ F. ‵ F) (had κs x f vs))) (sem 𝓛 (stay.has κs x f vs))
    pub type : (κs : Lfts n) → Known (s.row κs)

  module _ (j : ℕ) (ok : AllWithin n (j ∷ [])) (s : Slot n) where
    abbrev pub lent : Param (mut_ref_to (j ∷ []) ok s) yes
    lent = record {
      stay = stay_ref (j ∷ []) ok s;
      goes = λ 𝓛. Goes-ref 𝓛 n j ok s;
      had = λ κs x w vs. (stay_ref (j ∷ []) ok s).has κs x w vs ∷ [];
      gives = λ {𝓤 = 𝓤} 𝓛 κs x w vs. id⊢ 𝓤 (sem 𝓛 ((stay_ref (j ∷ []) ok s).has κs x w vs));
      type = λ κs. reference (name_of (j ∷ [])) (meet_at n (j ∷ []) ok κs) (s.row κs);
    }

    abbrev pub passed_on : Param (mut_ref_to (j ∷ []) ok s) yes
    passed_on = record {
      stay = gave_ref (j ∷ []) ok s;
      goes = λ 𝓛. Goes-gave_ref 𝓛 n j ok s;
      had = λ κs x w vs. (gave_ref (j ∷ []) ok s).has κs x w vs ∷ [];
      gives = λ {𝓤 = 𝓤} 𝓛 κs x w vs. id⊢ 𝓤 (sem 𝓛 ((gave_ref (j ∷ []) ok s).has κs x w vs));
      type = λ κs. reference (name_of (j ∷ [])) (meet_at n (j ∷ []) ok κs) (s.row κs);
    }

    abbrev pub slice_passed_on : Param (mut_slice_of (j ∷ []) ok s) yes
    slice_passed_on = record {
      stay = gave_slice (j ∷ []) ok s;
      goes = λ 𝓛. Goes-gave_slice 𝓛 n j ok s;
      had = λ κs x w vs. (gave_slice (j ∷ []) ok s).has κs x w vs ∷ [];
      gives = λ {𝓤 = 𝓤} 𝓛 κs x w vs. id⊢ 𝓤 (sem 𝓛 ((gave_slice (j ∷ []) ok s).has κs x w vs));
      type = λ κs. slice-lent (name_of (j ∷ [])) (meet_at n (j ∷ []) ok κs) (s.row κs);
    }

    abbrev pub slice_over : Param (shr_slice_of (j ∷ []) ok s) yes
    slice_over = record {
      stay = stay_dropped (shr_slice_of (j ∷ []) ok s) yes;
      goes = λ 𝓛. Goes-dropped 𝓛 n (shr_slice_of (j ∷ []) ok s) yes (λ κs x f. refl);
      had = λ κs x w vs. [];
      gives = λ {𝓤 = 𝓤} 𝓛 κs x w vs. id⊢ 𝓤 (sem 𝓛 ftrue);
      type = λ κs. slice_read (name_of (j ∷ [])) (meet_at n (j ∷ []) ok κs) (s.row κs);
    }

    abbrev pub slice_kept : Param (shr_slice_of (j ∷ []) ok s) yes
    slice_kept = record {
      stay = stay_none_slice (j ∷ []) ok s yes;
      goes = λ 𝓛. Goes-none_slice 𝓛 n (j ∷ []) ok s yes;
      had = λ κs x w vs. (stay_none_slice (j ∷ []) ok s yes).has κs x w vs ∷ [];
      gives = λ {𝓤 = 𝓤} 𝓛 κs x w vs. id⊢ 𝓤 (sem 𝓛 ((stay_none_slice (j ∷ []) ok s yes).has κs x w vs));
      type = λ κs. slice_read (name_of (j ∷ [])) (meet_at n (j ∷ []) ok κs) (s.row κs);
    }

  abbrev by_value : {R : RattleType} → Known R → ((M : Type 1) (𝓤 : Ura M) (𝓛 : Logic 𝓤) → Silent 𝓛 n (plain (λ _. R)) yes) → Param (plain (λ _. R)) yes
  by_value {R} N silent = record {
    stay = stay_none (λ _. R) yes;
    goes = λ {M} {𝓤 = 𝓤} 𝓛. Goes-none 𝓛 n (λ _. R) yes (silent M 𝓤 𝓛);
    had = λ κs x w vs. R.own_val x vs ∷ [];
    gives = λ {𝓤 = 𝓤} 𝓛 κs x w vs. id⊢ 𝓤 (sem 𝓛 (R.own_val x vs));
    type = λ κs. N;
  }

  abbrev pub a-number : (w : Width) → Param (plain (λ _. UInt w)) yes
  a-number w = by_value (number w) (λ M 𝓤 𝓛 κs x f. refl)

  abbrev pub a-truth : Param (plain (λ _. Boolean)) yes
  a-truth = by_value truth (λ M 𝓤 𝓛 κs x f. refl)

  -- ---- a list of them
  abbrev pub Params : (ss : List (Slot n)) → Kepts ss → Type 2
  Params [] ks = Unit {2}
  Params (s ∷ ss) ks = Param s ks.0 × Params ss ks.1

  abbrev pub stays : (ss : List (Slot n)) (ks : Kepts ss) → Params ss ks → Stays ss ks
  stays [] ks ps = tt
  stays (s ∷ ss) ks ps = (ps.0.stay, stays ss ks.1 ps.1)

  pub all_go : {M : Type 1} {𝓤 : Ura M} (𝓛 : Logic 𝓤) (ss : List (Slot n)) (ks : Kepts ss) (ps : Params ss ks) → AllGo 𝓛 n ss ks (stays ss ks ps)
  all_go 𝓛 [] ks ps = tt
  all_go 𝓛 (s ∷ ss) ks ps = (ps.0.goes 𝓛, all_go 𝓛 ss ks.1 ps.1)

  abbrev pub spell : (ss : List (Slot n)) (ks : Kepts ss) → Params ss ks → (κs : Lfts n) → Spells (types_at ss κs)
  spell [] ks ps κs = tt
  spell (s ∷ ss) ks ps κs = ((λ x. (ps.0.type κs).val x ∷ []), spell ss ks.1 ps.1 κs)

  pub all_tell : (ss : List (Slot n)) (ks : Kepts ss) (ps : Params ss ks) (κs : Lfts n) → Tellss (types_at ss κs) (Ises (types_at ss κs)) (spell ss ks ps κs)
  all_tell [] ks ps κs = tt
  all_tell (s ∷ ss) ks ps κs = ((ps.0.type κs).tells, all_tell ss ks.1 ps.1 κs)

  pub all_lawful : {M : Type 1} {𝓤 : Ura M} (𝓛 : Logic 𝓤) (ss : List (Slot n)) (ks : Kepts ss) → Params ss ks → (κs : Lfts n) → Lawfuls 𝓛 (types_at ss κs)
  all_lawful 𝓛 [] ks ps κs = tt
  all_lawful 𝓛 (s ∷ ss) ks ps κs = ((ps.0.type κs).lawful 𝓛, all_lawful 𝓛 ss ks.1 ps.1 κs)

  -- what is had of the parameters at exit, as entries
  abbrev pub had_on : {M : Type 1} (𝓤 : Ura M) (ss : List (Slot n)) (ks : Kepts ss) → Params ss ks → (κs : Lfts n) (a : Denots (types_at ss κs)) → Fins κs ss ks a → Valss (types_at ss κs)
      → List (Item 𝓤) → List (Item 𝓤)
  had_on 𝓤 [] ks ps κs a ws vss Γ = Γ
  had_on 𝓤 (s ∷ ss) ks ps κs a ws vss Γ = map (λ F. ‵ F) (ps.0.had κs a.0 ws.0 vss.0) ++ had_on 𝓤 ss ks.1 ps.1 κs a.1 ws.1 vss.1 Γ

  pub had_gives : {M : Type 1} {𝓤 : Ura M} (𝓛 : Logic 𝓤) (ss : List (Slot n)) (ks : Kepts ss) (ps : Params ss ks) (κs : Lfts n) (a : Denots (types_at ss κs)) (ws : Fins κs ss ks a)
      (vss : Valss (types_at ss κs)) (Γ : List (Item 𝓤))
      → ent 𝓤 (⋆ 𝓛 (had_on 𝓤 ss ks ps κs a ws vss Γ)) (sep 𝓤 (sem 𝓛 (has_of κs ss ks (stays ss ks ps) a ws vss)) (⋆ 𝓛 Γ))
  had_gives {𝓤 = 𝓤} 𝓛 [] ks ps κs a ws vss Γ = emp∗ 𝓤 (⋆ 𝓛 Γ)
  had_gives {𝓤 = 𝓤} 𝓛 (s ∷ ss) ks ps κs a ws vss Γ =
      let p : Param s ks.0 = ps.0 in
      let i : List (Item 𝓤) = map (λ F. ‵ F) (p.had κs a.0 ws.0 vss.0) in
      let Δ : List (Item 𝓤) = had_on 𝓤 ss ks.1 ps.1 κs a.1 ws.1 vss.1 Γ in
      let P : SProp 𝓤 = sem 𝓛 (p.stay.has κs a.0 ws.0 vss.0) in
      let Q : SProp 𝓤 = sem 𝓛 (has_of κs ss ks.1 (stays ss ks.1 ps.1) a.1 ws.1 vss.1) in
      via 𝓤 (sep 𝓤 (⋆ 𝓛 i) (⋆ 𝓛 Δ)) (⊢++ 𝓛 i Δ)
      (via 𝓤 (sep 𝓤 P (⋆ 𝓛 Δ)) (mono_l 𝓤 (⋆ 𝓛 Δ) (p.gives 𝓛 κs a.0 ws.0 vss.0))
      (via 𝓤 (sep 𝓤 P (sep 𝓤 Q (⋆ 𝓛 Γ))) (mono_r 𝓤 P (had_gives 𝓛 ss ks.1 ps.1 κs a.1 ws.1 vss.1 Γ)) (assoc' 𝓤 P Q (⋆ 𝓛 Γ))))
