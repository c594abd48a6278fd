-- The words of a walk: a proof of a function's MIR by hand, where the kit's own method does not reach, as for a function over a lent struct.
-- A walk's context is [what the walk owns; that each local may be freed; the locals, `_0` last]. It says each statement of the MIR in turn, and between them opens and closes what is lent.
--     Parameters       how each parameter stands on entry and at exit: `lent`, `passed_on`, `slice_passed_on`, `slice_over`, `slice_kept`, `a-number`, `a-truth`
--     Ends             `starts` and `ends`.        Locals      `leaves`: the function returns
--     Steps            the statements: `lets`, `stores`; and their operands: `var`, `field`, `behind`.        SliceLent        `relends`
--     Lent             `opened`, `closed`, `counted`, `plainly`, `learnt`.        Callees     `calls`, and then `gets` of Steps for the result
--     LocalLent        a local that is lent to a callee: `lends`, `has_back`
--     Proved           `proved`: the walk is the function's theorem
-- The kit's names that a walk needs beside these are passed on below.
pub mod Locals
pub mod Steps
pub mod SliceLent
pub mod Parameters
pub mod Entries
pub mod Ends
pub mod Callees
pub mod Lent
pub mod Proved
pub mod LocalLent
pub use Locals.{leaves}
pub use Steps.{var, field, behind, behind-field, again, args1, args2, args3, args6, lets, gets, stores, stores-field}
pub use SliceLent.{relends}
pub use Parameters.{Known, struct, number, truth, reference, slice-lent, slice_read, Param, Params, lent, passed_on, slice_passed_on, slice_over, slice_kept, a-number, a-truth}
pub use Ends.{Scene, of_type, Walked, starts, ends}
pub use Callees.{Meeting, calls}
pub use Lent.{opened, closed, counted, plainly, learnt}
pub use Proved.{scene, known, proved}
pub use mathlib.Core.Path.{◌≡◌, refl, sym, ap, ◌∙◌, subst}
pub use mathlib.Core.List.{List, [], ◌∷◌}
pub use Prim.Native.Nat.{ℕ}
pub use seplogic.Ra.Ura.{Ura}
pub use base.Fraction.{full_share}
pub use lib.Dec.{lit<}
pub use mir.Syntax.{named, erased, w8, w32, w64}
pub use mir.Val.{Val, vint, vbool}
pub use base.Logic.{SProp, ent, id⊢}
pub use base.Fml.{Fml, fat}
pub use prog.Wp.{Heap}
pub use types.Logic.{Logic, sem}
pub use contract.Lifetimes.{Lfts}
pub use types.Kit.{‵, ◌⊛◌, ◌$◌, ◌∵◌, !, qed, by, move, keep, drop, use1, split, fjoin}
pub use types.Run.{of_opd, lit, true_lit}
pub use types.Part.{agg}
pub use denote.Laws.{Is}
pub use denote.Builtin.{u8, u32, u64, usize, bool}
pub use denote.Plain.{uint_Makes, bool_Makes}
pub use denote.Memory.{cell_at}
pub use denote.Ref.{Bor, MutBor, NamedLft, shr_vals, mut_vals}
pub use denote.Signature.{Slot, plain, named_lft}
pub use denote.Slice.{ShrSlice, shr_slice_vals, mut_slice_vals, shr_slice_copy}
pub use denote.Steps.{owned, nothing}
pub use denote.Struct.Laws.{makes, owed}
pub use denote.Struct.Rest.{own_shut}
