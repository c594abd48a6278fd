-- The lengths of what is written, and the KEY part that was made, cut from its room.
-- Assumes nothing.
use mathlib.Core.Path.{◌≡◌, refl, sym}
use mathlib.Core.List.{List}
use Prim.Native.Nat.{ℕ, ◌≤◌}
use native.Mathlib.Omega.{arith}
use lib.ListN.{length, replicate, length-append, length-replicate}
use Rattle.std.specs.Prelude.{Result, Ok, Err, IsOk}
use Rattle.octets.specs.Lent.{over}
use Rattle.octets.specs.Tests.{part_of}
use Rattle.octets.proofs.Lent.{over_front}
use Rattle.refusals.specs.Numbers.{outcome_number}
use Rattle.refusals.specs.declared.Refusal.{Refusal}
use Rattle.refusals.proofs.Laws.{not_zero}
use Rattle.keytable.specs.Row.{name_max}
use Rattle.keywrap.specs.Calls.{wrapped_size}
use Rattle.keypage.specs.Layout.{key_part_at}
use Rattle.page_writer.specs.Written.{head_of, page_size, page_of, wrapped_part_size, wrapped_part_max, wrapped_part}

pub length_head : (v : List ℕ) (part total : ℕ) → length (head_of v part total) ≡ key_part_at
unfolding head_of
length_head v part total = refl

pub length_page : (v s l : List ℕ) → length (page_of v s l) ≡ page_size (length s) (length l)
unfolding page_of
length_page v s l =
    let head = length_head v (length s) (page_size (length s) (length l)) in
    simp length-append (omega (arith, head))

pub length-wrapped_part : (type : ℕ) (identifier w : List ℕ) → length w ≡ wrapped_size → length (wrapped_part type identifier w) ≡ wrapped_part_size (length identifier)
unfolding wrapped_part
length-wrapped_part type identifier w size = simp length-append (omega (arith, size))

pub part_cut : (type : ℕ) (identifier w room : List ℕ) → length w ≡ wrapped_size → length identifier ≤ name_max
    → room ≡ over (wrapped_part type identifier w) (replicate wrapped_part_max 0) → part_of room 0 (wrapped_part_size (length identifier)) ≡ wrapped_part type identifier w
part_cut type identifier w room size short is =
    over_front (wrapped_part type identifier w) (replicate wrapped_part_max 0) room (wrapped_part_size (length identifier)) (length-wrapped_part type identifier w size)
    (omega (arith, short, length-replicate {A = ℕ} wrapped_part_max 0)) is

-- an answer of the number 0
pub not_refused : (r : Result (Unit {0}) Refusal) → outcome_number r ≡ 0 → IsOk r
not_refused (Ok u) e = refl
not_refused (Err x) e = absurd (not_zero x (sym e))
