-- The tables of 256 entries: what stands at each place; and a block in which each byte is looked up.
-- Assumes nothing.
use mathlib.Core.Path.{◌≡◌, refl, sym, ◌∙◌, ap, ap₂}
use mathlib.Core.List.{List, ◌++◌, map}
use Prim.Native.Nat.{ℕ, suc, ◌+◌, ◌<◌}
use native.Mathlib.Nat.{zero-add}
use native.Mathlib.Omega.{arith}
use lib.Dec.{T}
use lib.ListN.{length, get_or, set, take, drop}
use lib.Seq.{drop-cons, get_or_at, length-take-le}
use Rattle.std.proofs.lemmas.List.{get_or-map, length-map}
use Rattle.octets.specs.Values.{values}
use Rattle.octets.proofs.Values.{get_d-values}
use Rattle.octets.proofs.Lent.{over_turn}
use Rattle.aes_field.specs.declared.sbox.TheConstants.{SBOX}
use Rattle.aes_field.specs.Field.{xtime, times, inverse, affine, sbox}
use Rattle.aes_field.specs.Tables.{table_of}
use Rattle.aes_field.specs.Laws.{SboxTable}
use Rattle.aes_field.proofs.Computed.{follows, follows_values}

pub table_of_at : (f : ℕ → ℕ) (k : ℕ) → k < 256 → get_or (table_of f) k 0 ≡ f k
unfolding table_of
table_of_at f k h = get_d-values f 0 256 k 0 h ∙ ap f (zero-add k)

-- a table of 256 entries that follow the rule f, each tested, is f's
pub table_of_is : (f : ℕ → ℕ) (t : List ℕ) → length t ≡ 256 → T (follows f 0 t) → t ≡ table_of f
unfolding table_of
table_of_is f t long tested = follows_values f 0 t tested ∙ ap (values f 0) long

-- the S-box's, by one computed test over the whole table
pub sbox_table_is : SboxTable
unfolding sbox affine inverse times xtime
sbox_table_is = table_of_is sbox SBOX refl tt

-- ---- what f gives of each element of b, written over b element by element: the next one

pub mapped_turn : (f : ℕ → ℕ) (b : List ℕ) (i : ℕ) {x : List ℕ} → i < length b → x ≡ take i (map f b) ++ drop i b
    → set x i (f (get_or x i 0)) ≡ take (i + 1) (map f b) ++ drop (i + 1) b
mapped_turn f b i {x} h e =
    ap₂ (λ (l : List ℕ) (v : ℕ). set l i v) e (ap f read ∙ sym (get_or-map f b i 0 0 h))
    ∙ over_turn (map f b) b i (omega (arith, length-map b f)) h
  where
    read : get_or x i 0 ≡ get_or b i 0
    read =
        ap (λ (l : List ℕ). get_or l i 0) (e ∙ ap (λ (l : List ℕ). take i (map f b) ++ l) (drop-cons b i 0 h))
        ∙ get_or_at (take i (map f b)) (get_or b i 0) (drop (suc i) b) 0 i (length-take-le i (map f b) (omega (arith, length-map b f)))
