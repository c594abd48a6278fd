-- What an array by value tells of itself: a parameter's part of `c.good`, or a result's of `c.callee.ok`.
-- Assumes nothing.
use mathlib.Core.List.{List, [], ◌∷◌}
use Prim.Native.Nat.{ℕ, zero, suc, ◌<◌}
use lib.Dec.{lit<}
use lib.ListN.{get_or}
use mir.Val.{Val}
use denote.RattleType.{RattleType}
use denote.Shadow.{shadow}
use denote.Laws.{Is}
use denote.Array.{Array, each}
use denote.Builtin.{u8}
use Rattle.octets.specs.Bytes.{Bytes}

-- what holds of every element, and of the one that is read past the end
module _ (R : RattleType) (P : R.Denot → Type 0) (d : R.Denot) (past : P d) (one : (x : R.Denot) (us : List Val) → Is R x us → P x) where
  each_all : (xs : List R.Denot) (us : List Val) → shadow (each R.Denot R.own_val xs us) → (k : ℕ) → P (get_or xs k d)
  each_all [] us s k = past
  each_all (x ∷ xs) [] s k = absurd s
  each_all (x ∷ xs) (u ∷ us) s zero = one x (u ∷ []) s.0
  each_all (x ∷ xs) (u ∷ us) s (suc k) = each_all xs us s.1 k

  pub array-all : (n : ℕ) (xs : List R.Denot) (vs : List Val) → Is (Array R n) xs vs → (k : ℕ) → P (get_or xs k d)
  array-all n xs vs p k = each_all xs p.0 p.1.1 k

-- an array of bytes

pub array_bytes : (n : ℕ) (xs : List ℕ) (vs : List Val) → Is (Array u8 n) xs vs → Bytes xs
array_bytes n xs vs p = record { byte = array-all u8 (λ x. x < 256) 0 (lit< tt) (λ x us q. q.1) n xs vs p }
