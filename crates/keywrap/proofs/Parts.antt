-- Registers: what holds of each part, and that the parts of a string and the string of the parts are each the other's inverse.
-- Assumes nothing.
use mathlib.Core.Path.{◌≡◌, refl, ap, ◌∙◌}
use mathlib.Core.List.{List, [], ◌∷◌, ◌++◌}
use Prim.Native.Nat.{ℕ, zero, suc, ◌+◌, ◌*◌, ◌<◌}
use native.Mathlib.Nat.{le_of_suc-le-suc, not-suc-le-zero}
use native.Mathlib.Omega.{arith}
use lib.ListN.{length, get_or, set, length-append}
use lib.Seq.{take_at, get_or-append-add}
use Rattle.octets.specs.Values.{values, bytes_at}
use Rattle.octets.specs.Bytes.{Bytes}
use Rattle.octets.proofs.Values.{cons_equal, length-values, values-later, values-from, values_same, values_list, bytes_at_part}
use Rattle.octets.proofs.Bytes.{bytes_nil, bytes_append, bytes-values}
use Rattle.keywrap.specs.Wrap.{Register, parts, register_bytes}

abbrev pub Eight : List ℕ → Type 0
Eight p = length p ≡ 8

-- ---- what holds of each part

pub record Each (P : List ℕ → Type 0) (r : Register) : Type 0 where
  pub part : (j : ℕ) → j < length r → P (get_or r j [])

module _ {P : List ℕ → Type 0} where
  pub each_nil : Each P []
  each_nil = record { part = λ j h. absurd (not-suc-le-zero h) }

  pub each_cons : {p : List ℕ} {r : Register} → P p → Each P r → Each P (p ∷ r)
  each_cons {p} {r} first rest = record { part = at }
    where
      at : (j : ℕ) → j < length (p ∷ r) → P (get_or (p ∷ r) j [])
      at zero h = first
      at (suc j) h = rest.part j (le_of_suc-le-suc h)

  pub each_head : {p : List ℕ} {r : Register} → Each P (p ∷ r) → P p
  each_head {p} {r} h = h.part 0 (omega arith)

  pub each_tail : {p : List ℕ} {r : Register} → Each P (p ∷ r) → Each P r
  each_tail h = record { part = λ j k. h.part (suc j) (omega arith) }

  pub each_set : {r : Register} {p : List ℕ} (i : ℕ) → Each P r → P p → Each P (set r i p)
  each_set {r = []} i h hp = h
  each_set {r = q ∷ r} zero h hp = each_cons hp (each_tail h)
  each_set {r = q ∷ r} (suc i) h hp = each_cons (each_head h) (each_set i (each_tail h) hp)

  pub each-values : (f : ℕ → List ℕ) (i n : ℕ) → ((k : ℕ) → P (f k)) → Each P (values f i n)
  each-values f i zero h = each_nil
  each-values f i (suc n) h = each_cons (h i) (each-values f (suc i) n h)

-- ---- the string of the parts

pub length-register_bytes : {r : Register} → Each Eight r → length (register_bytes r) ≡ 8 * length r
length-register_bytes {r = []} h = refl
length-register_bytes {r = p ∷ r} h = length-append p (register_bytes r) ∙ omega (arith, each_head h, length-register_bytes (each_tail h))

pub bytes-register_bytes : {r : Register} → Each Bytes r → Bytes (register_bytes r)
bytes-register_bytes {r = []} h = bytes_nil
bytes-register_bytes {r = p ∷ r} h = bytes_append (each_head h) (bytes-register_bytes (each_tail h))

-- ---- the parts of a string

pub parts_eight : (n : ℕ) (s : List ℕ) → Each Eight (parts n s)
parts_eight n s = each-values _ 0 n (λ i. length-values (λ k. get_or s k 0) (8 * i) 8)

pub parts_bytes : (n : ℕ) {s : List ℕ} → Bytes s → Each Bytes (parts n s)
parts_bytes n {s} h = each-values _ 0 n (λ i. bytes-values (λ k. get_or s k 0) (8 * i) 8 h.byte)

-- past a first part the places count from eight on
bytes_at_past : (p s : List ℕ) (i : ℕ) → Eight p → bytes_at 8 (p ++ s) (8 * suc i) ≡ bytes_at 8 s (8 * i)
bytes_at_past p s i e =
    ap (bytes_at 8 (p ++ s)) next
    ∙ values-from (λ k. get_or (p ++ s) k 0) (length p) (8 * i) 8
    ∙ values_same _ (λ k. get_or s k 0) (8 * i) 8 (λ k lo hi. get_or-append-add p s k 0)
  where
    next : 8 * suc i ≡ length p + 8 * i
    next = omega arith

parts_first : (p s : List ℕ) (n : ℕ) → Eight p → parts (suc n) (p ++ s) ≡ p ∷ parts n s
parts_first p s n e =
    cons_equal (bytes_at_part 8 (p ++ s) 0 (simp length-append (omega arith)) ∙ take_at p s 8 e)
    (values-later (λ i. bytes_at 8 (p ++ s) (8 * i)) 0 n
    ∙ values_same _ (λ i. bytes_at 8 s (8 * i)) 0 n (λ i lo hi. bytes_at_past p s i e))

-- ---- each is the other's inverse

pub parts-register_bytes : {r : Register} → Each Eight r → parts (length r) (register_bytes r) ≡ r
parts-register_bytes {r = []} h = refl
parts-register_bytes {r = p ∷ r} h = parts_first p (register_bytes r) (length r) (each_head h) ∙ cons_equal refl (parts-register_bytes (each_tail h))

pub register_bytes_four : (s : List ℕ) → length s ≡ 32 → register_bytes (parts 4 s) ≡ s
register_bytes_four s e = values_list s 0 32 e

pub register_bytes_five : (s : List ℕ) → length s ≡ 40 → register_bytes (parts 5 s) ≡ s
register_bytes_five s e = values_list s 0 40 e
