-- Which strings are bytes: each way to make a string, of bytes, gives bytes.
-- Assumes nothing.
use mathlib.Core.List.{List, [], ◌∷◌, ◌++◌}
use Prim.Native.Nat.{ℕ, zero, suc, ◌<◌}
use lib.Dec.{lit<}
use lib.ListN.{get_or, set, take, drop, replicate}
use Rattle.octets.specs.Values.{values}
use Rattle.octets.specs.Bytes.{Bytes}

pub bytes_nil : Bytes []
bytes_nil = record { byte = λ i. lit< tt }

pub bytes_cons : {b : ℕ} {s : List ℕ} → b < 256 → Bytes s → Bytes (b ∷ s)
bytes_cons {b} {s} first rest = record { byte = at }
  where
    at : (i : ℕ) → get_or (b ∷ s) i 0 < 256
    at zero = first
    at (suc i) = rest.byte i

pub bytes_head : {b : ℕ} {s : List ℕ} → Bytes (b ∷ s) → b < 256
bytes_head h = h.byte 0

pub bytes_tail : {b : ℕ} {s : List ℕ} → Bytes (b ∷ s) → Bytes s
bytes_tail h = record { byte = λ i. h.byte (suc i) }

pub bytes_append : {s t : List ℕ} → Bytes s → Bytes t → Bytes (s ++ t)
bytes_append {s = []} hs ht = ht
bytes_append {s = b ∷ s} hs ht = bytes_cons (bytes_head hs) (bytes_append (bytes_tail hs) ht)

pub bytes_take : {s : List ℕ} (n : ℕ) → Bytes s → Bytes (take n s)
bytes_take zero h = bytes_nil
bytes_take {s = []} (suc n) h = bytes_nil
bytes_take {s = b ∷ s} (suc n) h = bytes_cons (bytes_head h) (bytes_take n (bytes_tail h))

pub bytes_drop : {s : List ℕ} (n : ℕ) → Bytes s → Bytes (drop n s)
bytes_drop zero h = h
bytes_drop {s = []} (suc n) h = bytes_nil
bytes_drop {s = b ∷ s} (suc n) h = bytes_drop n (bytes_tail h)

pub bytes-set : {s : List ℕ} {b : ℕ} (n : ℕ) → Bytes s → b < 256 → Bytes (set s n b)
bytes-set {s = []} n h hb = bytes_nil
bytes-set {s = x ∷ s} zero h hb = bytes_cons hb (bytes_tail h)
bytes-set {s = x ∷ s} (suc n) h hb = bytes_cons (bytes_head h) (bytes-set n (bytes_tail h) hb)

pub bytes-values : (f : ℕ → ℕ) (i n : ℕ) → ((k : ℕ) → f k < 256) → Bytes (values f i n)
bytes-values f i zero h = bytes_nil
bytes-values f i (suc n) h = bytes_cons (h i) (bytes-values f (suc i) n h)

pub bytes-zeros : (n : ℕ) → Bytes (replicate n 0)
bytes-zeros zero = bytes_nil
bytes-zeros (suc n) = bytes_cons (lit< tt) (bytes-zeros n)
