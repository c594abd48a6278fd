-- The steps keep a register's form, and those of unwrapping undo those of wrapping, both ways: from the two round trips of the cipher alone.
-- Assumes nothing.
use mathlib.Core.Path.{◌≡◌, refl, ap, ◌∙◌}
use mathlib.Core.List.{List, [], ◌∷◌, ◌++◌}
use Prim.Native.Nat.{ℕ, zero, suc, ◌-◌, ◌%◌, ◌<◌}
use native.Mathlib.Nat.{mod-lt}
use native.Mathlib.Omega.{arith}
use lib.Dec.{lit<}
use lib.ListN.{length, get_or, set, take, drop, length-append, length-drop, length-set, take-append-drop}
use lib.Seq.{take_at, drop_at, length-take-le, get_or-set_same, set-set, set-get_or}
use Rattle.octets.specs.Bytes.{Bytes}
use Rattle.octets.specs.BigEndian.{be}
use Rattle.octets.specs.Xor.{xors}
use Rattle.octets.proofs.Values.{cons_equal}
use Rattle.octets.proofs.Bytes.{bytes_append, bytes_take, bytes_drop}
use Rattle.octets.proofs.BigEndian.{length-be, bytes-be}
use Rattle.octets.proofs.Xor.{xors_cancel, length-xors, bytes-xors}
use Rattle.aes.specs.State.{State}
use Rattle.aes.specs.Cipher.{cipher}
use Rattle.aes.specs.KeyExpansion.{schedule}
use Rattle.aes.specs.InvCipher.{inv_cipher}
use Rattle.aes.proofs.Laws.{cipher-length, inv_cipher-length, cipher_bytes, inv_cipher_bytes, inv_cipher-cipher, cipher-inv_cipher}
use Rattle.keywrap.specs.Wrap.{Register, part_at, wrap_step, wrap_steps, unwrap_step, unwrap_steps}
use Rattle.keywrap.proofs.Parts.{Eight, Each, each_set, each_head}

-- ---- registers of five parts of eight, and those of bytes

pub record Formed (r : Register) : Type 0 where
  pub five : length r ≡ 5
  pub eight : Each Eight r

pub record Good (r : Register) : Type 0 where
  pub formed : Formed r
  pub bytes : Each Bytes r

place_lt : (t : ℕ) → part_at t < 5
place_lt t = omega (arith, mod-lt (t - 1) {m = 4} (lit< tt))

-- ---- the halves of a block

module _ (b : List ℕ) (block : length b ≡ 16) where
  front_eight : Eight (take 8 b)
  front_eight = length-take-le 8 b (omega arith)

  back_eight : Eight (drop 8 b)
  back_eight = length-drop 8 b ∙ omega arith

xors_eight : (a : List ℕ) (t : ℕ) → Eight a → Eight (xors a (be 8 t))
xors_eight a t e = length-xors a (be 8 t) (omega (arith, length-be 8 t)) ∙ e

-- ---- a step keeps the form

set_formed : {r : Register} (x y : List ℕ) (i : ℕ) → Formed r → Eight x → Eight y → Formed (set (set r 0 x) i y)
set_formed {r} x y i h hx hy = record { five = length-set (set r 0 x) i y ∙ length-set r 0 x ∙ h.five; eight = each_set i (each_set 0 h.eight hx) hy }

pub wrap_step_formed : (ks : List State) (t : ℕ) {r : Register} → Formed r → Formed (wrap_step ks t r)
unfolding wrap_step
wrap_step_formed ks t {r} h =
    let b : List ℕ = cipher ks (get_or r 0 [] ++ get_or r (part_at t) []) in
    let block : length b ≡ 16 = cipher-length ks (get_or r 0 [] ++ get_or r (part_at t) []) in
    set_formed (xors (take 8 b) (be 8 t)) (drop 8 b) (part_at t) h (xors_eight (take 8 b) t (front_eight b block)) (back_eight b block)

pub unwrap_step_formed : (ks : List State) (t : ℕ) {r : Register} → Formed r → Formed (unwrap_step ks t r)
unfolding unwrap_step
unwrap_step_formed ks t {r} h =
    let b : List ℕ = inv_cipher ks (xors (get_or r 0 []) (be 8 t) ++ get_or r (part_at t) []) in
    let block : length b ≡ 16 = inv_cipher-length ks (xors (get_or r 0 []) (be 8 t) ++ get_or r (part_at t) []) in
    set_formed (take 8 b) (drop 8 b) (part_at t) h (front_eight b block) (back_eight b block)

-- ---- and bytes

module _ (kek : List ℕ) (hk : Bytes kek) (t : ℕ) {r : Register} (h : Good r) where
  first_bytes : Bytes (get_or r 0 [])
  first_bytes = h.bytes.part 0 (omega (arith, h.formed.five))

  part_bytes : Bytes (get_or r (part_at t) [])
  part_bytes = h.bytes.part (part_at t) (omega (arith, h.formed.five, place_lt t))

  pub wrap_step_good : Good (wrap_step (schedule kek) t r)
  unfolding wrap_step
  wrap_step_good =
      let b = cipher_bytes kek _ hk (bytes_append first_bytes part_bytes) in
      record { formed = wrap_step_formed (schedule kek) t h.formed; bytes = each_set (part_at t) (each_set 0 h.bytes (bytes-xors (bytes_take 8 b) (bytes-be 8 t))) (bytes_drop 8 b) }

  pub unwrap_step_good : Good (unwrap_step (schedule kek) t r)
  unfolding unwrap_step
  unwrap_step_good =
      let b = inv_cipher_bytes kek _ hk (bytes_append (bytes-xors first_bytes (bytes-be 8 t)) part_bytes) in
      record { formed = unwrap_step_formed (schedule kek) t h.formed; bytes = each_set (part_at t) (each_set 0 h.bytes (bytes_take 8 b)) (bytes_drop 8 b) }

-- ---- a step undone, for any two ways f and g: a is the first part, s the others, and q the place among these

module _ (f g : List ℕ → List ℕ) (t a : List ℕ) (s : Register) (q : ℕ) (eight : Eight a) (mask : Eight t) (place : q < length s) where
  wrap_undone : length (f (a ++ get_or s q [])) ≡ 16 → g (f (a ++ get_or s q [])) ≡ a ++ get_or s q []
      → (b c : List ℕ) → b ≡ f (a ++ get_or s q []) → c ≡ g (xors (xors (take 8 b) t) t ++ get_or (set s q (drop 8 b)) q [])
      → take 8 c ∷ set (set s q (drop 8 b)) q (drop 8 c) ≡ a ∷ s
  wrap_undone long back b c eb ec =
      cons_equal (ap (take 8) whole ∙ take_at a (get_or s q []) 8 eight)
      (set-set s q (drop 8 b) (drop 8 c) ∙ ap (set s q) (ap (drop 8) whole ∙ drop_at a (get_or s q []) 8 eight) ∙ set-get_or s q [])
    where
      masked : xors (xors (take 8 b) t) t ≡ take 8 b
      masked = xors_cancel (take 8 b) t (omega (arith, front_eight b (ap length eb ∙ long)))

      whole : c ≡ a ++ get_or s q []
      whole = ec ∙ rw (masked, get_or-set_same s q (drop 8 b) [] place, take-append-drop 8 b, eb) back

  unwrap_undone : f (g (xors a t ++ get_or s q [])) ≡ xors a t ++ get_or s q []
      → (b c : List ℕ) → b ≡ g (xors a t ++ get_or s q []) → c ≡ f (take 8 b ++ get_or (set s q (drop 8 b)) q [])
      → xors (take 8 c) t ∷ set (set s q (drop 8 b)) q (drop 8 c) ≡ a ∷ s
  unwrap_undone back b c eb ec =
      cons_equal (ap (λ (l : List ℕ). xors l t) (ap (take 8) whole ∙ take_at (xors a t) (get_or s q []) 8 masked) ∙ xors_cancel a t (omega arith))
      (set-set s q (drop 8 b) (drop 8 c) ∙ ap (set s q) (ap (drop 8) whole ∙ drop_at (xors a t) (get_or s q []) 8 masked) ∙ set-get_or s q [])
    where
      masked : Eight (xors a t)
      masked = length-xors a t (omega arith) ∙ eight

      whole : c ≡ xors a t ++ get_or s q []
      whole = ec ∙ rw (get_or-set_same s q (drop 8 b) [] place, take-append-drop 8 b, eb) back

-- ---- the steps of the two

block-long : (a p : List ℕ) → Eight a → Eight p → length (a ++ p) ≡ 16
block-long a p ha hp = length-append a p ∙ omega arith

module _ (kek : List ℕ) (hk : Bytes kek) (t : ℕ) where
  pub unwrap_step-wrap_step : {r : Register} → Good r → unwrap_step (schedule kek) t (wrap_step (schedule kek) t r) ≡ r
  unfolding wrap_step unwrap_step
  unwrap_step-wrap_step {r = []} h = absurd (omega (arith, h.formed.five))
  unwrap_step-wrap_step {r = a ∷ s} h =
      let first : Eight a = each_head h.formed.eight in
      let part : Eight (get_or (a ∷ s) (part_at t) []) = h.formed.eight.part (part_at t) (omega (arith, h.formed.five, place_lt t)) in
      wrap_undone (cipher (schedule kek)) (inv_cipher (schedule kek)) (be 8 t) a s ((t - 1) % 4) first (length-be 8 t)
      (omega (arith, h.formed.five, place_lt t)) (cipher-length (schedule kek) _)
      (inv_cipher-cipher kek _ hk (block-long a _ first part) (bytes_append (each_head h.bytes) (part_bytes kek hk t h))) _ _ refl refl

  pub wrap_step-unwrap_step : {r : Register} → Good r → wrap_step (schedule kek) t (unwrap_step (schedule kek) t r) ≡ r
  unfolding wrap_step unwrap_step
  wrap_step-unwrap_step {r = []} h = absurd (omega (arith, h.formed.five))
  wrap_step-unwrap_step {r = a ∷ s} h =
      let first : Eight a = each_head h.formed.eight in
      let part : Eight (get_or (a ∷ s) (part_at t) []) = h.formed.eight.part (part_at t) (omega (arith, h.formed.five, place_lt t)) in
      unwrap_undone (cipher (schedule kek)) (inv_cipher (schedule kek)) (be 8 t) a s ((t - 1) % 4) first (length-be 8 t)
      (omega (arith, h.formed.five, place_lt t))
      (cipher-inv_cipher kek _ hk (block-long (xors a (be 8 t)) _ (xors_eight a t first) part)
      (bytes_append (bytes-xors (each_head h.bytes) (bytes-be 8 t)) (part_bytes kek hk t h))) _ _ refl refl

-- ---- any number of steps

pub wrap_steps_formed : (ks : List State) (n : ℕ) {r : Register} → Formed r → Formed (wrap_steps ks n r)
unfolding wrap_steps
wrap_steps_formed ks zero h = h
wrap_steps_formed ks (suc n) h = wrap_step_formed ks (suc n) (wrap_steps_formed ks n h)

module _ (kek : List ℕ) (hk : Bytes kek) where
  pub wrap_steps_good : (n : ℕ) {r : Register} → Good r → Good (wrap_steps (schedule kek) n r)
  unfolding wrap_steps
  wrap_steps_good zero h = h
  wrap_steps_good (suc n) h = wrap_step_good kek hk (suc n) (wrap_steps_good n h)

  pub unwrap_steps_good : (n : ℕ) {r : Register} → Good r → Good (unwrap_steps (schedule kek) n r)
  unfolding unwrap_steps
  unwrap_steps_good zero h = h
  unwrap_steps_good (suc n) h = unwrap_steps_good n (unwrap_step_good kek hk (suc n) h)

  pub unwrap_steps-wrap_steps : (n : ℕ) {r : Register} → Good r → unwrap_steps (schedule kek) n (wrap_steps (schedule kek) n r) ≡ r
  unfolding wrap_steps unwrap_steps
  unwrap_steps-wrap_steps zero h = refl
  unwrap_steps-wrap_steps (suc n) h =
      ap (unwrap_steps (schedule kek) n) (unwrap_step-wrap_step kek hk (suc n) (wrap_steps_good n h)) ∙ unwrap_steps-wrap_steps n h

  pub wrap_steps-unwrap_steps : (n : ℕ) {r : Register} → Good r → wrap_steps (schedule kek) n (unwrap_steps (schedule kek) n r) ≡ r
  unfolding wrap_steps unwrap_steps
  wrap_steps-unwrap_steps zero h = refl
  wrap_steps-unwrap_steps (suc n) h =
      ap (wrap_step (schedule kek) (suc n)) (wrap_steps-unwrap_steps n (unwrap_step_good kek hk (suc n) h)) ∙ wrap_step-unwrap_step kek hk (suc n) h
