-- NIST, AES Key Wrap Specification (16 November 2001), section 2.2, index-based, for a key of 32 bytes: n = 4 parts of eight bytes each.
-- A register is a list of five parts of eight bytes: A, then R[1] to R[4].
-- Assumes nothing.
use Rattle.std.specs.Prelude.{ℕ, zero, suc, ◌-◌, ◌*◌, ◌%◌, Bool, List, [], ◌∷◌, ◌++◌, get_or, set, take, drop, replicate}
use Rattle.octets.specs.Values.{values, bytes_at}
use Rattle.octets.specs.BigEndian.{be}
use Rattle.octets.specs.Xor.{xors}
use Rattle.octets.specs.Same.{same}
use Rattle.aes.specs.State.{State}
use Rattle.aes.specs.Cipher.{cipher}
use Rattle.aes.specs.KeyExpansion.{schedule}
use Rattle.aes.specs.InvCipher.{inv_cipher}

abbrev pub Register : Type 0
Register = List (List ℕ)

-- 2.2.3.1: the initial value, the eight bytes A6 A6 A6 A6 A6 A6 A6 A6
abbrev pub start_value : List ℕ
start_value = replicate 8 0xa6

-- the parts of eight bytes of a string, n of them, and the string that a register's parts make
abbrev pub parts : ℕ → List ℕ → Register
parts n s = values (λ i. bytes_at 8 s (8 * i)) 0 n

abbrev pub register_bytes : Register → List ℕ
register_bytes [] = []
register_bytes (p ∷ r) = p ++ register_bytes r

-- step t, from 1 to 24, is t = n * j + i of the specification, and works on R[i]
abbrev pub part_at : ℕ → ℕ
part_at t = suc ((t - 1) % 4)

-- 2.2.1, step 2: B = AES(K, A | R[i]); A = MSB(64, B) ^ t; R[i] = LSB(64, B)
unfoldable pub wrap_step : List State → ℕ → Register → Register
wrap_step ks t r =
    let b : List ℕ = cipher ks (get_or r 0 [] ++ get_or r (part_at t) []) in
    set (set r 0 (xors (take 8 b) (be 8 t))) (part_at t) (drop 8 b)

-- steps 1 to n
unfoldable pub wrap_steps : List State → ℕ → Register → Register
wrap_steps ks zero r = r
wrap_steps ks (suc n) r = wrap_step ks (suc n) (wrap_steps ks n r)

-- 2.2.1
unfoldable pub wrapped : List ℕ → List ℕ → List ℕ
wrapped kek key = register_bytes (wrap_steps (schedule kek) 24 (start_value ∷ parts 4 key))

-- 2.2.2, step 2: B = AES-1(K, (A ^ t) | R[i]); A = MSB(64, B); R[i] = LSB(64, B)
unfoldable pub unwrap_step : List State → ℕ → Register → Register
unwrap_step ks t r =
    let b : List ℕ = inv_cipher ks (xors (get_or r 0 []) (be 8 t) ++ get_or r (part_at t) []) in
    set (set r 0 (take 8 b)) (part_at t) (drop 8 b)

-- steps n to 1
unfoldable pub unwrap_steps : List State → ℕ → Register → Register
unwrap_steps ks zero r = r
unwrap_steps ks (suc n) r = unwrap_steps ks n (unwrap_step ks (suc n) r)

unfoldable pub unwrapped : List ℕ → List ℕ → Register
unwrapped kek w = unwrap_steps (schedule kek) 24 (parts 5 w)

-- 2.2.2, step 3: the register A is the initial value, and then the key is R[1] to R[4]
unfoldable pub start_right : List ℕ → List ℕ → Bool
start_right kek w = same (get_or (unwrapped kek w) 0 []) start_value

unfoldable pub unwrapped_key : List ℕ → List ℕ → List ℕ
unwrapped_key kek w = register_bytes (drop 1 (unwrapped kek w))
