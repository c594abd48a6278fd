-- Unwrapping and wrapping, whole: a key that wraps to w is what unwrapping w ends with, and what it ends with after the start value wraps to w.
-- Assumes nothing.
use mathlib.Core.Path.{◌≡◌, refl, sym, ap, ◌∙◌}
use mathlib.Core.Bool.{true}
use mathlib.Core.List.{List, [], ◌∷◌}
use Prim.Native.Nat.{ℕ}
use native.Mathlib.Omega.{arith}
use lib.Dec.{lit<}
use lib.ListN.{length, get_or, drop}
use Rattle.octets.specs.Bytes.{Bytes}
use Rattle.octets.specs.Same.{same}
use Rattle.octets.proofs.Bytes.{bytes_nil, bytes-values}
use Rattle.octets.proofs.Same.{same_equal, same_refl}
use Rattle.aes.specs.KeyExpansion.{schedule}
use Rattle.keywrap.specs.Wrap.{Register, start_value, parts, register_bytes, wrap_steps, wrapped, unwrap_steps, unwrapped, start_right, unwrapped_key}
use Rattle.keywrap.specs.Laws.{WrapsTo}
use Rattle.keywrap.proofs.Parts.{each_cons, each_tail, length-register_bytes, bytes-register_bytes, parts_eight, parts_bytes, parts-register_bytes, register_bytes_four, register_bytes_five}
use Rattle.keywrap.proofs.Inverse.{Formed, Good, wrap_steps_good, unwrap_steps_good, unwrap_steps-wrap_steps, wrap_steps-unwrap_steps}

-- ---- the registers that the two start from

pub begin_formed : (key : List ℕ) → Formed (start_value ∷ parts 4 key)
begin_formed key = record { five = refl; eight = each_cons refl (parts_eight 4 key) }

pub begin_good : (key : List ℕ) → Bytes key → Good (start_value ∷ parts 4 key)
begin_good key h = record { formed = begin_formed key; bytes = each_cons (bytes-values (λ k. 0xa6) 0 8 (λ k. lit< tt)) (parts_bytes 4 h) }

wrapped_good : (w : List ℕ) → Bytes w → Good (parts 5 w)
wrapped_good w h = record { formed = record { five = refl; eight = parts_eight 5 w }; bytes = parts_bytes 5 h }

-- ---- a key that wraps to w is what unwrapping w ends with

module _ (kek : List ℕ) (hk : Bytes kek) where
  unwrapped_of : (k w : List ℕ) → WrapsTo kek k w → unwrapped kek w ≡ start_value ∷ parts 4 k
  unfolding wrapped unwrapped
  unwrapped_of k w h =
      let good = wrap_steps_good kek hk 24 (begin_good k h.bytes) in
      rw (← h.wraps) (ap (unwrap_steps (schedule kek) 24) (five-parts _ good.formed) ∙ unwrap_steps-wrap_steps kek hk 24 (begin_good k h.bytes))
    where
      five-parts : (r : Register) → Formed r → parts 5 (register_bytes r) ≡ r
      five-parts r f = ap (λ (n : ℕ). parts n (register_bytes r)) (sym f.five) ∙ parts-register_bytes f.eight

  pub unwrapped_key_of : (k w : List ℕ) → WrapsTo kek k w → unwrapped_key kek w ≡ k
  unfolding unwrapped_key
  unwrapped_key_of k w h = ap (λ (r : Register). register_bytes (drop 1 r)) (unwrapped_of k w h) ∙ register_bytes_four k h.size

  pub start_right_of : (k w : List ℕ) → WrapsTo kek k w → start_right kek w ≡ true
  unfolding start_right
  start_right_of k w h = ap (λ (r : Register). same (get_or r 0 []) start_value) (unwrapped_of k w h) ∙ same_refl start_value

  -- ---- and where it ends with the start value, the rest wraps to w

  module _ (w : List ℕ) (long : length w ≡ 40) (hw : Bytes w) where
    unwrapped_good : Good (unwrapped kek w)
    unfolding unwrapped
    unwrapped_good = unwrap_steps_good kek hk 24 (wrapped_good w hw)

    pub unwrapped_key_size : length (unwrapped_key kek w) ≡ 32
    unfolding unwrapped_key
    unwrapped_key_size = go (unwrapped kek w) unwrapped_good
      where
        go : (u : Register) → Good u → length (register_bytes (drop 1 u)) ≡ 32
        go [] g = absurd (omega (arith, g.formed.five))
        go (a ∷ s) g = length-register_bytes (each_tail g.formed.eight) ∙ omega (arith, g.formed.five)

    unwrapped_key_bytes : Bytes (unwrapped_key kek w)
    unfolding unwrapped_key
    unwrapped_key_bytes = go (unwrapped kek w) unwrapped_good
      where
        go : (u : Register) → Good u → Bytes (register_bytes (drop 1 u))
        go [] g = bytes_nil
        go (a ∷ s) g = bytes-register_bytes (each_tail g.bytes)

    rewraps : start_right kek w ≡ true → wrapped kek (unwrapped_key kek w) ≡ w
    unfolding start_right unwrapped_key wrapped unwrapped
    rewraps start =
        ap (λ (r : Register). register_bytes (wrap_steps (schedule kek) 24 r)) (again (unwrapped kek w) unwrapped_good (same_equal _ start_value start))
        ∙ ap register_bytes (wrap_steps-unwrap_steps kek hk 24 (wrapped_good w hw))
        ∙ register_bytes_five w long
      where
        again : (u : Register) → Good u → get_or u 0 [] ≡ start_value → start_value ∷ parts 4 (register_bytes (drop 1 u)) ≡ u
        again [] g e = absurd (omega (arith, g.formed.five))
        again (a ∷ s) g e =
            let four : length s ≡ 4 = omega (arith, g.formed.five) in
            rw (← e) (ap (λ (r : Register). a ∷ r) (ap (λ (n : ℕ). parts n (register_bytes s)) (sym four) ∙ parts-register_bytes (each_tail g.formed.eight)))

    pub key_wraps : start_right kek w ≡ true → WrapsTo kek (unwrapped_key kek w) w
    key_wraps start = record { size = unwrapped_key_size; bytes = unwrapped_key_bytes; wraps = rewraps start }
