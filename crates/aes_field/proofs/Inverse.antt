-- The field's inverse, the affine map, and the S-box with its inverse: each undoes what it should, on all bytes. One computed test goes over the
-- table of the inverses, so that each is worked out once.
-- Assumes nothing.
use mathlib.Core.Path.{◌≡◌, sym, ap, ◌∙◌}
use mathlib.Core.Bool.{Bool, true, ◌&&◌}
use mathlib.Core.List.{List}
use Prim.Native.Nat.{ℕ, ◌<◌}
use native.Mathlib.Omega.{arith}
use borrow.Author.Tests.{eqb-true}
use lib.Dec.{T, eqb}
use lib.ListN.{get_or}
use Rattle.octets.specs.Lent.{when}
use Rattle.octets.proofs.Tests.{and_left, and_right}
use Rattle.aes_field.specs.Field.{xtime, times, inverse, affine, unaffine, sbox, inv_sbox}
use Rattle.aes_field.specs.Tables.{table_of}
use Rattle.aes_field.proofs.Computed.{below, below_at, agree_at}
use Rattle.aes_field.proofs.Tables.{table_of_at}
use Rattle.aes_field.proofs.Linear.{times_byte}

-- of a table: the entry at the entry of k is k, and k times its entry is {01}, or {00} where k is {00}
abbrev back : List ℕ → ℕ → Bool
back t k = eqb (get_or t (get_or t k 0) 0) k

abbrev one : List ℕ → ℕ → Bool
one t k = eqb (times k (get_or t k 0)) (when (eqb k 0) 0 1)

abbrev inverts : List ℕ → Bool
inverts t = below (λ k. back t k && one t k) 256

tested : T (inverts (table_of inverse))
unfolding table_of inverse times xtime
tested = tt

module _ (a : ℕ) (h : a < 256) where
  inverse_byte : inverse a < 256
  unfolding inverse
  inverse_byte = times_byte _ (times_byte a h)

  entry : get_or (table_of inverse) a 0 ≡ inverse a
  entry = table_of_at inverse a h

  test : (back (table_of inverse) a && one (table_of inverse) a) ≡ true
  test = below_at (λ k. back (table_of inverse) k && one (table_of inverse) k) 256 tested a h

module _ (a : ℕ) (h : a < 256) where
  -- 4.4: a byte other than {00} times its inverse is {01}
  pub inverse_is : times a (inverse a) ≡ when (eqb a 0) 0 1
  inverse_is = ap (times a) (sym (entry a h)) ∙ eqb-true _ _ (and_right (back (table_of inverse) a) (one (table_of inverse) a) (test a h))

  inverse-inverse : inverse (inverse a) ≡ a
  inverse-inverse =
      sym (entry (inverse a) (inverse_byte a h)) ∙ ap (λ (x : ℕ). get_or (table_of inverse) x 0) (sym (entry a h))
      ∙ eqb-true _ _ (and_left (back (table_of inverse) a) (one (table_of inverse) a) (test a h))

  affine_byte : affine a < 256
  unfolding affine
  affine_byte = omega arith

  unaffine_byte : unaffine a < 256
  unfolding unaffine
  unaffine_byte = omega arith

  pub unaffine-affine : unaffine (affine a) ≡ a
  unfolding affine unaffine
  unaffine-affine = agree_at (λ x. unaffine (affine x)) (λ x. x) 256 tt a h

  pub affine-unaffine : affine (unaffine a) ≡ a
  unfolding affine unaffine
  affine-unaffine = agree_at (λ x. affine (unaffine x)) (λ x. x) 256 tt a h

module _ (a : ℕ) (h : a < 256) where
  pub sbox_byte : sbox a < 256
  unfolding sbox
  sbox_byte = affine_byte (inverse a) (inverse_byte a h)

  pub inv_sbox_byte : inv_sbox a < 256
  unfolding inv_sbox
  inv_sbox_byte = inverse_byte (unaffine a) (unaffine_byte a h)

  -- the inverse, as it is had from the S-box: one computed test over all bytes
  pub unaffine-sbox : unaffine (sbox a) ≡ inverse a
  unfolding sbox affine unaffine inverse times xtime
  unaffine-sbox = agree_at (λ x. unaffine (sbox x)) inverse 256 tt a h

  pub inv_sbox-sbox : inv_sbox (sbox a) ≡ a
  unfolding inv_sbox
  inv_sbox-sbox = ap inverse unaffine-sbox ∙ inverse-inverse a h

  pub sbox-inv_sbox : sbox (inv_sbox a) ≡ a
  unfolding sbox inv_sbox
  sbox-inv_sbox = ap affine (inverse-inverse (unaffine a) (unaffine_byte a h)) ∙ affine-unaffine a h
