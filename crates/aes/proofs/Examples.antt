-- Worked examples of FIPS 197 for a 256-bit key, computed from the definitions.
-- Assumes nothing.
use mathlib.Core.Path.{◌≡◌, refl, ap, ◌∙◌}
use mathlib.Core.List.{List, [], ◌∷◌}
use Prim.Native.Nat.{ℕ}
use lib.ListN.{get_or}
use Rattle.aes_field.specs.Field.{xtime, times, inverse, affine, sbox}
use Rattle.aes.specs.State.{State}
use Rattle.aes.specs.Cipher.{cipher, first_rounds, round, last_round}
use Rattle.aes.specs.Cipher.Inside.{cipher_is}
use Rattle.aes.specs.KeyExpansion.{schedule, words, temp, power}
use Rattle.aes.specs.KeyExpansion.Inside.{schedule_is}

abbrev key : List ℕ
key =
    0x00 ∷ 0x01 ∷ 0x02 ∷ 0x03 ∷ 0x04 ∷ 0x05 ∷ 0x06 ∷ 0x07 ∷ 0x08 ∷ 0x09 ∷ 0x0a ∷ 0x0b ∷ 0x0c ∷ 0x0d ∷ 0x0e ∷ 0x0f ∷
    0x10 ∷ 0x11 ∷ 0x12 ∷ 0x13 ∷ 0x14 ∷ 0x15 ∷ 0x16 ∷ 0x17 ∷ 0x18 ∷ 0x19 ∷ 0x1a ∷ 0x1b ∷ 0x1c ∷ 0x1d ∷ 0x1e ∷ 0x1f ∷ []

abbrev plain : List ℕ
plain = 0x00 ∷ 0x11 ∷ 0x22 ∷ 0x33 ∷ 0x44 ∷ 0x55 ∷ 0x66 ∷ 0x77 ∷ 0x88 ∷ 0x99 ∷ 0xaa ∷ 0xbb ∷ 0xcc ∷ 0xdd ∷ 0xee ∷ 0xff ∷ []

abbrev sealed : List ℕ
sealed = 0x8e ∷ 0xa2 ∷ 0xb7 ∷ 0xca ∷ 0x51 ∷ 0x67 ∷ 0x45 ∷ 0xbf ∷ 0xea ∷ 0xfc ∷ 0x49 ∷ 0x90 ∷ 0x4b ∷ 0x49 ∷ 0x60 ∷ 0x89 ∷ []

-- appendix C.3
appendix-C3 : cipher (schedule key) plain ≡ sealed
unfolding first_rounds round last_round words temp power sbox inverse affine times xtime
appendix-C3 = ap (λ (ks : List State). cipher ks plain) (schedule_is key) ∙ cipher_is _ plain

abbrev other_key : List ℕ
other_key =
    0x60 ∷ 0x3d ∷ 0xeb ∷ 0x10 ∷ 0x15 ∷ 0xca ∷ 0x71 ∷ 0xbe ∷ 0x2b ∷ 0x73 ∷ 0xae ∷ 0xf0 ∷ 0x85 ∷ 0x7d ∷ 0x77 ∷ 0x81 ∷
    0x1f ∷ 0x35 ∷ 0x2c ∷ 0x07 ∷ 0x3b ∷ 0x61 ∷ 0x08 ∷ 0xd7 ∷ 0x2d ∷ 0x98 ∷ 0x10 ∷ 0xa3 ∷ 0x09 ∷ 0x14 ∷ 0xdf ∷ 0xf4 ∷ []

-- appendix A.3: the first word that is made, the first after SubWord alone, and the last
appendix-A3_8 : get_or (words other_key 1) 8 [] ≡ 0x9b ∷ 0xa3 ∷ 0x54 ∷ 0x11 ∷ []
unfolding words temp power sbox inverse affine times xtime
appendix-A3_8 = refl

appendix-A3_12 : get_or (words other_key 5) 12 [] ≡ 0xa8 ∷ 0xb0 ∷ 0x9c ∷ 0x1a ∷ []
unfolding words temp power sbox inverse affine times xtime
appendix-A3_12 = refl

appendix-A3_59 : get_or (words other_key 52) 59 [] ≡ 0x70 ∷ 0x6c ∷ 0x63 ∷ 0x1e ∷ []
unfolding words temp power sbox inverse affine times xtime
appendix-A3_59 = refl
