-- GCM's two directions fit each other, and so it is lawful.
-- Assumes nothing.
use mathlib.Core.Path.{◌≡◌, refl, sym, ap, ◌∙◌}
use mathlib.Core.Bool.{true}
use mathlib.Core.Logic.{◌↔◌}
use mathlib.Core.List.{List}
use Prim.Native.Nat.{ℕ}
use Rattle.aes.specs.Cipher.{cipher}
use Rattle.aes.specs.KeyExpansion.{schedule}
use Rattle.aes.proofs.Laws.{cipher-length, cipher_bytes}
use Rattle.modes.specs.Gcm.{gcm_text, gcm_tag, gcm_tag_right, gcm}
use Rattle.modes.specs.Laws.{Lawful}
use Rattle.modes.proofs.GcmTagged.{length-gcm_text, bytes-gcm_text, length-gcm_tag, gcm_text_twice}
use Rattle.modes.proofs.BothWays.{Fitting, same_exactly, fitting_lawful}

opened : (key iv s : List ℕ) → gcm_text (cipher (schedule key)) iv (gcm_text (cipher (schedule key)) iv s) ≡ s
opened key iv s = gcm_text_twice (cipher (schedule key)) (cipher-length (schedule key)) iv s

-- the tag is of the ciphertext, which the plaintext gives back
right_exactly : (key iv a c t : List ℕ) → (gcm.authentic key iv a c t ≡ true) ↔ (gcm.tag key iv a (gcm.plaintext key iv c) ≡ t)
unfolding gcm_tag_right
right_exactly key iv a c t = (λ h. again ∙ exactly.0 h, λ h. exactly.1 (sym again ∙ h))
  where
    tagged : List ℕ → List ℕ
    tagged c = gcm_tag (cipher (schedule key)) iv a c

    again : gcm.tag key iv a (gcm.plaintext key iv c) ≡ tagged c
    again = ap tagged (opened key iv c)

    exactly : (gcm.authentic key iv a c t ≡ true) ↔ (tagged c ≡ t)
    exactly = same_exactly (gcm.authentic key iv a c t) t (tagged c) refl

pub gcm_fitting : Fitting gcm
gcm_fitting =
    record {
      ciphertext-length = λ key iv p keyed any. length-gcm_text (cipher (schedule key)) (cipher-length (schedule key)) iv p;
      plaintext-length = λ key iv c keyed any. length-gcm_text (cipher (schedule key)) (cipher-length (schedule key)) iv c;
      plaintext_bytes =
          λ key iv c keyed any.
          bytes-gcm_text (cipher (schedule key)) (cipher-length (schedule key)) iv (λ (x : List ℕ). cipher_bytes key x keyed.key-bytes) keyed.iv_bytes;
      tag-length = λ key iv a p keyed any. length-gcm_tag (cipher (schedule key)) (cipher-length (schedule key)) iv a (gcm_text (cipher (schedule key)) iv p);
      opens = λ key iv p keyed any bytes. opened key iv p;
      seals = λ key iv c keyed any bytes. opened key iv c;
      authentic_exactly = λ key iv a c t keyed any bytes size. right_exactly key iv a c t;
    }

pub gcm_lawful : Lawful gcm
gcm_lawful = fitting_lawful gcm gcm_fitting
