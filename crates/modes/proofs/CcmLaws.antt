-- CCM's two directions fit each other, and so it is lawful.
-- Assumes nothing.
use mathlib.Core.List.{List}
use Prim.Native.Nat.{ℕ}
use Rattle.aes.specs.Cipher.{cipher}
use Rattle.aes.specs.KeyExpansion.{schedule}
use Rattle.aes.proofs.Laws.{cipher-length, cipher_bytes}
use Rattle.modes.specs.Ccm.{ccm}
use Rattle.modes.specs.Laws.{Lawful}
use Rattle.modes.proofs.CcmFormat.{length-ccm_text, bytes-ccm_text, ccm_text_twice, length-ccm_tag, ccm_tag_right-same}
use Rattle.modes.proofs.BothWays.{Fitting, same_exactly, fitting_lawful}

pub ccm_fitting : Fitting ccm
ccm_fitting =
    record {
      ciphertext-length = λ key iv p keyed any. length-ccm_text (cipher (schedule key)) (cipher-length (schedule key)) iv p;
      plaintext-length = λ key iv c keyed any. length-ccm_text (cipher (schedule key)) (cipher-length (schedule key)) iv c;
      plaintext_bytes =
          λ key iv c keyed any.
          bytes-ccm_text (cipher (schedule key)) (cipher-length (schedule key)) iv (λ (x : List ℕ). cipher_bytes key x keyed.key-bytes) keyed.iv_bytes;
      tag-length = λ key iv a p keyed any. length-ccm_tag (cipher (schedule key)) (cipher-length (schedule key)) iv a p;
      opens = λ key iv p keyed any bytes. ccm_text_twice (cipher (schedule key)) (cipher-length (schedule key)) iv p;
      seals = λ key iv c keyed any bytes. ccm_text_twice (cipher (schedule key)) (cipher-length (schedule key)) iv c;
      authentic_exactly =
          λ key iv a c t keyed any bytes size.
          same_exactly _ t _ (ccm_tag_right-same (cipher (schedule key)) (cipher-length (schedule key)) iv a c t size);
    }

pub ccm_lawful : Lawful ccm
ccm_lawful = fitting_lawful ccm ccm_fitting
