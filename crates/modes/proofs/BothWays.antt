-- Decryption undoes encryption, both ways, for every mode whose two directions fit each other: the laws of specs/Laws.antt, of any such mode.
-- Assumes nothing.
use mathlib.Core.Path.{◌≡◌, refl, sym, ap, ap₂, subst, ◌∙◌}
use mathlib.Core.Bool.{Bool, true, false}
use mathlib.Core.Logic.{◌↔◌}
use mathlib.Core.List.{List, ◌++◌}
use Prim.Native.Nat.{ℕ, ◌+◌}
use native.Mathlib.Omega.{arith}
use borrow.Author.Tests.{le-ltb}
use lib.ListN.{length, take, drop, length-append}
use lib.Seq.{take_at, drop_at}
use Rattle.octets.specs.Bytes.{Bytes}
use Rattle.octets.specs.Same.{same}
use Rattle.octets.specs.Lent.{lowest, over, answer}
use Rattle.octets.proofs.Same.{same_equal, same_refl}
use Rattle.octets.proofs.Lent.{over_injective, one_answer}
use Rattle.octets.proofs.Unique.{unique}
use Rattle.modes.specs.Mode.{Mode}
use Rattle.modes.specs.Calls.{authentic_tests, encrypt_answer, decrypt_number, decrypt_answer, verify_number}
use Rattle.modes.specs.Laws.{Keyed, EncryptsTo, DecryptInRange, DecryptsTo, DecryptsExactly, AtMostOnePlaintext, DecryptElseNine, SealedLength, EncryptsInRange, VerifyAsDecrypting, Lawful}
use Rattle.modes.proofs.Numbers.{wrong_sizes_right, arguments-pass, encrypt-done, opened_wrong, opened_right, decrypt_in_range}

-- how a mode's two directions fit: for every key and IV, and every text of a length that it permits, the plaintext undoes the ciphertext and back,
-- and a tag is authentic exactly where it is the tag
pub record Fitting (m : Mode) : Type 0 where
  pub ciphertext-length : (key iv p : List ℕ) → Keyed m key iv → m.permits (length p) ≡ true → length (m.ciphertext key iv p) ≡ length p
  pub plaintext-length : (key iv c : List ℕ) → Keyed m key iv → m.permits (length c) ≡ true → length (m.plaintext key iv c) ≡ length c
  pub plaintext_bytes : (key iv c : List ℕ) → Keyed m key iv → m.permits (length c) ≡ true → Bytes c → Bytes (m.plaintext key iv c)
  pub tag-length : (key iv a p : List ℕ) → Keyed m key iv → m.permits (length p) ≡ true → length (m.tag key iv a p) ≡ m.tag_size
  pub opens : (key iv p : List ℕ) → Keyed m key iv → m.permits (length p) ≡ true → Bytes p → m.plaintext key iv (m.ciphertext key iv p) ≡ p
  pub seals : (key iv c : List ℕ) → Keyed m key iv → m.permits (length c) ≡ true → Bytes c → m.ciphertext key iv (m.plaintext key iv c) ≡ c
  pub authentic_exactly : (key iv a c t : List ℕ) → Keyed m key iv → m.permits (length c) ≡ true → Bytes c → length t ≡ m.tag_size
      → (m.authentic key iv a c t ≡ true) ↔ (m.tag key iv a (m.plaintext key iv c) ≡ t)

-- a test that is `same` of two strings
pub same_exactly : (r : Bool) (s t : List ℕ) → r ≡ same s t → (r ≡ true) ↔ (t ≡ s)
same_exactly r s t e = (λ h. sym (same_equal s t (sym e ∙ h)), λ h. e ∙ ap (same s) h ∙ same_refl s)

-- ---- strings

-- two strings whose ends are as long
append_apart : (a b c d : List ℕ) → length b ≡ length d → a ++ b ≡ c ++ d → (a ≡ c) × (b ≡ d)
append_apart a b c d size e = (
  sym (take_at a b (length c) fronts) ∙ ap (take (length c)) e ∙ take_at c d (length c) refl,
  sym (drop_at a b (length c) fronts) ∙ ap (drop (length c)) e ∙ drop_at c d (length c) refl,
)
  where
    fronts : length a ≡ length c
    fronts = omega (arith, length-append a b, length-append c d, ap length e)

zero-not_nine : {A : Type 0} {x y : A} → ◌≡◌ {A = ℕ × A} (9, x) (0, y) → ⊥
zero-not_nine {A} e = let z : ◌≡◌ {A = ℕ} 9 0 = ap (λ (u : ℕ × A). u.0) e in omega arith

-- ---- a mode that fits

module _ (m : Mode) (fit : Fitting m) where
  permits_size : (s t : List ℕ) → length s ≡ length t → m.permits (length t) ≡ true → m.permits (length s) ≡ true
  permits_size s t e h = ap m.permits e ∙ h

  module _ (key iv a b c t out : List ℕ) (inside : DecryptInRange m key iv a b c t out) where
    decided : decrypt_answer m key iv a b c t out ≡ answer (lowest (authentic_tests (m.authentic key iv (a ++ b) c t))) (m.plaintext key iv c) out
    decided =
        decrypt_in_range m key iv a b c t out inside.keyed.key_size inside.keyed.iv-size inside.permitted inside.tag-size
        inside.data_fits inside.text_fits inside.room

    answers_nine : m.authentic key iv (a ++ b) c t ≡ false → decrypt_answer m key iv a b c t out ≡ (9, out)
    answers_nine e = decided ∙ opened_wrong (m.authentic key iv (a ++ b) c t) (m.plaintext key iv c) out e

    answers-zero : m.authentic key iv (a ++ b) c t ≡ true → decrypt_answer m key iv a b c t out ≡ (0, over (m.plaintext key iv c) out)
    answers-zero e = decided ∙ opened_right (m.authentic key iv (a ++ b) c t) (m.plaintext key iv c) out e

    long : length (m.plaintext key iv c) ≡ length c
    long = fit.plaintext-length key iv c inside.keyed inside.permitted

    -- the plaintext of an authentic tag, encrypted
    seals_back : m.authentic key iv (a ++ b) c t ≡ true → EncryptsTo m key iv (a ++ b) (m.plaintext key iv c) c t
    seals_back e =
        record {
          permitted = permits_size (m.plaintext key iv c) c long inside.permitted;
          bytes = fit.plaintext_bytes key iv c inside.keyed inside.permitted inside.text_bytes;
          makes =
              ap₂ (λ (x y : List ℕ). x ++ y) (fit.seals key iv c inside.keyed inside.permitted inside.text_bytes)
              ((fit.authentic_exactly key iv (a ++ b) c t inside.keyed inside.permitted inside.text_bytes inside.tag-size).0 e);
        }

    forth : (p : List ℕ) → DecryptsTo m key iv a b c t out p → EncryptsTo m key iv (a ++ b) p c t
    forth p d = go (m.authentic key iv (a ++ b) c t) refl
      where
        go : (r : Bool) → m.authentic key iv (a ++ b) c t ≡ r → EncryptsTo m key iv (a ++ b) p c t
        go true e =
            subst (λ (s : List ℕ). EncryptsTo m key iv (a ++ b) s c t)
            (over_injective (m.plaintext key iv c) p out (long ∙ sym d.size) (omega (arith, d.size, inside.room))
            (ap (λ (u : ℕ × List ℕ). u.1) (one_answer (answers-zero e) d.answers)))
            (seals_back e)
        go false e = absurd (zero-not_nine (one_answer (answers_nine e) d.answers))

    back : (p : List ℕ) → EncryptsTo m key iv (a ++ b) p c t → DecryptsTo m key iv a b c t out p
    back p e = record { size = sized; answers = answers-zero right ∙ ap (λ (s : List ℕ). (0, over s out)) opened }
      where
        parts : (m.ciphertext key iv p ≡ c) × (m.tag key iv (a ++ b) p ≡ t)
        parts =
            append_apart (m.ciphertext key iv p) (m.tag key iv (a ++ b) p) c t
            (fit.tag-length key iv (a ++ b) p inside.keyed e.permitted ∙ sym inside.tag-size) e.makes

        sized : length p ≡ length c
        sized = sym (fit.ciphertext-length key iv p inside.keyed e.permitted) ∙ ap length parts.0

        opened : m.plaintext key iv c ≡ p
        opened = ap (m.plaintext key iv) (sym parts.0) ∙ fit.opens key iv p inside.keyed e.permitted e.bytes

        right : m.authentic key iv (a ++ b) c t ≡ true
        right =
            (fit.authentic_exactly key iv (a ++ b) c t inside.keyed inside.permitted inside.text_bytes inside.tag-size).1
            (ap (m.tag key iv (a ++ b)) opened ∙ parts.1)

  decrypts_exactly : DecryptsExactly m
  decrypts_exactly key iv a b c t out p inside = (forth key iv a b c t out inside p, back key iv a b c t out inside p)

  one_plaintext : AtMostOnePlaintext m
  one_plaintext key iv a p p' c t keyed e e' =
      sym (fit.opens key iv p keyed e.permitted e.bytes)
      ∙ ap (m.plaintext key iv)
      (append_apart _ _ _ _ (fit.tag-length key iv a p keyed e.permitted ∙ sym (fit.tag-length key iv a p' keyed e'.permitted)) (e.makes ∙ sym e'.makes)).0
      ∙ fit.opens key iv p' keyed e'.permitted e'.bytes

  else_nine : DecryptElseNine m
  else_nine key iv a b c t out inside none = go (m.authentic key iv (a ++ b) c t) refl
    where
      go : (r : Bool) → m.authentic key iv (a ++ b) c t ≡ r → decrypt_answer m key iv a b c t out ≡ (9, out)
      go true e = absurd (none (m.plaintext key iv c) (seals_back key iv a b c t out inside e))
      go false e = answers_nine key iv a b c t out inside e

  sealed-length : SealedLength m
  sealed-length key iv a p keyed permitted =
      length-append (m.ciphertext key iv p) (m.tag key iv a p)
      ∙ ap₂ ◌+◌ (fit.ciphertext-length key iv p keyed permitted) (fit.tag-length key iv a p keyed permitted)

  encrypts_in_range : EncryptsInRange m
  encrypts_in_range key iv a b p out key_size iv-size permitted data_fits text_fits room =
      encrypt-done m key iv a b p out
      (sym (arguments-pass _ a b p (length p + m.tag_size) (length out) (wrong_sizes_right m key iv p key_size iv-size permitted) data_fits text_fits room))

  verify_as_decrypting : VerifyAsDecrypting m
  unfolding decrypt_answer decrypt_number
  verify_as_decrypting key iv a b c t out room = rw (le-ltb (length out) (length c) room, le-ltb (length c) (length c) (omega arith))

  pub fitting_lawful : Lawful m
  fitting_lawful =
      record {
        decrypts_exactly = decrypts_exactly;
        one_plaintext = one_plaintext;
        else_nine = else_nine;
        sealed-length = sealed-length;
        encrypts_in_range = encrypts_in_range;
        verify_as_decrypting = verify_as_decrypting;
        encrypt_unique = λ key iv a b p out. unique (encrypt_answer m key iv a b p out);
        decrypt_unique = λ key iv a b c t out. unique (decrypt_answer m key iv a b c t out);
        verify_unique = λ key iv a b c t. unique (verify_number m key iv a b c t);
        encrypt_tests_rise = λ key iv a b p room. refl;
        decrypt_tests_rise = λ key iv a b c t room. refl;
      }
