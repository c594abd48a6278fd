-- Decryption undoes encryption, both ways, and each call has one answer: as statements of any mode, which proofs/Laws.antt proves of CCM and of GCM.
-- Assumes nothing.
use Rattle.std.specs.Prelude.{◌≡◌, ◌↔◌, Bool, true, ℕ, ◌+◌, ◌≤◌, List, ◌++◌, length}
use Rattle.octets.specs.Bytes.{Bytes}
use Rattle.octets.specs.Lent.{over}
use Rattle.octets.specs.Lowest.{rises}
use Rattle.octets.specs.Unique.{Unique}
use Rattle.modes.specs.Mode.{Mode, sealed}
use Rattle.modes.specs.Modes.{mode_of}
use Rattle.modes.specs.Counter.{ctr, counter_tests}
use Rattle.modes.specs.Calls.{data_max, text_max, argument_tests, authentic_tests, encrypt_tests, encrypt_answer, decrypt_tests, decrypt_answer, verify_number}

-- counter mode twice gives the string back, whatever the cipher, where each of its blocks has 16 bytes
abbrev pub CounterTwice : Type 0
CounterTwice = (f : List ℕ → List ℕ) → ((x : List ℕ) → length (f x) ≡ 16) → (w : ℕ) (front : List ℕ) (i : ℕ) (s : List ℕ) → ctr f w front i (ctr f w front i s) ≡ s

-- document 01: "The lowest that applies is given, and no other.": the numbers of each list of tests rise
abbrev pub CounterTestsRise : Type 0
CounterTestsRise = (w i n : ℕ) → rises (counter_tests w i n) ≡ true

abbrev pub ArgumentTestsRise : Type 0
ArgumentTestsRise = (wrong : Bool) (a b s : List ℕ) (needed room : ℕ) → rises (argument_tests wrong a b s needed room) ≡ true

abbrev pub AuthenticTestsRise : Type 0
AuthenticTestsRise = (right : Bool) → rises (authentic_tests right) ≡ true

module _ (m : Mode) where
  -- a key and an IV of the mode
  pub record Keyed (key iv : List ℕ) : Type 0 where
    pub key_size : length key ≡ m.key_size_lem
    pub key-bytes : Bytes key
    pub iv-size : length iv ≡ m.iv_size
    pub iv_bytes : Bytes iv

  -- p is bytes of a length that the mode permits, and encrypting it gives c and then t
  pub record EncryptsTo (key iv a p c t : List ℕ) : Type 0 where
    pub permitted : m.permits (length p) ≡ true
    pub bytes : Bytes p
    pub makes : sealed m key iv a p ≡ c ++ t

  -- the lengths that document 01 permits, and room for the plaintext
  pub record DecryptInRange (key iv a b c t out : List ℕ) : Type 0 where
    pub keyed : Keyed key iv
    pub tag-size : length t ≡ m.tag_size
    pub text_bytes : Bytes c
    pub permitted : m.permits (length c) ≡ true
    pub data_fits : length a + length b ≤ data_max
    pub text_fits : length c ≤ text_max
    pub room : length c ≤ length out

  -- decrypting c with the tag t gives p: 0, and p is the bytes, as many as c has, that the output then begins with
  pub record DecryptsTo (key iv a b c t out p : List ℕ) : Type 0 where
    pub size : length p ≡ length c
    pub answers : decrypt_answer m key iv a b c t out ≡ (0, over p out)

  -- exactly when encrypting p gives c and then t
  abbrev pub DecryptsExactly : Type 0
  DecryptsExactly =
      (key iv a b c t out p : List ℕ) → DecryptInRange key iv a b c t out
      → DecryptsTo key iv a b c t out p ↔ EncryptsTo key iv (a ++ b) p c t

  -- at most one p does, stated over encryption alone
  abbrev pub AtMostOnePlaintext : Type 0
  AtMostOnePlaintext = (key iv a p p' c t : List ℕ) → Keyed key iv → EncryptsTo key iv a p c t → EncryptsTo key iv a p' c t → p ≡ p'

  -- where none does, the answer is 9 and the output as it was
  abbrev pub DecryptElseNine : Type 0
  DecryptElseNine =
      (key iv a b c t out : List ℕ) → DecryptInRange key iv a b c t out
      → ((p : List ℕ) → EncryptsTo key iv (a ++ b) p c t → ⊥) → decrypt_answer m key iv a b c t out ≡ (9, out)

  -- what encryption makes is as long as the plaintext and the tag
  abbrev pub SealedLength : Type 0
  SealedLength = (key iv a p : List ℕ) → Keyed key iv → m.permits (length p) ≡ true → length (sealed m key iv a p) ≡ length p + m.tag_size

  -- in range a call answers 0, and gives what the mode makes
  abbrev pub EncryptsInRange : Type 0
  EncryptsInRange =
      (key iv a b p out : List ℕ) → length key ≡ m.key_size_lem → length iv ≡ m.iv_size → m.permits (length p) ≡ true
      → length a + length b ≤ data_max → length p ≤ text_max → length p + m.tag_size ≤ length out
      → encrypt_answer m key iv a b p out ≡ (0, over (sealed m key iv (a ++ b) p) out)

  -- verification gives the number that decryption gives into any output with room for the plaintext
  abbrev pub VerifyAsDecrypting : Type 0
  VerifyAsDecrypting =
      (key iv a b c t out : List ℕ) → length c ≤ length out → verify_number m key iv a b c t ≡ (decrypt_answer m key iv a b c t out).0

  -- for each input one number and one state of the output
  abbrev pub EncryptUnique : Type 0
  EncryptUnique = (key iv a b p out : List ℕ) → Unique (encrypt_answer m key iv a b p out)

  abbrev pub DecryptUnique : Type 0
  DecryptUnique = (key iv a b c t out : List ℕ) → Unique (decrypt_answer m key iv a b c t out)

  abbrev pub VerifyUnique : Type 0
  VerifyUnique = (key iv a b c t : List ℕ) → Unique (verify_number m key iv a b c t)

  abbrev pub EncryptTestsRise : Type 0
  EncryptTestsRise = (key iv a b p : List ℕ) (room : ℕ) → rises (encrypt_tests m key iv a b p room) ≡ true

  abbrev pub DecryptTestsRise : Type 0
  DecryptTestsRise = (key iv a b c t : List ℕ) (room : ℕ) → rises (decrypt_tests m key iv a b c t room) ≡ true

-- all of these of a mode
pub record Lawful (m : Mode) : Type 0 where
  pub decrypts_exactly : DecryptsExactly m
  pub one_plaintext : AtMostOnePlaintext m
  pub else_nine : DecryptElseNine m
  pub sealed-length : SealedLength m
  pub encrypts_in_range : EncryptsInRange m
  pub verify_as_decrypting : VerifyAsDecrypting m
  pub encrypt_unique : EncryptUnique m
  pub decrypt_unique : DecryptUnique m
  pub verify_unique : VerifyUnique m
  pub encrypt_tests_rise : EncryptTestsRise m
  pub decrypt_tests_rise : DecryptTestsRise m

-- of the mode that a byte names; and that mode permits a plaintext of every length
abbrev pub ModesLawful : Type 0
ModesLawful = (u : ℕ) → Lawful (mode_of u)

abbrev pub ModesPermit : Type 0
ModesPermit = (u n : ℕ) → (mode_of u).permits n ≡ true
