-- The numbers of a mode called by itself, for any mode: what the arguments alone decide, what passing their tests says of the lengths, and the answer then.
-- Assumes nothing.
use mathlib.Core.Path.{◌≡◌, refl, sym, ap, ap₂, ◌∙◌}
use mathlib.Core.Bool.{Bool, true, false}
use mathlib.Core.List.{List, ◌++◌}
use Prim.Native.Nat.{ℕ, ◌+◌, ◌≤◌}
use borrow.Author.Tests.{ltb-false, eq-eqb, ne_eqb, le-ltb}
use lib.Dec.{ltb}
use lib.ListN.{length}
use Rattle.octets.specs.Lent.{lowest, over, answer}
use Rattle.octets.proofs.Tests.{or_left, or_right}
use Rattle.octets.proofs.Lent.{is_not_right, answer-refused, none_applies}
use Rattle.octets.proofs.Lowest.{lowest-refused, lowest_passed}
use Rattle.refusals.specs.Numbers.{number_of}
use Rattle.refusals.specs.declared.Refusal.{Refusal}
use Rattle.refusals.proofs.Laws.{not_zero}
use Rattle.modes.specs.Mode.{Mode, sealed}
use Rattle.modes.specs.Calls.{data_max, text_max, wrong_sizes, wrong_opening, too_long, argument_tests, authentic_tests, tag_decides}
use Rattle.modes.specs.Calls.{encrypt_tests, encrypt_number, encrypt_answer, decrypt_number, decrypt_answer, verify_number}

-- ---- a refusal, or none, that is handed on with the output after it

module _ (s out : List ℕ) {m : ℕ} where
  pub answer_refusal : (e : Refusal) → number_of e ≡ m → answer m s out ≡ (number_of e, out)
  answer_refusal e is = rw (← is) (answer-refused (number_of e) s out (ne_eqb (number_of e) 0 (λ z. not_zero e (sym z))))

  pub answer_passed : {x : ℕ × List ℕ} → 0 ≡ m → answer 0 s out ≡ x → answer m s out ≡ x
  answer_passed none e = ap (λ (k : ℕ). answer k s out) (sym none) ∙ e

-- ---- the arguments: what passing their tests says, and what passes them

pub wrong_sizes_right : (m : Mode) (key iv s : List ℕ) → length key ≡ m.key_size_lem → length iv ≡ m.iv_size → m.permits (length s) ≡ true → wrong_sizes m key iv s ≡ false
wrong_sizes_right m key iv s ek ev es = rw (es, eq-eqb (length key) m.key_size_lem ek, eq-eqb (length iv) m.iv_size ev)

module _ (wrong : Bool) (a b s : List ℕ) (needed room : ℕ) where
  pub record Passed : Type 0 where
    pub sizes : wrong ≡ false
    pub data_fits : length a + length b ≤ data_max
    pub text_fits : length s ≤ text_max
    pub room_fits : needed ≤ room

  pub arguments_passed : lowest (argument_tests wrong a b s needed room) ≡ 0 → Passed
  arguments_passed none =
      record {
        sizes = none_applies (argument_tests wrong a b s needed room) 0 refl none;
        data_fits = ltb-false data_max (length a + length b) (or_left (ltb data_max (length a + length b)) (ltb text_max (length s)) short);
        text_fits = ltb-false text_max (length s) (or_right (ltb data_max (length a + length b)) (ltb text_max (length s)) short);
        room_fits = ltb-false room needed (none_applies (argument_tests wrong a b s needed room) 2 refl none);
      }
    where
      short : too_long a b s ≡ false
      short = none_applies (argument_tests wrong a b s needed room) 1 refl none

  pub arguments-pass : wrong ≡ false → length a + length b ≤ data_max → length s ≤ text_max → needed ≤ room → lowest (argument_tests wrong a b s needed room) ≡ 0
  arguments-pass sizes ha hs hr = rw (sizes, le-ltb data_max (length a + length b) ha, le-ltb text_max (length s) hs, le-ltb room needed hr)

-- ---- encryption

module _ (m : Mode) (key iv a b p out : List ℕ) where
  -- the number as the code finds it
  pub encrypt_tested : {wrong : Bool} {more n : ℕ} → wrong ≡ wrong_sizes m key iv p → more ≡ m.tag_size
      → n ≡ lowest (argument_tests wrong a b p (length p + more) (length out)) → n ≡ lowest (encrypt_tests m key iv a b p (length out))
  encrypt_tested ew em e = e ∙ ap₂ (λ (w : Bool) (k : ℕ). lowest (argument_tests w a b p (length p + k) (length out))) ew em

  pub encrypt-refused : (e : Refusal) → number_of e ≡ lowest (encrypt_tests m key iv a b p (length out)) → encrypt_answer m key iv a b p out ≡ (number_of e, out)
  unfolding encrypt_answer encrypt_number
  encrypt-refused = answer_refusal (sealed m key iv (a ++ b) p) out

  pub encrypt-done : 0 ≡ lowest (encrypt_tests m key iv a b p (length out)) → encrypt_answer m key iv a b p out ≡ answer 0 (sealed m key iv (a ++ b) p) out
  unfolding encrypt_answer encrypt_number
  encrypt-done none = answer_passed (sealed m key iv (a ++ b) p) out none refl

-- ---- decryption

module _ (m : Mode) (key iv a b c t out : List ℕ) where
  abbrev wrong_any : Bool
  wrong_any = wrong_opening m key iv c t

  -- a refusal by the arguments is the call's, into room of n bytes; and where they are passed the tag decides
  module _ (n : ℕ) where
    tests_refused : (e : Refusal) → number_of e ≡ lowest (argument_tests wrong_any a b c (length c) n) → number_of e ≡ decrypt_number m key iv a b c t n
    unfolding decrypt_number
    tests_refused e tested =
        tested
        ∙ sym (lowest-refused (argument_tests wrong_any a b c (length c) n) (authentic_tests (m.authentic key iv (a ++ b) c t)) refl (λ z. not_zero e (sym (tested ∙ z))))

    tests_passed : 0 ≡ lowest (argument_tests wrong_any a b c (length c) n) → decrypt_number m key iv a b c t n ≡ tag_decides (m.authentic key iv (a ++ b) c t)
    unfolding decrypt_number
    tests_passed none = lowest_passed (argument_tests wrong_any a b c (length c) n) (authentic_tests (m.authentic key iv (a ++ b) c t)) refl (sym none)

  pub decrypt-refused : (e : Refusal) → number_of e ≡ lowest (argument_tests wrong_any a b c (length c) (length out)) → decrypt_answer m key iv a b c t out ≡ (number_of e, out)
  unfolding decrypt_answer
  decrypt-refused e tested = answer_refusal (m.plaintext key iv c) out e (tests_refused (length out) e tested)

  pub decrypt-done : 0 ≡ lowest (argument_tests wrong_any a b c (length c) (length out))
      → decrypt_answer m key iv a b c t out ≡ answer (tag_decides (m.authentic key iv (a ++ b) c t)) (m.plaintext key iv c) out
  unfolding decrypt_answer
  decrypt-done none = ap (λ (k : ℕ). answer k (m.plaintext key iv c) out) (tests_passed (length out) none)

  -- into room as long as the ciphertext, the number by itself
  pub verify-refused : (e : Refusal) → number_of e ≡ lowest (argument_tests wrong_any a b c (length c) (length c)) → number_of e ≡ verify_number m key iv a b c t
  verify-refused = tests_refused (length c)

  pub verify-done : {x : ℕ} → 0 ≡ lowest (argument_tests wrong_any a b c (length c) (length c)) → x ≡ tag_decides (m.authentic key iv (a ++ b) c t)
      → x ≡ verify_number m key iv a b c t
  verify-done none is = is ∙ sym (tests_passed (length c) none)

  -- in range
  pub decrypt_in_range : length key ≡ m.key_size_lem → length iv ≡ m.iv_size → m.permits (length c) ≡ true → length t ≡ m.tag_size
      → length a + length b ≤ data_max → length c ≤ text_max → length c ≤ length out
      → decrypt_answer m key iv a b c t out ≡ answer (lowest (authentic_tests (m.authentic key iv (a ++ b) c t))) (m.plaintext key iv c) out
  decrypt_in_range key_size iv-size permitted tag-size data-short text_short fits =
      decrypt-done (sym (arguments-pass wrong_any a b c (length c) (length out) right data-short text_short fits))
    where
      right : wrong_any ≡ false
      right = rw (wrong_sizes_right m key iv c key_size iv-size permitted, is_not_right m.tag_size t tag-size)

-- ---- 9, or 0 with the plaintext

module _ (right : Bool) (s out : List ℕ) where
  pub opened_wrong : right ≡ false → answer (lowest (authentic_tests right)) s out ≡ (9, out)
  opened_wrong e = rw e

  pub opened_right : right ≡ true → answer (lowest (authentic_tests right)) s out ≡ (0, over s out)
  opened_right e = rw e
