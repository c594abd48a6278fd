-- The text of a line, by what was found in it.
-- Assumes nothing.
use mathlib.Core.Path.{◌≡◌, refl, sym, ap, ◌∙◌}
use mathlib.Core.Bool.{Bool, true, false, and-false}
use mathlib.Core.List.{List, [], ◌∷◌, ◌++◌}
use Prim.Native.Nat.{ℕ, zero, suc, ◌+◌, ◌<◌}
use native.Mathlib.Omega.{arith}
use borrow.Author.Tests.{lt-ltb, eq-eqb, ne_eqb}
use lib.ListN.{length, get_or, take, drop}
use Rattle.octets.specs.Tests.{all}
use Rattle.wording.specs.Lines.{space}
use Rattle.cases.specs.Words.{parts_after, words_of, word_at, some_bytes}
use Rattle.cases.specs.Strings.{is_bytes, bytes_in, is_lent, lent_in}
use Rattle.cases.specs.Calls.{Call, calls, call_count, no_call, call_named}
use Rattle.cases.specs.Line.{answer_text, refused_text, is_comment, words_right, string_at, strings_right, answer_of, asked_text, case_text}

-- ---- the words of a call

module _ (line : List ℕ) (call : ℕ) where
  pub right-none : call ≡ call_count → words_right line call ≡ false
  unfolding words_right
  right-none e = rw e

  pub right-few : (length (parts_after space line) ≡ (get_or calls call no_call).strings + 2 → ⊥) → words_right line call ≡ false
  unfolding words_right
  right-few h = rw (ne_eqb (length (parts_after space line)) ((get_or calls call no_call).strings + 2) h, and-false)

  pub right-empty : all some_bytes (words_of line) ≡ false → words_right line call ≡ false
  unfolding words_right
  right-empty e = rw (e, and-false)

  pub right_all : call < call_count → length (parts_after space line) ≡ (get_or calls call no_call).strings + 2 → all some_bytes (words_of line) ≡ true
      → words_right line call ≡ true
  unfolding words_right
  right_all h e f = rw (lt-ltb call call_count h, eq-eqb (length (parts_after space line)) ((get_or calls call no_call).strings + 2) e, f)

-- ---- its strings, of which the call has n, and what it is lent

module _ (line : List ℕ) (k : Call) {n : ℕ} (strings : n ≡ k.strings) where
  abbrev pub Right : ℕ → Type 0
  Right i = is_bytes (string_at line n i) ≡ true

  abbrev pub Wrong : ℕ → Type 0
  Wrong i = is_bytes (string_at line n i) ≡ false

  pub stop_a : Wrong 0 → strings_right line k ≡ false
  unfolding strings_right
  stop_a a = rw (← strings, a)

  pub stop_b : Right 0 → Wrong 1 → strings_right line k ≡ false
  unfolding strings_right
  stop_b a b = rw (← strings, a, b)

  pub stop_c : Right 0 → Right 1 → Wrong 2 → strings_right line k ≡ false
  unfolding strings_right
  stop_c a b c = rw (← strings, a, b, c)

  pub stop_d : Right 0 → Right 1 → Right 2 → Wrong 3 → strings_right line k ≡ false
  unfolding strings_right
  stop_d a b c d = rw (← strings, a, b, c, d)

  pub stop_e : Right 0 → Right 1 → Right 2 → Right 3 → Wrong 4 → strings_right line k ≡ false
  unfolding strings_right
  stop_e a b c d e = rw (← strings, a, b, c, d, e)

  module _ (a : Right 0) (b : Right 1) (c : Right 2) (d : Right 3) (e : Right 4) {block : Bool} (is_block : block ≡ k.block) where
    pub stop_lent : is_lent block (word_at line (n + 2)) ≡ false → strings_right line k ≡ false
    unfolding strings_right
    stop_lent l = rw (← strings, ← is_block, a, b, c, d, e, l)

    pub all_right : is_lent block (word_at line (n + 2)) ≡ true → strings_right line k ≡ true
    unfolding strings_right
    all_right l = rw (← strings, ← is_block, a, b, c, d, e, l)

  pub answered : {a b c d e l : List ℕ} {x : ℕ × List ℕ} {block : Bool} → block ≡ k.block → a ≡ bytes_in (string_at line n 0) → b ≡ bytes_in (string_at line n 1)
      → c ≡ bytes_in (string_at line n 2) → d ≡ bytes_in (string_at line n 3) → e ≡ bytes_in (string_at line n 4) → l ≡ lent_in block (word_at line (n + 2))
      → k.gives a b c d e l ≡ x → x ≡ answer_of line k
  unfolding answer_of
  answered is_block ea eb ec ed ee el given = sym given ∙ rw (← strings, ← is_block, ea, eb, ec, ed, ee, el)

-- the front of a room, once it was written over
pub take_put : (n : ℕ) (xs ys : List ℕ) → length xs ≡ length (take n ys) → take n (xs ++ drop n ys) ≡ xs
take_put zero [] ys e = refl
take_put zero (x ∷ xs) ys e = absurd (omega arith)
take_put (suc n) [] [] e = refl
take_put (suc n) [] (y ∷ ys) e = absurd (omega arith)
take_put (suc n) (x ∷ xs) [] e = absurd (omega arith)
take_put (suc n) (x ∷ xs) (y ∷ ys) e = ap (λ (l : List ℕ). x ∷ l) (take_put n xs ys (omega arith))

-- ---- the line

module _ (line : List ℕ) (number : ℕ) where
  pub text_comment : is_comment line ≡ true → case_text line number ≡ []
  unfolding case_text
  text_comment e = rw e

  module _ (other : is_comment line ≡ false) where
    pub text_unasked : words_right line (call_named (word_at line 1) calls) ≡ false → case_text line number ≡ refused_text number
    unfolding case_text
    text_unasked e = rw (other, e)

    module _ {call : ℕ} (asked : words_right line (call_named (word_at line 1) calls) ≡ true) (is : call_named (word_at line 1) calls ≡ call) where
      pub text_refused : strings_right line (get_or calls call no_call) ≡ false → case_text line number ≡ refused_text number
      unfolding case_text asked_text
      text_refused e = rw (other, asked, is, e)

      pub text_answered : {x : ℕ × List ℕ} → strings_right line (get_or calls call no_call) ≡ true → x ≡ answer_of line (get_or calls call no_call)
          → case_text line number ≡ answer_text (word_at line 0) x
      unfolding case_text asked_text
      text_answered e f = rw (other, asked, is, e, f)
