-- The text of one line (tests/vectors/README.md): nothing, the answer to its call, or that it is refused.
-- Assumes nothing.
use Rattle.std.specs.Prelude.{ℕ, ◌+◌, Bool, ◌&&◌, false, List, [], ◌∷◌, ◌++◌, eqb, ltb, length, get_or}
use Prim.Native.Char.{code}
use Rattle.octets.specs.Lent.{when}
use Rattle.octets.specs.Tests.{every, all}
use Rattle.wording.specs.Ascii.{ascii}
use Rattle.wording.specs.Decimal.{decimal}
use Rattle.wording.specs.Hex.{digits_shown}
use Rattle.wording.specs.Lines.{space, line}
use Rattle.cases.specs.Words.{parts_after, words_of, word_at, some_bytes}
use Rattle.cases.specs.Strings.{is_bytes, bytes_in, is_lent, lent_in}
use Rattle.cases.specs.Calls.{Call, calls, call_count, no_call, call_named}

-- ---- the texts

-- NAME number bytes, in small digits
unfoldable pub answer_text : List ℕ → ℕ × List ℕ → List ℕ
answer_text name a = name ++ ascii " " ++ decimal a.0 ++ ascii " " ++ digits_shown false a.1 ++ ascii "\n"

-- refused N
abbrev pub refused_text : ℕ → List ℕ
refused_text number = line (ascii "refused") number

module _ (s : List ℕ) where
  -- an empty line, or one that begins with `#`
  abbrev pub is_comment : Bool
  is_comment = eqb (get_or s 0 (code "#")) (code "#")

  -- after NAME stand CALL, its strings, and what it is lent, of a call that there is; and no word is empty
  unfoldable pub words_right : ℕ → Bool
  words_right call = ltb call call_count && eqb (length (parts_after space s)) ((get_or calls call no_call).strings + 2) && all some_bytes (words_of s)

  -- the string of that number, from 0, of n; the others are empty
  abbrev pub string_at : ℕ → ℕ → List ℕ
  string_at n i = when (ltb i n) (word_at s (i + 2)) []

  abbrev pub lent_at : Call → List ℕ
  lent_at c = word_at s (c.strings + 2)

  unfoldable pub strings_right : Call → Bool
  strings_right c =
      every
      (is_bytes (string_at c.strings 0)
      ∷ is_bytes (string_at c.strings 1)
      ∷ is_bytes (string_at c.strings 2)
      ∷ is_bytes (string_at c.strings 3)
      ∷ is_bytes (string_at c.strings 4)
      ∷ is_lent c.block (lent_at c)
      ∷ [])

  unfoldable pub answer_of : Call → ℕ × List ℕ
  answer_of c =
      c.gives
      (bytes_in (string_at c.strings 0))
      (bytes_in (string_at c.strings 1))
      (bytes_in (string_at c.strings 2))
      (bytes_in (string_at c.strings 3))
      (bytes_in (string_at c.strings 4))
      (lent_in c.block (lent_at c))

  -- the line with the words of that call
  unfoldable pub asked_text : ℕ → Call → List ℕ
  asked_text number c = when (strings_right c) (answer_text (word_at s 0) (answer_of c)) (refused_text number)

  unfoldable pub case_text : ℕ → List ℕ
  case_text number =
      let call : ℕ = call_named (word_at s 1) calls in
      when is_comment [] (when (words_right call) (asked_text number (get_or calls call no_call)) (refused_text number))
