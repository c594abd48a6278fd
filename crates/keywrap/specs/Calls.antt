-- Wrapping and unwrapping over lent bytes: document 01's numbers, and the output after them.
-- Assumes nothing.
use Rattle.std.specs.Prelude.{ℕ, not, ◌||◌, List, [], ◌∷◌, ltb, length}
use Rattle.octets.specs.Lent.{Tests, is_not, lowest, answer}
pub use Rattle.aes.specs.Calls.{key_size_lem}
use Rattle.keywrap.specs.Wrap.{wrapped, start_right, unwrapped_key}

abbrev pub wrapped_size : ℕ
wrapped_size = 40

abbrev pub wrap_tests : List ℕ → List ℕ → ℕ → Tests
wrap_tests kek key room = (2, is_not key_size_lem kek || is_not key_size_lem key) ∷ (5, ltb room wrapped_size) ∷ []

unfoldable pub wrap_number : List ℕ → List ℕ → ℕ → ℕ
wrap_number kek key room = lowest (wrap_tests kek key room)

unfoldable pub wrap_answer : List ℕ → List ℕ → List ℕ → ℕ × List ℕ
wrap_answer kek key out = answer (wrap_number kek key (length out)) (wrapped kek key) out

abbrev pub unwrap_tests : List ℕ → List ℕ → ℕ → Tests
unwrap_tests kek w room = (2, is_not key_size_lem kek) ∷ (5, ltb room key_size_lem) ∷ (8, is_not wrapped_size w) ∷ (9, not (start_right kek w)) ∷ []

unfoldable pub unwrap_number : List ℕ → List ℕ → ℕ → ℕ
unwrap_number kek w room = lowest (unwrap_tests kek w room)

unfoldable pub unwrap_answer : List ℕ → List ℕ → List ℕ → ℕ × List ℕ
unwrap_answer kek w out = answer (unwrap_number kek w (length out)) (unwrapped_key kek w) out
