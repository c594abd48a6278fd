-- What a mode of operation is to the calls and to the records: its lengths, and its two directions. Later modes add a value each.
-- Assumes nothing.
use Rattle.std.specs.Prelude.{ℕ, Bool, List, ◌++◌}

pub record Mode : Type 0 where
  pub key_size_lem : ℕ
  pub iv_size : ℕ
  pub tag_size : ℕ
  -- the lengths of plaintext that it permits; a ciphertext is as long as its plaintext
  pub permits : ℕ → Bool
  -- key, IV, associated data, plaintext: the ciphertext, and the tag
  pub ciphertext : List ℕ → List ℕ → List ℕ → List ℕ
  pub tag : List ℕ → List ℕ → List ℕ → List ℕ → List ℕ
  -- key, IV, associated data, ciphertext, tag: whether it is authentic; key, IV, ciphertext: the plaintext
  pub authentic : List ℕ → List ℕ → List ℕ → List ℕ → List ℕ → Bool
  pub plaintext : List ℕ → List ℕ → List ℕ → List ℕ

-- what encryption makes: the ciphertext, then the tag
abbrev pub sealed : Mode → List ℕ → List ℕ → List ℕ → List ℕ → List ℕ
sealed m key iv a p = m.ciphertext key iv p ++ m.tag key iv a p
