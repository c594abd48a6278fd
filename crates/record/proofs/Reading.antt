-- Reading a record by itself: each answer by the tests that led there, and what the fields that were read say of the record.
-- Assumes nothing.
use mathlib.Core.Path.{◌≡◌, refl, sym, ap, ◌∙◌}
use mathlib.Core.Bool.{Bool, true, false}
use mathlib.Core.List.{List, [], ◌∷◌}
use mathlib.Core.Option.{Option}
use Prim.Native.Nat.{ℕ, ◌≤◌}
use native.Mathlib.Omega.{arith}
use borrow.Author.Tests.{not-false}
use lib.ListN.{get_or}
use Rattle.octets.proofs.Lent.{test_at, none_applies}
use Rattle.keytable.specs.Row.{name_max, Row}
use Rattle.modes.specs.Calls.{text_max}
use Rattle.modes.specs.Modes.{names_mode}
use Rattle.record.specs.Record.{mode_in, count_in, name_size_lem, layout_ok}
use Rattle.record.specs.Read.{passes, header_tests, header_number, header_says, header_answer}
use Rattle.record.specs.Open.{open_number}
use Rattle.record.proofs.Lengths.{name_within, count_within}
use Rattle.record.proofs.OpenNumbers.{number_two, number_three, number_four}
use Rattle.record.specs.declared.header.Header.{Header}
use Rattle.std.specs.Prelude.{Result, Err}
use Rattle.refusals.specs.Numbers.{number_of}
use Rattle.refusals.specs.declared.Refusal.{Refusal}
use Rattle.refusals.proofs.Laws.{not_zero}

module _ (r : List ℕ) where
  pub header_two : layout_ok r ≡ false → header_answer r ≡ (2, [])
  unfolding header_answer header_number
  header_two e = rw e

  pub header_three : layout_ok r ≡ true → names_mode (mode_in r) ≡ false → header_answer r ≡ (3, [])
  unfolding header_answer header_number
  header_three e f = rw (e, f)

  pub header_four : layout_ok r ≡ true → names_mode (mode_in r) ≡ true → passes (name_size_lem r) (count_in r) ≡ true → header_answer r ≡ (4, [])
  unfolding header_answer header_number
  header_four e f g = rw (e, f, g)

  pub header_zero : layout_ok r ≡ true → names_mode (mode_in r) ≡ true → passes (name_size_lem r) (count_in r) ≡ false
      → header_answer r ≡ (0, mode_in r ∷ name_size_lem r ∷ count_in r ∷ [])
  unfolding header_answer header_number
  header_zero e f g = rw (e, f, g)

  pub header-number : (h : Result Header Refusal) → header_says h ≡ header_answer r → (header_says h).0 ≡ header_number r
  unfolding header_answer
  header-number h e = ap (λ (x : ℕ × List ℕ). x.0) e

-- every test passed: the fields are the record's own
pub record HeaderAccepted (r : List ℕ) (u k n : ℕ) : Type 0 where
  pub layout : layout_ok r ≡ true
  pub mode_ok : names_mode (mode_in r) ≡ true
  pub short : passes (name_size_lem r) (count_in r) ≡ false
  pub mode_is : u ≡ mode_in r
  pub size_is : k ≡ name_size_lem r
  pub count_is : n ≡ count_in r

pub header_accepted : (r : List ℕ) (u k n : ℕ) → ◌≡◌ {A = ℕ × List ℕ} (0, u ∷ k ∷ n ∷ []) (header_answer r) → HeaderAccepted r u k n
unfolding header_answer header_number
header_accepted r u k n e =
    record {
      layout = layout;
      mode_ok = mode_ok;
      short = no 2;
      mode_is = ap (λ (x : ℕ × List ℕ). get_or x.1 0 0) whole;
      size_is = ap (λ (x : ℕ × List ℕ). get_or x.1 1 0) whole;
      count_is = ap (λ (x : ℕ × List ℕ). get_or x.1 2 0) whole;
    }
  where
    no : (i : ℕ) → test_at (header_tests r) i ≡ false
    no i = none_applies (header_tests r) i refl (sym (ap (λ (x : ℕ × List ℕ). x.0) e))

    layout : layout_ok r ≡ true
    layout = not-false (layout_ok r) (no 0)

    mode_ok : names_mode (mode_in r) ≡ true
    mode_ok = not-false (names_mode (mode_in r)) (no 1)

    whole : ◌≡◌ {A = ℕ × List ℕ} (0, u ∷ k ∷ n ∷ []) (0, mode_in r ∷ name_size_lem r ∷ count_in r ∷ [])
    whole = e ∙ header_zero r layout mode_ok (no 2)

-- and within their maxima
pub fields_within : (r : List ℕ) (u k n : ℕ) → HeaderAccepted r u k n → (k ≤ name_max) × (n ≤ text_max)
fields_within r u k n is =
    (omega (arith, is.size_is, name_within (name_size_lem r) (count_in r) is.short), omega (arith, is.count_is, count_within (name_size_lem r) (count_in r) is.short))

-- ---- a record that reading refuses, opened

pub number_unread : (row : Option Row) (r a : List ℕ) (room : ℕ) (e : Refusal) → header_says (Err e) ≡ header_answer r → open_number true row r a room ≡ number_of e
unfolding header_number
number_unread row r a room e told = go (layout_ok r) (names_mode (mode_in r)) (passes (name_size_lem r) (count_in r)) refl refl refl
  where
    number : (n : ℕ) → header_number r ≡ n → number_of e ≡ n
    number n is = header-number r (Err e) told ∙ is

    go : (x y z : Bool) → layout_ok r ≡ x → names_mode (mode_in r) ≡ y → passes (name_size_lem r) (count_in r) ≡ z → open_number true row r a room ≡ number_of e
    go false y z ex ey ez = number_two true row r a room refl ex ∙ sym (number 2 (rw ex))
    go true false z ex ey ez = number_three true row r a room refl ex ey ∙ sym (number 3 (rw (ex, ey)))
    go true true true ex ey ez = number_four true row r a room refl ex ey (rw ez) ∙ sym (number 4 (rw (ex, ey, ez)))
    go true true false ex ey ez = absurd (not_zero e (sym (number 0 (rw (ex, ey, ez)))))
