-- The laws of specs/Laws.antt: they rest on the cipher's two round trips, and on nothing else inside it.
-- Assumes nothing.
use mathlib.Core.Path.{◌≡◌, refl, sym, ap, ◌∙◌}
use mathlib.Core.Bool.{Bool, true, false, not}
use mathlib.Core.List.{List}
use Prim.Native.Nat.{ℕ, ◌≤◌}
use native.Mathlib.Omega.{arith}
use borrow.Author.Tests.{eq-eqb, le-ltb}
use lib.ListN.{length}
use Rattle.octets.specs.Lent.{over}
use Rattle.octets.proofs.Lent.{is_not_right, take-over, over_injective}
use Rattle.octets.proofs.Unique.{unique}
use Rattle.aes.specs.KeyExpansion.{schedule}
use Rattle.keywrap.specs.Wrap.{wrapped, start_right, unwrapped_key}
use Rattle.keywrap.specs.Calls.{wrap_answer, unwrap_answer}
use Rattle.keywrap.specs.Laws.{WrapsTo, UnwrapsTo, UnwrapsExactly, OneKey, UnwrapNineExactly, WrappedLength, WrappedBytes}
use Rattle.keywrap.specs.Laws.{WrapTestsRise, UnwrapTestsRise, WrapsInRange, UnwrapsWrapped, WrapUnique, UnwrapUnique}
use Rattle.keywrap.proofs.Parts.{length-register_bytes, bytes-register_bytes}
use Rattle.keywrap.proofs.Inverse.{wrap_steps_formed, wrap_steps_good}
use Rattle.keywrap.proofs.Calls.{wrap-done, unwrap_start, unwrap_key}
use Rattle.keywrap.proofs.RoundTrip.{begin_formed, begin_good, unwrapped_key_of, start_right_of, unwrapped_key_size, key_wraps}

-- ---- wrapped bytes

pub wrapped-length : WrappedLength
unfolding wrapped
wrapped-length kek key =
    let h = wrap_steps_formed (schedule kek) 24 (begin_formed key) in
    length-register_bytes h.eight ∙ omega (arith, h.five)

pub wrapped_bytes : WrappedBytes
unfolding wrapped
wrapped_bytes kek key hk h = bytes-register_bytes (wrap_steps_good kek hk 24 (begin_good key h)).bytes

-- ---- over lent bytes of the right lengths

module _ (kek w out : List ℕ) (size : length kek ≡ 32) (long : length w ≡ 40) (room : 32 ≤ length out) where
  answers_key : start_right kek w ≡ true → unwrap_answer kek w out ≡ (0, over (unwrapped_key kek w) out)
  answers_key = unwrap_key kek w out (ap not (eq-eqb _ 32 size)) (le-ltb _ 32 room) (ap not (eq-eqb _ 40 long))

  answers_nine : start_right kek w ≡ false → unwrap_answer kek w out ≡ (9, out)
  answers_nine = unwrap_start kek w out (ap not (eq-eqb _ 32 size)) (le-ltb _ 32 room) (ap not (eq-eqb _ 40 long))

-- ---- unwrapping gives a key exactly where it wraps to what was unwrapped

pub unwraps_exactly : UnwrapsExactly
unwraps_exactly kek w out k size hk long hw room = (to, from)
  where
    by : (t : Bool) → start_right kek w ≡ t → UnwrapsTo kek w out k → WrapsTo kek k w
    by true start h =
        let written = ap (λ a. a.1) (sym (answers_key kek w out size long room start) ∙ h.answers) in
        let found : unwrapped_key kek w ≡ k = over_injective _ k out (unwrapped_key_size kek hk w long hw ∙ sym h.size) (omega (arith, h.size, room)) written in
        rw found at (key_wraps kek hk w long hw start)
    by false wrong h =
        let nine : ◌≡◌ {A = ℕ} 9 0 = ap (λ a. a.0) (sym (answers_nine kek w out size long room wrong) ∙ h.answers) in
        absurd (omega arith)

    to : UnwrapsTo kek w out k → WrapsTo kek k w
    to = by (start_right kek w) refl

    from : WrapsTo kek k w → UnwrapsTo kek w out k
    from h = record { size = h.size; answers = answers_key kek w out size long room (start_right_of kek hk k w h) ∙ rw (unwrapped_key_of kek hk k w h) }

pub one_key : OneKey
one_key kek k k' w hk h h' = sym (unwrapped_key_of kek hk k w h) ∙ unwrapped_key_of kek hk k' w h'

pub unwrap_nine_exactly : UnwrapNineExactly
unwrap_nine_exactly kek w out size hk long hw room = (to, from)
  where
    to : unwrap_answer kek w out ≡ (9, out) → (k : List ℕ) → WrapsTo kek k w → ⊥
    to e k h =
        let zero = ((unwraps_exactly kek w out k size hk long hw room).1 h).answers in
        let nine : ◌≡◌ {A = ℕ} 9 0 = ap (λ (a : ℕ × List ℕ). a.0) (sym e ∙ zero) in
        absurd (omega arith)

    by : (t : Bool) → start_right kek w ≡ t → ((k : List ℕ) → WrapsTo kek k w → ⊥) → unwrap_answer kek w out ≡ (9, out)
    by true start none = absurd (none (unwrapped_key kek w) (key_wraps kek hk w long hw start))
    by false wrong none = answers_nine kek w out size long room wrong

    from : ((k : List ℕ) → WrapsTo kek k w → ⊥) → unwrap_answer kek w out ≡ (9, out)
    from = by (start_right kek w) refl

-- ---- the calls

pub wrap_tests_rise : WrapTestsRise
wrap_tests_rise kek key room = refl

pub unwrap_tests_rise : UnwrapTestsRise
unwrap_tests_rise kek w room = refl

pub wraps_in_range : WrapsInRange
wraps_in_range kek key out size long room =
    wrap-done kek key out (rw (is_not_right 32 kek size, is_not_right 32 key long)) (le-ltb _ 40 room)

pub unwraps-wrapped : UnwrapsWrapped
unwraps-wrapped kek key out room size hk long h fits space =
    rw (wraps_in_range kek key out size long fits, take-over (wrapped kek key) out 40 (wrapped-length kek key) fits)
    ((unwraps_exactly kek (wrapped kek key) room key size hk (wrapped-length kek key) (wrapped_bytes kek key hk h) space).1 wraps).answers
  where
    wraps : WrapsTo kek key (wrapped kek key)
    wraps = record { size = long; bytes = h; wraps = refl }

-- ---- one answer

pub wrap_unique : WrapUnique
wrap_unique kek key out = unique (wrap_answer kek key out)

pub unwrap_unique : UnwrapUnique
unwrap_unique kek w out = unique (unwrap_answer kek w out)
