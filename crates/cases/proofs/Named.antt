-- The table of the code beside the specification's: entry by entry they have the same names, in the same order.
-- Assumes nothing.
use mathlib.Core.Path.{◌≡◌, refl, ap, ◌∙◌}
use mathlib.Core.Bool.{Bool, true, false}
use mathlib.Core.List.{List, [], ◌∷◌}
use Prim.Native.Nat.{ℕ, suc, ◌+◌, ◌<◌}
use native.Mathlib.Nat.{zero-add}
use lib.Dec.{eqb, lit<}
use native.Mathlib.Omega.{arith}
use lib.ListN.{length}
use Rattle.std.specs.Prelude.{Option}
use Rattle.std.specs.Borrow.{Bor}
use Rattle.octets.specs.Same.{same}
use Rattle.cases.specs.declared.calls.Call.{Call as Named}
use Rattle.cases.specs.declared.calls.Call.TheVariants.{Encrypt, Decrypt, EncryptRounds, DecryptRounds, CcmEncrypt, GcmEncrypt, CcmDecrypt, GcmDecrypt, Wrap, Unwrap}
use Rattle.cases.specs.Calls.{Call, calls, call_count, call_named}
use Rattle.cases.specs.Named.{call_place, place_or, named_place, named_of, entry}

abbrev pub Entry : Type 0
Entry = Bor (List ℕ) × Named

-- entries from place i on beside calls
abbrev pub Beside : ℕ → List Entry → List Call → Type 0
Beside i [] [] = Unit {0}
Beside i [] (c ∷ cs) = ⊥
Beside i (e ∷ es) [] = ⊥
Beside i (e ∷ es) (c ∷ cs) = (e.0.now ≡ c.name) × (call_place e.1 ≡ i) × Beside (suc i) es cs

pub found_at : (n : List ℕ) (i : ℕ) (es : List Entry) (cs : List Call) → Beside i es cs → place_or (i + length cs) (named_of n es) ≡ i + call_named n cs
unfolding call_named named_of
found_at n i [] [] b = refl
found_at n i [] (c ∷ cs) b = absurd b
found_at n i (e ∷ es) [] b = absurd b
found_at n i (e ∷ es) (c ∷ cs) (name, place, rest) = go (same c.name n) refl (found_at n (suc i) es cs rest)
  where
    go : (t : Bool) → same c.name n ≡ t → place_or (suc i + length cs) (named_of n es) ≡ suc i + call_named n cs
        → place_or (i + suc (length cs)) (named_of n (e ∷ es)) ≡ i + call_named n (c ∷ cs)
    go true t more = rw (name, t) (place ∙ omega arith)
    go false t more =
        rw (name, t)
        (ap (λ (k : ℕ). place_or k (named_of n es)) (omega arith) ∙ more ∙ omega arith)

pub named_by : (n : List ℕ) (es : List Entry) {r : Option Named} → r ≡ named_of n es → Beside 0 es calls → named_place r ≡ call_named n calls
named_by n es e b = ap named_place e ∙ found_at n 0 es calls b ∙ zero-add (call_named n calls)

pub place_small : (c : Named) → call_place c < call_count
place_small Encrypt = lit< tt
place_small Decrypt = lit< tt
place_small EncryptRounds = lit< tt
place_small DecryptRounds = lit< tt
place_small CcmEncrypt = lit< tt
place_small GcmEncrypt = lit< tt
place_small CcmDecrypt = lit< tt
place_small GcmDecrypt = lit< tt
place_small Wrap = lit< tt
place_small Unwrap = lit< tt

-- a call is lent a block where it has one string
pub block_is : (c : Named) → (entry c).block ≡ eqb (entry c).strings 1
block_is Encrypt = refl
block_is Decrypt = refl
block_is EncryptRounds = refl
block_is DecryptRounds = refl
block_is CcmEncrypt = refl
block_is GcmEncrypt = refl
block_is CcmDecrypt = refl
block_is GcmDecrypt = refl
block_is Wrap = refl
block_is Unwrap = refl
