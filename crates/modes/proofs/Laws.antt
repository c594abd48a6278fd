-- The laws of specs/Laws.antt, for the crates above: counter mode twice, both modes lawful, and each list of tests rises. And a worked block of lengths.
-- Assumes nothing.
use mathlib.Core.Path.{◌≡◌, refl, ap₂}
use mathlib.Core.Bool.{true}
use mathlib.Core.List.{List, [], ◌∷◌, ◌++◌}
use Prim.Native.Nat.{ℕ, ◌*◌}
use lib.ListN.{length}
use Rattle.octets.specs.BigEndian.{be}
use Rattle.modes.specs.Mode.{Mode}
use Rattle.modes.specs.Ccm.{ccm}
use Rattle.modes.specs.Gcm.{lengths_block, gcm}
use Rattle.modes.specs.Modes.{mode_of}
use Rattle.modes.specs.Laws.{CounterTwice, CounterTestsRise, ArgumentTestsRise, AuthenticTestsRise, Lawful, ModesLawful, ModesPermit}
use Rattle.modes.proofs.Stream as stream
use Rattle.modes.proofs.Named.{each_mode}
use Rattle.modes.proofs.BothWays.{Fitting, fitting_lawful}
use Rattle.modes.proofs.CcmLaws as ccm-laws
use Rattle.modes.proofs.GcmLaws as gcm-laws

pub counter_twice : CounterTwice
counter_twice = stream.counter_twice

pub counter_tests_rise : CounterTestsRise
counter_tests_rise w i n = refl

pub argument_tests_rise : ArgumentTestsRise
argument_tests_rise wrong a b s needed room = refl

pub tag_tests_rise : AuthenticTestsRise
tag_tests_rise right = refl

-- ---- the modes

pub ccm_lawful : Lawful ccm
ccm_lawful = ccm-laws.ccm_lawful

pub gcm_lawful : Lawful gcm
gcm_lawful = gcm-laws.gcm_lawful

pub modes_fitting : (u : ℕ) → Fitting (mode_of u)
modes_fitting = each_mode Fitting gcm-laws.gcm_fitting ccm-laws.ccm_fitting

pub modes_lawful : ModesLawful
modes_lawful u = fitting_lawful (mode_of u) (modes_fitting u)

pub modes_permit : ModesPermit
modes_permit u n = each_mode (λ (m : Mode). m.permits n ≡ true) refl refl u

-- SP 800-38D, 7.1, step 5: 25 bytes of data and 3 of text: 200 bits and 24
pub lengths_25_3 : (a c : List ℕ) → length a ≡ 25 → length c ≡ 3
    → lengths_block a c ≡ 0 ∷ 0 ∷ 0 ∷ 0 ∷ 0 ∷ 0 ∷ 0 ∷ 200 ∷ 0 ∷ 0 ∷ 0 ∷ 0 ∷ 0 ∷ 0 ∷ 0 ∷ 24 ∷ []
lengths_25_3 a c ea ec = ap₂ (λ (n m : ℕ). be 8 (8 * n) ++ be 8 (8 * m)) ea ec
