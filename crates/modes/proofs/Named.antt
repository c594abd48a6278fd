-- The mode that a byte names: what holds of each mode holds of it; and what passing the tests of the arguments says.
-- Assumes nothing.
use mathlib.Core.Path.{◌≡◌, refl, sym, ◌∙◌}
use mathlib.Core.Bool.{Bool, true, false, ◌||◌}
use mathlib.Core.List.{List}
use Prim.Native.Nat.{ℕ, ◌+◌}
use lib.Dec.{eqb}
use lib.ListN.{length}
use Rattle.octets.specs.Lent.{when, is_not, lowest}
use Rattle.octets.proofs.Tests.{or_left, or_right}
use Rattle.octets.proofs.Lent.{is_not-false, first_right, second_right}
use Rattle.modes.specs.Mode.{Mode}
use Rattle.modes.specs.Ccm as c
use Rattle.modes.specs.Gcm as g
use Rattle.modes.specs.Modes.{mode_of}
use Rattle.modes.specs.Calls.{Sealable, Openable, wrong_sizes, wrong_opening, argument_tests, encrypt_tests}
use Rattle.modes.proofs.Numbers.{arguments_passed}

pub each_mode : (Holds : Mode → Type 0) → Holds g.gcm → Holds c.ccm → (u : ℕ) → Holds (mode_of u)
each_mode Holds second first u = go (eqb u 2)
  where
    go : (named : Bool) → Holds (when named g.gcm c.ccm)
    go true = second
    go false = first

module _ (u : ℕ) where
  -- ---- lengths

  pub named-tag_size : 16 ≡ (mode_of u).tag_size
  named-tag_size = each_mode (λ (m : Mode). 16 ≡ m.tag_size) refl refl u

  pub named_sizes : (key iv s : List ℕ) → (is_not 32 key || is_not 12 iv) ≡ wrong_sizes (mode_of u) key iv s
  named_sizes key iv s = each_mode (λ (m : Mode). (is_not 32 key || is_not 12 iv) ≡ wrong_sizes m key iv s) refl refl u

  module _ (key iv s : List ℕ) (right : wrong_sizes (mode_of u) key iv s ≡ false) where
    sizes : (is_not 32 key || is_not 12 iv) ≡ false
    sizes = named_sizes key iv s ∙ right

    pub named_key : length key ≡ 32
    named_key = first_right 32 12 key iv sizes

    pub named_iv : length iv ≡ 12
    named_iv = second_right 32 12 key iv sizes

  -- ---- what passing the tests of the arguments says

  module _ (key iv a b s : List ℕ) (room : ℕ) where
    pub encrypt_passed : lowest (encrypt_tests (mode_of u) key iv a b s room) ≡ 0
        → Sealable key iv a b s room
    encrypt_passed none =
        let passed = arguments_passed (wrong_sizes (mode_of u) key iv s) a b s (length s + (mode_of u).tag_size) room none in
        (named_key key iv s passed.sizes, named_iv key iv s passed.sizes, passed.data_fits, passed.text_fits, rw (named-tag_size) passed.room_fits)

    pub decrypt_passed : (t : List ℕ) → lowest (argument_tests (wrong_opening (mode_of u) key iv s t) a b s (length s) room) ≡ 0
        → Openable key iv a b s t room
    decrypt_passed t none =
        let passed = arguments_passed (wrong_opening (mode_of u) key iv s t) a b s (length s) room none in
        let sizes = or_left (wrong_sizes (mode_of u) key iv s) (is_not (mode_of u).tag_size t) passed.sizes in
        let tag = or_right (wrong_sizes (mode_of u) key iv s) (is_not (mode_of u).tag_size t) passed.sizes in
        ((named_key key iv s sizes, named_iv key iv s sizes, passed.data_fits, passed.text_fits, is_not-false (mode_of u).tag_size t tag ∙ sym named-tag_size), passed.room_fits)
