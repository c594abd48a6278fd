-- Types that rise one after the other are those of which every earlier one is below every later one.
-- Assumes nothing.
use mathlib.Core.Path.{◌≡◌, refl}
use mathlib.Core.Bool.{true}
use mathlib.Core.List.{List, [], ◌∷◌}
use Prim.Native.Nat.{ℕ, zero, suc, ◌+◌, ◌≤◌, ◌<◌}
use native.Mathlib.Omega.{arith}
use borrow.Author.Tests.{leb-true, le-leb}
use lib.ListN.{length, get_or}
use lib.Dec.{leb}
use Rattle.octets.proofs.Tests.{and_left, and_right}
use Rattle.descriptors.specs.Descriptor.{type_of}
use Rattle.descriptors.specs.Tested.{rises_from}
use Rattle.descriptors.specs.Laws.{Rises}

pub rises_least : (least : ℕ) (ds : List (List ℕ)) (j : ℕ) → rises_from least ds ≡ true → j < length ds → least ≤ type_of (get_or ds j [])
unfolding rises_from
rises_least least [] j e h = absurd (omega arith)
rises_least least (d ∷ ds) zero e h = leb-true _ _ (and_left (leb least (type_of d)) (rises_from (type_of d + 1) ds) e)
rises_least least (d ∷ ds) (suc j) e h =
    let first : least ≤ type_of d = leb-true _ _ (and_left (leb least (type_of d)) (rises_from (type_of d + 1) ds) e) in
    omega (arith, rises_least (type_of d + 1) ds j (and_right (leb least (type_of d)) (rises_from (type_of d + 1) ds) e) (omega arith))

pub rises-each : (least : ℕ) (ds : List (List ℕ)) → rises_from least ds ≡ true → Rises ds
unfolding rises_from
rises-each least [] e i j h k = absurd (omega arith)
rises-each least (d ∷ ds) e i zero h k = absurd (omega arith)
rises-each least (d ∷ ds) e zero (suc j) h k =
    omega (arith, rises_least (type_of d + 1) ds j (and_right (leb least (type_of d)) (rises_from (type_of d + 1) ds) e) (omega arith))
rises-each least (d ∷ ds) e (suc i) (suc j) h k =
    rises-each (type_of d + 1) ds (and_right (leb least (type_of d)) (rises_from (type_of d + 1) ds) e) i j (omega arith) (omega arith)

pub each-rises : (least : ℕ) (ds : List (List ℕ)) → Rises ds → ((j : ℕ) → j < length ds → least ≤ type_of (get_or ds j [])) → rises_from least ds ≡ true
unfolding rises_from
each-rises least [] r h = refl
each-rises least (d ∷ ds) r h =
    let lower : (j : ℕ) → j < length ds → type_of d + 1 ≤ type_of (get_or ds j []) = λ j k. omega (arith, r 0 (suc j) (omega arith) (omega arith)) in
    let later : Rises ds = λ i j k l. r (suc i) (suc j) (omega arith) (omega arith) in
    rw (le-leb least (type_of d) (h 0 (omega arith)), each-rises (type_of d + 1) ds later lower)
