-- `field_words::Fields::values` meets its contract: each element is the value of the one at its place.
-- Assumes nothing.
use mathlib.Core.Path.{◌≡◌, sym, ◌∙◌}
use mathlib.Core.List.{map}
use Prim.Native.Nat.{ℕ, ◌<◌}
use native.Mathlib.Omega.{arith}
use lib.ListN.{length, get_or, length-map, get_or-map}
use Rattle.std.proofs.Common.{rules, tests}
use Rattle.std.proofs.lemmas.List.{ext_get_or}
use Rattle.std.specs.Prelude.{None}
use Rattle.field_words.specs.Given.{value_given}
use Rattle.field_words.specs.declared.Field.{Field}
use Rattle.field_words.proofs.Fields.values.Goals as goal

pub returns : goal.returns
returns c =
    let xs = c.args.self.fields in
    let none : Field = record { given = None; unnamed = 0 } in
    let size = c.well_formed.0 in
    let long : length xs ≡ 12 = search rules in
    let each : (i : ℕ) → i < 12 → get_or c.map.result i 0 ≡ value_given (get_or xs i none) =
    λ i h. let k = (c.map.ensures.items.at i none 0 h).2 in search (rules, tests) in
    ext_get_or 0 c.map.result (map value_given xs) (omega (arith, c.map.ensures.items.long, length-map xs value_given))
    (λ i h. each i (omega (arith, c.map.ensures.items.long)) ∙ sym (get_or-map value_given xs i none))
