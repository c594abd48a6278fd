-- One answer: of an equation, and where what an answer says gives the answer back.
-- Assumes nothing.
use mathlib.Core.Path.{◌≡◌, sym, ap, ◌∙◌}
use Rattle.octets.specs.Unique.{UniqueBy, Unique}

pub unique : {A : Type 0} (stated : A) → Unique stated
unique stated x y p q = p ∙ sym q

-- `back` makes the answer of what it says
pub unique-by : {A B : Type 0} (says : A → B) (back : B → A) → ((x : A) → back (says x) ≡ x) → (stated : B) → UniqueBy says stated
unique-by says back again stated x y p q = sym (again x) ∙ ap back (p ∙ sym q) ∙ again y
