-- What a method of a writer does to it.
-- Assumes nothing.
use Rattle.std.specs.Prelude.{◌≡◌, List, ℕ, Result}
use Rattle.refusals.specs.declared.Refusal.{Refusal}
use Rattle.wording.specs.declared.writing.Writer.{Writer}
use Rattle.wording.specs.Lines.{together}
use Rattle.wording.specs.Writing.{Place, Answer, writer_puts}

-- the answer, and the place and the room then, are what `puts` makes of those before; and the room is the same lent one
pub record Writes (puts : Place → Answer) (before after : Writer) (answer : Result (Unit {0}) Refusal) : Type 0 where
  pub same_room : after.out.ghost_name ≡ before.out.ghost_name
  pub put : puts (before.at, before.out.now) ≡ (answer, (after.at, after.out.now))

-- texts that are s together were put one after the other, up to the first that did not fit
pub record Adds (s : List ℕ) (before after : Writer) (answer : Result (Unit {0}) Refusal) : Type 0 where
  pub parts : List (List ℕ)
  pub whole : together parts ≡ s
  pub writes : Writes (writer_puts parts) before after answer
