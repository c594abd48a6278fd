-- Lines that are added one after the other to what a writer has written.
-- Assumes nothing.
use mathlib.Core.Path.{◌≡◌, sym, ◌∙◌}
use mathlib.Core.List.{List, [], ◌∷◌, ◌++◌, append_assoc, append-nil}
use Rattle.std.specs.Prelude.{Ok, Err}
use Rattle.refusals.specs.declared.Refusal.{Refusal}
use Rattle.wording.specs.Writer.{Adds}
use Rattle.wording.specs.declared.writing.Writer.{Writer}
use Rattle.wording.proofs.Puts.{adds_then, adds_stop}
use Prim.Native.Nat.{ℕ}
use Rattle.descriptor_text.specs.Lines.{descriptor_line, descriptor_lines}

-- what is written so far, and the lines of the descriptors that are left, are all of the text
pub record Writing (all : List ℕ) (before now : Writer) (us : List (List ℕ)) : Type 0 where
  pub text : List ℕ
  pub adds : Adds text before now (Ok tt)
  pub whole : text ++ descriptor_lines us ≡ all

line_next : (text d : List ℕ) (us : List (List ℕ)) → text ++ descriptor_lines (d ∷ us) ≡ (text ++ descriptor_line d) ++ descriptor_lines us
unfolding descriptor_lines
line_next text d us = sym (append_assoc text (descriptor_line d) (descriptor_lines us))

module _ {all : List ℕ} {before now : Writer} where
  -- one line more
  pub line_written : {after : Writer} (d : List ℕ) (us : List (List ℕ)) → Writing all before now (d ∷ us) → Adds (descriptor_line d) now after (Ok tt)
      → Writing all before after us
  line_written d us w a = record {
    text = w.text ++ descriptor_line d;
    adds = adds_then w.adds a;
    whole = sym (line_next w.text d us) ∙ w.whole;
  }

  -- one that does not fit
  pub line_refused : {after : Writer} {e : Refusal} (d : List ℕ) (us : List (List ℕ)) → Writing all before now (d ∷ us) → Adds (descriptor_line d) now after (Err e)
      → Adds all before after (Err e)
  unfolding descriptor_lines
  line_refused d us w a = rw (← w.whole) (adds_then w.adds (adds_stop (descriptor_lines us) a))

  -- all of them
  pub all_written : Writing all before now [] → Adds all before now (Ok tt)
  unfolding descriptor_lines
  all_written w = rw (← w.whole, append-nil) w.adds
