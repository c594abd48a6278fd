use lib.ListN.{take}
use Rattle.std.specs.Prelude.{Ok}
use Rattle.wording.specs.Writer.{Adds}
use Rattle.page_text.specs.Listing.{lines_said}
use Rattle.page_text.proofs.put_lines.Given as goal

abbrev pub invariant-loop-word : goal.invariant-loop-word
invariant-loop-word l = Adds (lines_said (take l.word-index l.lines)) l.initial.writer l.writer (Ok tt)
