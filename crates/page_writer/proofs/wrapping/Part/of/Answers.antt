-- `page_writer::wrapping::Part::of` meets its contract: the words, the identifier and the wrapped key stand in the front of the room.
-- Assumes nothing.
use Rattle.keywrap.proofs.Laws.{wrapped-length}
use Rattle.page_writer.specs.Written.{wrapped_part}
use Rattle.page_writer.proofs.Parts.{part_cut}
use Rattle.page_writer.proofs.wrapping.Part.of.Goals as goal

pub returns : goal.returns
unfolding wrapped_part
returns c =
    let a = c.args in
    rw c.part_size.ensures
    (part_cut a.kind a.identifier.now _ c.put_three.new.out (wrapped-length a.kek.now a.key.now) c.requires.2 (rw (c.part_head-head.ensures, c.wrapped_key-w.ensures) at c.put_three.ensures))
