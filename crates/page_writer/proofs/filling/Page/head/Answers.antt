-- `page_writer::filling::Page::head` meets its contract: the words and the fields, each at its place, byte by byte.
-- Assumes nothing.
use mathlib.Core.Path.{sym}
use Rattle.page_writer.proofs.Head.{head-list}
use Rattle.page_writer.proofs.filling.Page.head.Goals as goal

pub returns : goal.returns
returns c =
    rw (c.put-3.ensures, c.bytes16-3.ensures, c.put-2.ensures, c.bytes16-2.ensures, c.size.ensures, c.put.ensures, c.bytes16.ensures, c.scope_byte.ensures, c.ceem_byte.ensures)
    (sym (head-list _ _ _))
