-- `page_text::put_refused` meets its contract.
-- Assumes nothing.
use Rattle.wording.proofs.Puts.{adds}
use Rattle.page_text.proofs.put_refused.Goals as goal

pub returns : goal.returns
returns c = rw (← c.number.ensures) (adds c.put_line.ensures)
