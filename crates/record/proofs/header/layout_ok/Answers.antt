-- `record::header::layout_ok` meets its contract: its result is made of what its callees ensure.
-- Assumes nothing.
use Rattle.record.proofs.Parts.{layout_tested}
use Rattle.record.proofs.header.layout_ok.Goals as goal

pub returns : goal.returns
returns c =
    let h = c.of-h.ensures in
    let p = c.places-p.ensures in
    layout_tested _ _ _ _ _ _ _ _ _ _ _ _ _ _ _ _
    h.mode h.name.0 h.count.0 p.iv c.iv_size.ensures p.text p.tag p.end
    c.read16.ensures.0 c.read8.ensures.0 c.read16-2.ensures.0 c.read16-3.ensures.0 c.read16-4.ensures.0 c.read32.ensures.0 c.read32-2.ensures.0
