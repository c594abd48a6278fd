-- `modes::counter::KeyStream::runs_over` meets its contract: the field's limit is a number of 64 bits.
-- Assumes nothing.
use Rattle.modes.proofs.Limits.{limit_fits}
use Rattle.modes.proofs.counter.KeyStream.runs_over.Goals as goal

pub pow-requires : goal.pow-requires
pow-requires g c = limit_fits g.row.W c.args.self.width.1
