-- `page_writer::fields::Chosen::from` meets its contract: the numbers of a list of twelve, one after the other, are the list.
-- Assumes nothing.
use Rattle.octets.proofs.Values.{values_list}
use Rattle.page_writer.proofs.fields.ChosenFromArrayU64CHOSENCOUNT.from.Goals as goal

pub returns : goal.returns
returns c = values_list c.args.v 0 12 c.well_formed.0.1.0.1
