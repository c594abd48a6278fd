-- `wording::hex::is_hex` meets its contract.
-- Assumes nothing.
use Rattle.wording.specs.Hex.{is_hex_digit, is_hex}
use Rattle.wording.proofs.Digits.{all_list}
use Rattle.wording.proofs.hex.is_hex.Goals as goal

pub returns : goal.returns
unfolding is_hex
returns c = rw (c.all_digits.ensures, all_list is_hex_digit c.args.word.now)
