-- `aes::change` meets its contract: strings of the right lengths, written over as many zeros, are themselves.
-- Assumes nothing.
use Rattle.std.proofs.Common.{◌≡◌, sym, ◌∙◌, ap, false}
use Rattle.octets.proofs.Lent.{first_right, second_right, over_zeros}
use Rattle.aes.specs.KeyExpansion.{schedule}
use Rattle.aes.specs.Calls.{key_size_lem, block_size, wrong_lengths}
use Rattle.aes.proofs.change.Goals as goal

pub returns : goal.returns
returns g c =
    let key = c.args.key.now in
    let block = c.args.block.now in
    let right : wrong_lengths key block ≡ false = sym c.wrong_lengths.ensures ∙ c.if-wrong_lengths.false in
    let its_keys : c.expand_key.result ≡ schedule key =
    c.expand_key.ensures ∙ ap schedule (c.first.ensures ∙ over_zeros key key_size_lem (first_right key_size_lem block_size key block right)) in
    let its_block : c.first-2.result ≡ block =
    c.first-2.ensures ∙ over_zeros block block_size (second_right key_size_lem block_size key block right) in
    (c.way-done.result, right, (rw (its_keys, its_block) at c.way-done.ensures), c.put.ensures)
