-- `modes::verify` meets its contract: decryption's number, into room as long as the ciphertext.
-- Assumes nothing.
use mathlib.Core.Path.{sym, ◌∙◌}
use lib.ListN.{length}
use Rattle.std.proofs.Common.{◌≡◌, rules}
use Rattle.std.proofs.lemmas.Result.{err_from_is_err_and}
use Rattle.modes.specs.Modes.{mode_of}
use Rattle.modes.specs.Calls.{Verifiable}
use Rattle.modes.proofs.Numbers.{verify-refused, verify-done}
use Rattle.modes.proofs.Named.{decrypt_passed}
use Rattle.modes.proofs.verify.Goals.{In_ok-check_decryption}
use Rattle.modes.proofs.verify.Goals as goal

pub returns-in_err-check_decryption : goal.returns-in_err-check_decryption
returns-in_err-check_decryption c =
    let a = c.args in
    let p = err_from_is_err_and c.from_residual.result c.from_residual.ensures.1 in
    rw (p.1, p.2) (verify-refused (mode_of a.u) a.key.now a.iv.now a.a.now a.b.now a.c.now a.tag.now a.c.now _ c.in_err-check_decryption.ensures)

passed : (c : In_ok-check_decryption) → (let a = c.args in Verifiable a.key.now a.iv.now a.a.now a.b.now a.c.now a.tag.now)
passed c =
    let a = c.args in
    (decrypt_passed a.u a.key.now a.iv.now a.a.now a.b.now a.c.now (length a.c.now) a.tag.now (sym c.in_ok-check_decryption.ensures)).0

pub round_keys-keys-requires : goal.round_keys-keys-requires
round_keys-keys-requires c = (passed (goal.at.round_keys-keys-requires c).In_ok-check_decryption).0

pub returns : goal.returns
returns c =
    let a = c.args in
    let tag : c.unwrap-tag.result.now ≡ a.tag.now = search rules in
    verify-done (mode_of a.u) a.key.now a.iv.now a.a.now a.b.now a.c.now a.tag.now a.c.now c.in_ok-check_decryption.ensures
    (rw (c.from.ensures, tag) at (c.verify.ensures a.key.now (c.of.ensures.1 ∙ c.round_keys-keys.ensures.value)))
