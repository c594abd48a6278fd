-- `modes::encrypt` meets its contract: what the arguments are refused for, or what the mode makes.
-- Assumes nothing.
use mathlib.Core.Path.{◌≡◌, sym, ◌∙◌}
use lib.ListN.{length}
use Rattle.std.proofs.lemmas.Result.{err_from_is_err_and}
use Rattle.octets.specs.Lent.{lowest}
use Rattle.modes.specs.Modes.{mode_of}
use Rattle.modes.specs.Calls.{Sealable, encrypt_tests}
use Rattle.modes.proofs.Numbers.{encrypt_tested, encrypt-refused, encrypt-done}
use Rattle.modes.proofs.Named.{encrypt_passed}
use Rattle.modes.proofs.encrypt.Goals.{In_ok-check_arguments}
use Rattle.modes.proofs.encrypt.Goals as goal

pub returns-in_err-check_arguments : goal.returns-in_err-check_arguments
returns-in_err-check_arguments c =
    let a = c.args in
    let p = err_from_is_err_and c.from_residual.result c.from_residual.ensures.1 in
    rw (p.1, p.2)
    (encrypt-refused (mode_of a.u) a.key.now a.iv.now a.a.now a.b.now a.plain.now a.out.now _
    (encrypt_tested (mode_of a.u) a.key.now a.iv.now a.a.now a.b.now a.plain.now a.out.now
    (c.wrong_sizes.ensures a.plain.now) c.tag_size.ensures c.in_err-check_arguments.ensures))

tested : (c : In_ok-check_arguments)
    → (let a = c.args in 0 ≡ lowest (encrypt_tests (mode_of a.u) a.key.now a.iv.now a.a.now a.b.now a.plain.now (length a.out.now)))
tested c =
    let a = c.args in
    encrypt_tested (mode_of a.u) a.key.now a.iv.now a.a.now a.b.now a.plain.now a.out.now (c.wrong_sizes.ensures a.plain.now) c.tag_size.ensures
    c.in_ok-check_arguments.ensures

passed : (c : In_ok-check_arguments) → (let a = c.args in Sealable a.key.now a.iv.now a.a.now a.b.now a.plain.now (length a.out.now))
passed c = let a = c.args in encrypt_passed a.u a.key.now a.iv.now a.a.now a.b.now a.plain.now (length a.out.now) (sym (tested c))

pub round_keys-keys-requires : goal.round_keys-keys-requires
round_keys-keys-requires c = (passed (goal.at.round_keys-keys-requires c).In_ok-check_arguments).0

pub returns : goal.returns
returns c =
    let a = c.args in
    encrypt-done (mode_of a.u) a.key.now a.iv.now a.a.now a.b.now a.plain.now a.out.now (tested (goal.at.returns c).In_ok-check_arguments)
    ∙ rw c.from.ensures at (c.seal.ensures a.key.now (c.of.ensures.1 ∙ c.round_keys-keys.ensures.value))
