-- `keypage::loading::load_key` meets its contract: a wrapped key is loaded the same way whatever the algorithm index.
-- Assumes nothing.
use Rattle.keypage.specs.Page.{algorithm_in, format_in}
use Rattle.keypage.proofs.KeyPart.{names-wrapped}
use Rattle.keypage.proofs.loading.load_key.Goals as goal

pub returns-in-Wrapped : goal.returns-in-Wrapped
returns-in-Wrapped c =
    let p = c.args.page.bytes.now in
    rw (names-wrapped (format_in p) c.in-Wrapped.ensures, ← c.key_part-s.ensures) (c.load_wrapped.ensures (algorithm_in p))
