-- `keypage::loading::load` meets its contract: what the page and its KEY part are refused for is what the load is.
-- Assumes nothing.
use Rattle.std.proofs.lemmas.Result.{err_from_is_err_and}
use Rattle.keypage.proofs.LoadNumbers.{refused_unread, refused_unloaded}
use Rattle.keypage.proofs.loading.load.Goals as goal

pub returns-in_err-page : goal.returns-in_err-page
returns-in_err-page c =
    let q = err_from_is_err_and c.from_residual-in_err-page.result c.from_residual-in_err-page.ensures.1 in
    rw (q.1, q.2) (refused_unread _ _ _ _ _ (rw c.in_ok-table.ensures.table at c.in_ok-table.table.accepted) c.in_err-page.ensures.number)

pub returns-in_err-load_key : goal.returns-in_err-load_key
returns-in_err-load_key c =
    let q = err_from_is_err_and c.from_residual-in_err-load_key.result c.from_residual-in_err-load_key.ensures.1 in
    rw (q.1, q.2)
    (refused_unloaded c.args.table.now c.args.p.now _ _ _
    (rw c.in_ok-table.ensures.table at c.in_ok-table.table.accepted) _ (rw c.in_ok-page.ensures.page at c.in_ok-page.page.accepted) c.if-out-lt-KEY_SIZE.false
    (rw (c.in_ok-page.ensures.page, c.in_ok-table.ensures.table) at c.in_err-load_key.ensures))
