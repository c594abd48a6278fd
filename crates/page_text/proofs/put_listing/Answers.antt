-- `page_text::put_listing` meets its contract: over 4,096 bytes there is no other test; else the number that reading gives decides.
-- Assumes nothing.
use mathlib.Core.Path.{refl, sym}
use native.Mathlib.Omega.{arith}
use lib.Dec.{lit<}
use lib.ListN.{replicate}
use Rattle.refusals.proofs.Laws.{not_zero}
use Rattle.page_text.proofs.Listing.{listing-long, listing-refused, listing-fields, refused_fits, number_small}
use Rattle.page_text.proofs.put_listing.Goals as goal

pub returns-then-input-gt-PAGE_MAX : goal.returns-then-input-gt-PAGE_MAX
returns-then-input-gt-PAGE_MAX c =
    rw (listing-long c.args.input.now (omega (arith, c.if-input-gt-PAGE_MAX.true))) (record { text = c.put_refused.ensures; has_room = refused_fits 4 (lit< tt) })

pub returns-in-Err : goal.returns-in-Err
returns-in-Err c =
    rw (listing-refused c.args.input.now (replicate 14 0) c.if-input-gt-PAGE_MAX.false c.in-Err.ensures (λ e. not_zero c.in-Err.refusal (sym e)))
    (record { text = c.put_refused-in-Err.ensures; has_room = refused_fits _ (number_small c.in-Err.refusal) })

pub returns-in-Ok : goal.returns-in-Ok
returns-in-Ok c =
    rw (listing-fields c.args.input.now (replicate 14 0) c.if-input-gt-PAGE_MAX.false c.in-Ok.ensures refl)
    c.put_fields.ensures
