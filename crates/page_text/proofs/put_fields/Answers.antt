-- `page_text::put_fields` meets its contract: eight lines, one after the other, which fit together.
-- Assumes nothing.
use Prim.Native.Nat.{ℕ, ◌^◌, ◌<◌}
use lib.Dec.{lit<}
use lib.ListN.{get_or}
use denote.Builtin.{u64}
use Rattle.octets.proofs.Arrays.{array-all}
use Rattle.page_text.proofs.Listing.{lines_fit}
use Rattle.page_text.proofs.put_fields.Goals as goal

pub returns-clause-has_room : goal.returns-clause-has_room
returns-clause-has_room c =
    let small : (k : ℕ) → get_or c.args.fields k 0 < 2 ^ 64 = array-all u64 (λ x. x < 2 ^ 64) 0 (lit< tt) (λ x us q. q.1) 14 c.args.fields _ c.well_formed.1.0 in
    lines_fit c.args.fields small
