-- `page_writer::wrapping::wrapped_key` meets its contract: with keys of 32 bytes and room wrapping is never refused.
-- Assumes nothing.
use mathlib.Core.Path.{sym, ap, ◌∙◌}
use mathlib.Core.List.{List}
use Prim.Native.Nat.{ℕ}
use native.Mathlib.Omega.{arith}
use lib.ListN.{replicate}
use Rattle.octets.proofs.Lent.{over_zeros}
use Rattle.keywrap.specs.Wrap.{wrapped}
use Rattle.keywrap.specs.Calls.{wrapped_size}
use Rattle.keywrap.proofs.Laws.{wraps_in_range, wrapped-length}
use Rattle.page_writer.proofs.Parts.{not_refused}
use Rattle.page_writer.proofs.wrapping.wrapped_key.Goals as goal

pub unwrap-requires : goal.unwrap-requires
unwrap-requires c =
    let a = c.args in
    not_refused c.wrap.result (ap (λ (x : ℕ × List ℕ). x.0) (sym c.wrap.ensures ∙ wraps_in_range a.kek.now a.key.now (replicate wrapped_size 0) c.requires.0 c.requires.1 (omega arith)))

pub returns : goal.returns
returns c =
    let a = c.args in
    ap (λ (x : ℕ × List ℕ). x.1) (sym c.wrap.ensures ∙ wraps_in_range a.kek.now a.key.now (replicate wrapped_size 0) c.requires.0 c.requires.1 (omega arith))
    ∙ over_zeros (wrapped a.kek.now a.key.now) wrapped_size (wrapped-length a.kek.now a.key.now)
