-- `wording::hex::read` meets its contract: each return by the tests before it, and the last by what the writing ensures.
-- Assumes nothing.
use mathlib.Core.Path.{◌≡◌, sym, ap, ◌∙◌}
use mathlib.Core.Bool.{true}
use mathlib.Core.List.{List}
use Prim.Native.Nat.{ℕ}
use Rattle.wording.specs.Hex.{is_hex}
use Rattle.wording.proofs.Digits.{read_no_hex, read_no_room, read_done, hex_even}
use Rattle.wording.proofs.hex.read.Goals.{Else-not-is_hex}
use Rattle.wording.proofs.hex.read.Goals as goal

hex : (c : Else-not-is_hex) → is_hex c.args.word.now ≡ true
hex c = sym c.is_hex.ensures ∙ c.if-not-is_hex.false

pub returns-then-not-is_hex : goal.returns-then-not-is_hex
returns-then-not-is_hex c = read_no_hex _ _ (sym c.is_hex.ensures ∙ c.if-not-is_hex.true)

pub returns-then-out-word : goal.returns-then-out-word
returns-then-out-word c = read_no_room _ _ (hex (goal.at.returns-then-out-word c).Else-not-is_hex) c.if-out-word.true

pub fill_bytes-requires : goal.fill_bytes-requires
fill_bytes-requires c = (hex_even _ (hex (goal.at.fill_bytes-requires c).Else-not-is_hex), c.if-out-word.false)

pub returns : goal.returns
returns c =
    let s = c.args in
    read_done s.word.now s.out.now (hex (goal.at.returns c).Else-not-is_hex) c.if-out-word.false ∙ ap (λ (l : List ℕ). (0, l)) (sym c.fill_bytes.ensures)
