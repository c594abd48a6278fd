-- `aes::forward::all_rounds` meets its contract: the round keys that are gone over are those from 1 on.
-- Assumes nothing.
use Rattle.std.proofs.Common.{◌≡◌, ℕ, ◌+◌, ◌<◌, [], ap, ◌∙◌, arith, get_or, drop, length, length-take, length-drop}
use lib.Seq.{get_or-take, get_or-drop}
use Rattle.aes.specs.Cipher.{round}
use Rattle.aes.proofs.Rounds.{rounds_more}
use Rattle.aes.proofs.forward.all_rounds.Goals as goal

pub loop-k-preserved : goal.loop-k-preserved
loop-k-preserved c =
    let ks = c.args.ks in
    let i = c.loop-k.k-index in
    let inside : i < 13 = omega (arith, length-take 13 (drop 1 ks)) in
    let place : 1 + i ≡ i + 1 = omega arith in
    rounds_more ks i _ _ _ c.loop-k.invariant
    (c.one_round-next.ensures ∙ ap (round c.loop-k.x) (get_or-take 13 (drop 1 ks) i [] inside ∙ get_or-drop 1 ks i [] ∙ ap (λ (k : ℕ). get_or ks k []) place))

pub returns : goal.returns
returns c =
    let ks = c.args.ks in
    let fifteen : length ks ≡ 15 = c.well_formed.0.1.0.1 in
    let done : c.loop-k.k-index ≡ 13 = omega (arith, length-take 13 (drop 1 ks), length-drop 1 ks) in
    cc
