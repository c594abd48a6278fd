-- `record::next::seal_by` meets its contract: sealing's tests by an IV of the length that the session's have, then whether the session gave one.
-- Assumes nothing.
use mathlib.Core.Path.{◌≡◌, refl, sym, ap, ◌∙◌}
use mathlib.Core.List.{List}
use Prim.Native.Nat.{ℕ}
use lib.ListN.{length, replicate}
use borrow.Author.Rules.{rules}
use Rattle.std.proofs.Common
use Rattle.std.proofs.lemmas.Result.{MatchResult-weaker}
use Rattle.std.specs.Prelude.{Result, Ok, Err, MatchResult}
use Rattle.std.specs.Result.{IsErrAnd}
use Rattle.refusals.specs.Numbers.{number_of}
use Rattle.refusals.specs.declared.Refusal.{Refusal}
use Rattle.refusals.proofs.Laws.{not_zero}
use Rattle.session.specs.Iv.{session_iv_size}
use Rattle.session.specs.Calls.{SessionAnswer, advance_answer, issued_says}
use Rattle.session.specs.declared.Session.{Session}
use Rattle.session.specs.declared.Issued.{Issued}
use Rattle.record.specs.Next.{sealed_says}
use Rattle.record.proofs.WithSession.{by-refused, by_spent, by-done}
use Rattle.record.proofs.next.seal_by.Goals.{After-map_or-iv}
use Rattle.record.proofs.next.seal_by.Goals as goal

size : (c : After-map_or-iv) → length c.args.s.prefix ≡ 4
size c = search rules

-- the IV that is handed on is the one that the session gave, or zeros
iv_given : (s : Session) (x : Result Issued Refusal) (iv : List ℕ) → MatchResult x (λ i. iv ≡ i.iv) (λ e. iv ≡ replicate session_iv_size 0) → iv ≡ (issued_says s x).1
iv_given s (Ok i) iv h = h
iv_given s (Err e) iv h = h

gave : (c : After-map_or-iv) → let x = issued_says c.args.s c.advance-issued.result in advance_answer c.args.s ≡ (x.0, c.map_or-iv.result, x.2)
gave c =
    let x = c.advance-issued.result in
    let iv = c.map_or-iv.result in
    let given : MatchResult x (λ i. iv ≡ i.iv) (λ e. iv ≡ replicate session_iv_size 0) = MatchResult-weaker _ {P' = λ i. iv ≡ i.iv} {Q' = λ e. iv ≡ replicate session_iv_size 0}
    c.map_or-iv.ensures (λ i k. search Rattle.std.proofs.Common.rules) (λ e k. k) in
    let y = issued_says c.args.s x in
    c.advance-issued.ensures ∙ ap (λ (v : List ℕ). (y.0, v, y.2)) (sym (iv_given c.args.s x iv given))

-- what an advance answered, with the IV that is handed on
abbrev answered : Session → List ℕ → Result Issued Refusal → SessionAnswer
answered s iv x = ((issued_says s x).0, iv, (issued_says s x).2)

-- a refusal that is handed on leaves the session
refused : (s : Session) (x : Result Session Refusal) (out : List ℕ) (e : Refusal) → IsErrAnd x (λ y. y ≡ e) → sealed_says s (Err e, out) ≡ sealed_says s (x, out)
refused s (Ok t) out e h = absurd h
refused s (Err y) out e h = ap (λ (f : Refusal). (number_of f, out, s)) (sym h)

pub returns-in_err-at : goal.returns-in_err-at
returns-in_err-at c =
    let w = (goal.at.returns-in_err-at c).After-map_or-iv in
    by-refused _ _ _ _ (gave w) (size w) _ _ _ _ _ _ _ c.in_err-at.ensures ∙ refused _ _ _ _ c.from_residual.ensures.1

pub returns-in_err-session : goal.returns-in_err-session
returns-in_err-session c =
    let w = (goal.at.returns-in_err-session c).After-map_or-iv in
    let e = c.in_err-session.field-0.0 in
    let told : advance_answer c.args.s ≡ (number_of e, c.map_or-iv.result, c.args.s) = gave w ∙ ap (answered c.args.s c.map_or-iv.result) c.in_err-session.was in
    by_spent _ _ _ _ told (size w) _ _ _ _ _ _ _ c.in_ok-at.ensures (λ z. not_zero e (sym z)) ∙ refused _ _ _ _ c.from_residual-in_err-session.ensures.1

pub returns : goal.returns
returns c =
    let w = (goal.at.returns c).After-map_or-iv in
    let told : advance_answer c.args.s ≡ (0, c.map_or-iv.result, c.in_ok-session.field-0.session) = gave w ∙ ap (answered c.args.s c.map_or-iv.result) c.in_ok-session.was in
    by-done _ _ _ _ told (size w) _ _ _ _ _ _ _ c.in_ok-at.ensures _ refl c.write.ensures
