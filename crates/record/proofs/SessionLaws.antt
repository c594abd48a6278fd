-- The laws of sealing with a session (specs/Laws.antt).
-- Assumes nothing.
use mathlib.Core.Path.{◌≡◌, refl, sym, ap, ap₂, ◌∙◌}
use Rattle.std.specs.Prelude.{Result, Ok, Err}
use Rattle.refusals.specs.declared.Refusal.{Refusal}
use Rattle.refusals.proofs.Laws.{not_zero, refusal_unique}
use mathlib.Core.Bool.{Bool, true, false}
use mathlib.Core.List.{List, ◌++◌, append_assoc}
use mathlib.Core.Option.{Option}
use Prim.Native.Nat.{ℕ, ◌+◌, ◌-◌, ◌≤◌}
use native.Mathlib.Omega.{arith}
use borrow.Author.Tests.{eqb-true, eqb-false, ne_eqb, not-false}
use lib.Dec.{eqb}
use lib.ListN.{length, take, drop, length-append}
use lib.Seq.{take-append-add}
use Rattle.octets.specs.Lent.{when, over}
use Rattle.octets.proofs.Tests.{part_at}
use Rattle.octets.proofs.Unique.{unique}
use Rattle.keytable.specs.Row.{name_max, Row}
use Rattle.keytable.specs.Table.{table_ok, data_row}
use Rattle.keytable.proofs.Laws.{kek-row_more}
use Rattle.session.specs.Iv.{last_field, with_fields, is_spent, iv_of, next_session}
use Rattle.session.specs.Calls.{SessionAnswer, session_after}
use Rattle.session.specs.Laws.{SessionRun}
use Rattle.session.specs.declared.Session.{Session}
use Rattle.session.proofs.Runs.{run_differs}
use Rattle.modes.specs.Calls.{text_max}
use Rattle.modes.specs.Modes.{mode_of}
use Rattle.record.specs.Record.{iv_at_lem, iv_in, record_front}
use Rattle.record.specs.Seal.{record_of, sealed_size, seal_number, seal_row}
use Rattle.record.specs.Next.{sealed_says, seal_next_number, seal_next_row, seal_next_answer}
use Rattle.record.specs.Laws.{NextOtherRows, NextBesideKek, NextLive, NextSpent, NextSeals, NextAdvances, NextRefused, Lent, seal_before, seal_call, written, RecordsDiffer}
use Rattle.record.specs.Laws.{SealByUnique, SealNextUnique, SealNextTestsRise}
use Rattle.octets.proofs.Lent.{answer-done, over_append}
use Rattle.record.proofs.Written.{length_front, read_back}
use Rattle.record.proofs.Sealed.{in_range, seals_in_range}
use Rattle.record.proofs.WithSession.{next-zero, next_live, next_spent, next-done}

-- ---- one call

pub next_other-rows : NextOtherRows
next_other-rows s t u name a p out ok-t ok-u e = rw (ok-t, ok-u, e)

pub next_beside_kek : NextBesideKek
next_beside_kek s t u row name a p out ok-t ok-u more kek =
    next_other-rows s u t name a p out ok-u ok-t (kek-row_more t u row name ok-u more kek)

pub next_as_sealing : NextLive
unfolding seal_next_row seal_row
next_as_sealing s t name a p out live = rw (next_live s (table_ok t) (data_row t name) name a p (length out) live)

pub next_where_spent : NextSpent
unfolding seal_row
next_where_spent s t name a p out spent e = next_spent s (table_ok t) (data_row t name) name a p out e spent

-- 0 by the definition: sealing gave 0, and the session is not spent
next_told : (s : Session) (t name a p out : List ℕ) → (seal_next_answer s t name a p out).0 ≡ 0
    → (seal_number (table_ok t) (data_row t name) name (iv_of s) a (length p) (length out) ≡ 0) × (is_spent s ≡ false)
unfolding seal_next_row
next_told s t name a p out e = next-zero s (table_ok t) (data_row t name) name a p (length out) e

pub next_seals : NextSeals
unfolding seal_row
next_seals s t name a p out e =
    let (number, live) = next_told s t name a p out e in
    answer-done _ _ out number
    ∙ ap (λ (x : SessionAnswer). (0, x.1)) (sym (next-done s (table_ok t) (data_row t name) name a p out number live))

-- an IV always leads to another session
moved : (s : Session) → is_spent s ≡ false → next_session s ≡ s → ⊥
moved s live = go (eqb s.next last_field)
  where
    zero_spent : s.spent ≡ 0
    zero_spent = eqb-true s.spent 0 (not-false (eqb s.spent 0) live)

    go : (b : Bool) → when b (with_fields s.prefix s.next 1) (with_fields s.prefix (s.next + 1) 0) ≡ s → ⊥
    go true e = let one : 1 ≡ s.spent = ap (λ (u : Session). u.spent) e in omega (arith, one, zero_spent)
    go false e = let more : s.next + 1 ≡ s.next = ap (λ (u : Session). u.next) e in omega (arith, more)

next_moves : (s : Session) (t name a p out : List ℕ) → (seal_next_answer s t name a p out).2 ≡ session_after (seal_next_answer s t name a p out).0 s
unfolding seal_next_row
next_moves s t name a p out = refl

pub next-refused-same : NextRefused
unfolding seal_next_row
next-refused-same s t name a p out h = rw (ne_eqb (seal_next_number s (table_ok t) (data_row t name) name a (length p) (length out)) 0 h)

pub next_advances : NextAdvances
next_advances s t name a p out = (advances, (changes, changed))
  where
    n : ℕ
    n = (seal_next_answer s t name a p out).0

    advances : n ≡ 0 → (seal_next_answer s t name a p out).2 ≡ next_session s
    advances e = next_moves s t name a p out ∙ ap (λ (m : ℕ). session_after m s) e

    changes : n ≡ 0 → (seal_next_answer s t name a p out).2 ≡ s → ⊥
    changes e same = moved s (next_told s t name a p out e).1 (sym (advances e) ∙ same)

    changed : ((seal_next_answer s t name a p out).2 ≡ s → ⊥) → n ≡ 0
    changed h = go (eqb n 0) refl
      where
        go : (b : Bool) → eqb n 0 ≡ b → n ≡ 0
        go true e = eqb-true n 0 e
        go false e = absurd (h (ap (λ (x : SessionAnswer). x.2) (next-refused-same s t name a p out (eqb-false n 0 e))))

-- ---- the IV of the record that was written

-- what is written begins with the front and the IV
begun : (F iv S out : List ℕ) (size : ℕ) → length F + length iv ≤ size → size ≤ length out
    → take size (over (F ++ (iv ++ S)) out) ≡ F ++ (iv ++ take (size - (length F + length iv)) (over S (drop (length (F ++ iv)) out)))
begun F iv S out size short fits =
    ap (take size) (ap (λ (l : List ℕ). over l out) (sym (append_assoc F iv S)) ∙ over_append (F ++ iv) S out (omega (arith, both)))
    ∙ ap (λ (n : ℕ). take n ((F ++ iv) ++ rest)) up_to
    ∙ take-append-add (F ++ iv) rest (size - (length F + length iv))
    ∙ append_assoc F iv (take (size - (length F + length iv)) rest)
  where
    rest : List ℕ
    rest = over S (drop (length (F ++ iv)) out)

    both : length (F ++ iv) ≡ length F + length iv
    both = length-append F iv

    up_to : size ≡ length (F ++ iv) + (size - (length F + length iv))
    up_to = omega (arith, both)

-- and its fields say where the IV stands
iv_read : (u : ℕ) (name : List ℕ) (n : ℕ) (iv rest : List ℕ) → length name ≤ name_max → n ≤ text_max → length iv ≡ (mode_of u).iv_size
    → iv_in (record_front u name n ++ (iv ++ rest)) ≡ iv
unfolding iv_in
iv_read u name n iv rest short few size =
    let fields = read_back u n name (iv ++ rest) short few in
    rw (fields.mode, fields.size) (part_at (record_front u name n) iv rest (iv_at_lem (length name)) (mode_of u).iv_size (length_front u name n) size)

iv-written : (s : Session) (t name a p out : List ℕ) → (seal_next_answer s t name a p out).0 ≡ 0
    → iv_in (take (sealed_size (data_row t name) name (length p)) (seal_next_answer s t name a p out).1) ≡ iv_of s
unfolding record_of
iv-written s t name a p out e =
    let (number, live) = next_told s t name a p out e in
    let h = in_range (table_ok t) name (iv_of s) a (length p) (length out) (data_row t name) number in
    let u = h.found-row.row_use in
    let F = record_front u name (length p) in
    let size = sealed_size (data_row t name) name (length p) in
    let size_is = ap (λ (o : Option Row). sealed_size o name (length p)) h.found_is in
    let fits : size ≤ length out = omega (arith, size_is, h.room_fits) in
    let short : length F + length (iv_of s) ≤ size = omega (arith, size_is, length_front u name (length p), h.iv-size) in
    ap (λ (l : List ℕ). iv_in (take size l))
    (ap (λ (x : ℕ × List ℕ). x.1) (sym (next_seals s t name a p out e) ∙ seals_in_range t name (iv_of s) a p out h))
    ∙ ap iv_in (begun F (iv_of s) _ out size short fits)
    ∙ iv_read u name (length p) (iv_of s) _ h.name_fits h.text_fits h.iv-size

-- ---- calls one after another

calls : (lent : ℕ → Lent) (s : Session) → SessionRun (seal_before lent s) (λ i. (seal_call lent s i).0)
calls lent s =
    record {
      moves = λ i. let l = lent i in next_moves (seal_before lent s i) l.table l.name l.aad l.plain l.out;
      live = λ i e. let l = lent i in (next_told (seal_before lent s i) l.table l.name l.aad l.plain l.out e).1;
    }

pub records-differ : RecordsDiffer
records-differ s lent i j below hi hj e = run_differs (seal_before lent s) _ (calls lent s) below i j hi hj (sym (given i hi) ∙ e ∙ given j hj)
  where
    given : (k : ℕ) → (seal_call lent s k).0 ≡ 0 → iv_in (written lent s k) ≡ iv_of (seal_before lent s k)
    given k = let l = lent k in iv-written (seal_before lent s k) l.table l.name l.aad l.plain l.out

-- ---- one answer

pub seal-by_unique : SealByUnique
seal-by_unique s t name a p out x y e f = same x y (e ∙ sym f)
  where
    same : (x y : Result Session Refusal × List ℕ) → sealed_says s x ≡ sealed_says s y → x ≡ y
    same (Ok a, l) (Ok b, m) h = ap₂ (λ (t : Session) (k : List ℕ). (Ok t, k)) (ap (λ (z : SessionAnswer). z.2) h) (ap (λ (z : SessionAnswer). z.1) h)
    same (Ok a, l) (Err d, m) h = absurd (not_zero d (ap (λ (z : SessionAnswer). z.0) h))
    same (Err d, l) (Ok b, m) h = absurd (not_zero d (sym (ap (λ (z : SessionAnswer). z.0) h)))
    same (Err d, l) (Err g, m) h =
        ap₂ (λ (r : Refusal) (k : List ℕ). (Err r, k)) (refusal_unique d g (ap (λ (z : SessionAnswer). z.0) h)) (ap (λ (z : SessionAnswer). z.1) h)

pub seal_next_unique : SealNextUnique
seal_next_unique s t name a p out = unique (seal_next_answer s t name a p out)

-- ---- the numbers rise

pub seal_next_tests_rise : SealNextTestsRise
seal_next_tests_rise s ok row name a n room = refl
