-- The laws of verification (specs/Laws.antt): it is opening where there is room.
-- Assumes nothing.
use mathlib.Core.Path.{◌≡◌, refl, sym, ap, ◌∙◌}
use mathlib.Core.Bool.{Bool, true, false, not, ◌||◌}
use mathlib.Core.List.{List, [], ◌∷◌, nil≢cons}
use mathlib.Core.Option.{Option, none}
use Prim.Native.Nat.{ℕ, ◌≤◌}
use native.Mathlib.Omega.{arith}
use borrow.Author.Tests.{le-ltb}
use lib.Dec.{eqb, ltb}
use lib.ListN.{length, replicate, length-replicate}
use Rattle.octets.specs.Lent.{when}
use Rattle.octets.proofs.Unique.{unique}
use Rattle.keytable.specs.Row.{data_type, Row}
use Rattle.keytable.specs.Table.{table_ok, data_row}
use Rattle.keytable.specs.Calls.{missing, use_in}
use Rattle.keytable.specs.Find.{place_of, found_says, found_answer, row_found}
use Rattle.std.specs.Prelude.{Result, Ok, Err}
use Rattle.refusals.specs.declared.Refusal.{Refusal}
use Rattle.keytable.proofs.Laws.{kek-row_more}
use Rattle.keytable.proofs.Places.{says_same}
use Rattle.modes.specs.Modes.{names_mode}
use Rattle.record.specs.Record.{mode_in, count_in, name_size_lem, layout_ok, name_in, iv_in}
use Rattle.record.specs.Read.{passes}
use Rattle.record.specs.Seal.{callers_max}
use Rattle.record.specs.Open.{authentic_in, open_number, verify_answer, row_looked, opened_number, opened_at}
use Rattle.record.specs.Laws.{VerifyAsOpening, SomeSeals, VerifyExactly, SomeOpens, VerifyOpens, VerifyNotFive, OpenedVerifies, OpenedByRow, OpenedPlaced, VerifyOtherRows, VerifyBesideKek}
use Rattle.record.specs.Laws.{RecordVerifyUnique, OpenedByUnique}
use Rattle.record.proofs.Opened.{open_row_lem, open-number, some-opened, opens_size, as-opens}
use Rattle.record.proofs.OpenReady.{row-looked, opened_as_verified}
use Rattle.record.proofs.Laws.{opens_exactly}

-- ---- opening with room

-- room for the plaintext is room enough, however much there is
number_roomy : (ok : Bool) (row : Option Row) (r a : List ℕ) (room : ℕ) → count_in r ≤ room → open_number ok row r a (count_in r) ≡ open_number ok row r a room
unfolding open_number
number_roomy ok row r a room h = rw (le-ltb room (count_in r) h, le-ltb (count_in r) (count_in r) (omega arith))

pub verify_as_opening : VerifyAsOpening
verify_as_opening t r a out count h = number_roomy (table_ok t) (data_row t (name_in r)) r a (length out) h ∙ sym (open-number t r a out count)

pub verify-opens : VerifyOpens
verify-opens t r a out count table-bytes bytes h = (to, λ o. verify_as_opening t r a out count h ∙ ap (λ (x : (ℕ × List ℕ) × ℕ). x.0.0) o.opens.answers)
  where
    to : verify_answer t r a ≡ 0 → SomeOpens t r a out count
    to e =
        let (p, opened) = some-opened t r a out count (sym (verify_as_opening t r a out count h) ∙ e) in
        record { plain = p; opens = as-opens t r a out count table-bytes bytes p opened }

pub verify_exactly : VerifyExactly
verify_exactly t r a table-bytes bytes = (to, from)
  where
    room : ℕ → List ℕ
    room n = replicate n 0

    to : verify_answer t r a ≡ 0 → SomeSeals t (name_in r) (iv_in r) a r
    to e =
        let fits : count_in r ≤ length (room (count_in r)) = omega (arith, length-replicate {A = ℕ} (count_in r) 0) in
        let some-p = (verify-opens t r a (room (count_in r)) 0 table-bytes bytes fits).0 e in
        let (size, within) = opens_size t r a (room (count_in r)) 0 some-p.plain some-p.opens in
        record { plain = some-p.plain; seals = (opens_exactly t r a (room (count_in r)) 0 some-p.plain table-bytes bytes within).0 some-p.opens }

    from : SomeSeals t (name_in r) (iv_in r) a r → verify_answer t r a ≡ 0
    from h =
        let n = length h.plain in
        let fits : n ≤ length (room n) = omega (arith, length-replicate {A = ℕ} n 0) in
        let opens = (opens_exactly t r a (room n) 0 h.plain table-bytes bytes fits).1 h.seals in
        let (size, within) = opens_size t r a (room n) 0 h.plain opens in
        (verify-opens t r a (room n) 0 table-bytes bytes (omega (arith, size, within))).1 (record { plain = h.plain; opens = opens })

-- ---- 5 is given nowhere

never_five : (a b c d e f g : Bool) → ◌≡◌ {A = ℕ} (when a 1 (when b 2 (when c 3 (when d 4 (when e 6 (when f 7 (when g 9 0))))))) 5 → ⊥
never_five true b c d e f g h = omega arith
never_five false true c d e f g h = omega arith
never_five false false true d e f g h = omega arith
never_five false false false true e f g h = omega arith
never_five false false false false true f g h = omega arith
never_five false false false false false true g h = omega arith
never_five false false false false false false true h = omega arith
never_five false false false false false false false h = omega arith

pub verify-not_five : VerifyNotFive
unfolding open_number
verify-not_five t r a e =
    let row = data_row t (name_in r) in
    never_five (not (table_ok t)) (not (layout_ok r)) (not (names_mode (mode_in r))) (passes (name_size_lem r) (count_in r) || ltb callers_max (length a)) (missing row)
    (not (eqb (use_in row) (mode_in r))) (not (authentic_in row r a)) (rw (le-ltb (count_in r) (count_in r) (omega arith)) at e)

-- ---- for a caller that has checked the table

pub opened_verifies : OpenedVerifies
opened_verifies t r a ok = opened_as_verified t r a ok

-- a lookup that gives a place gives 0
placed : (f : Result ℕ Refusal) (place : ℕ) → (found_says f).1 ≡ place ∷ [] → found_says f ≡ (0, place ∷ [])
placed (Ok i) place h = ap (λ (l : List ℕ). (0, l)) h
placed (Err e) place h = absurd (nil≢cons h)

-- the place is the one that the lookup gives
pub opened_found : (t r a : List ℕ) (place : ℕ) → opened_at t r a ≡ (0, place ∷ []) → found_answer t data_type (name_in r) ≡ (0, place ∷ [])
unfolding opened_at
opened_found t r a place e = placed (place_of t data_type (name_in r)) place (rw (ap (λ (x : ℕ × List ℕ). x.0) e) at (ap (λ (x : ℕ × List ℕ). x.1) e))

pub opened-by-row : OpenedByRow
opened-by-row t r a place ok e =
    row-looked t r ok ∙ ap (row_found t) (sym (says_same (Ok place) (place_of t data_type (name_in r)) (sym (opened_found t r a place e))))

-- 0 comes with a place
pub opened-placed : OpenedPlaced
unfolding opened_at opened_number
opened-placed t r a e = go (place_of t data_type (name_in r)) refl
  where
    none-opens : row_looked t r ≡ none → ⊥
    none-opens h = let (row, has) = open_row_lem true r a (count_in r) (row_looked t r) e in let z : ◌≡◌ {A = ℕ} 0 1 = cc in absurd (omega arith)

    go : (f : Result ℕ Refusal) → place_of t data_type (name_in r) ≡ f → (opened_at t r a).1 ≡ [] → ⊥
    go (Ok i) is h = let here : (opened_at t r a).1 ≡ i ∷ [] = rw (e, is) in nil≢cons (sym h ∙ here)
    go (Err x) is h = none-opens (ap (row_found t) is)

-- ---- other rows

pub verify_other-rows : VerifyOtherRows
verify_other-rows t u r a ok-t ok-u e = rw (ok-t, ok-u, e)

pub verify_beside_kek : VerifyBesideKek
verify_beside_kek t u row r a ok-t ok-u more kek = verify_other-rows u t r a ok-u ok-t (kek-row_more t u row (name_in r) ok-u more kek)

-- ---- one answer

pub record_verify_unique : RecordVerifyUnique
record_verify_unique t r a = unique (verify_answer t r a)

pub opened-by_unique : OpenedByUnique
opened-by_unique t r a x y p q = says_same x y (p ∙ sym q)
