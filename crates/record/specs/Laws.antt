-- What the records promise beside demand 3, as statements; proofs/Laws.antt, Sealed.antt, Earlier.antt and SessionLaws.antt prove them.
-- Assumes nothing.
use Rattle.std.specs.Prelude.{◌≡◌, ◌↔◌, Bool, true, false, List, [], ◌∷◌, ◌++◌, ℕ, zero, suc, ◌+◌, ◌^◌, ◌≤◌, ◌<◌, length, take, drop}
use Rattle.std.proofs.Math.Option.{Option, some}
use Rattle.octets.specs.Bytes.{Bytes}
use Rattle.octets.specs.Lent.{over}
use Rattle.octets.specs.Lowest.{rises}
use Rattle.octets.specs.Unique.{Unique, UniqueBy}
use Rattle.keytable.specs.Row.{name_max, kek_use, Row}
use Rattle.keytable.specs.Table.{table_ok, data_row, row_at}
use Rattle.keytable.specs.Laws.{RowMore}
use Rattle.modes.specs.Calls.{text_max}
use Rattle.modes.specs.Modes.{names_mode, mode_of}
use Rattle.session.specs.Iv.{is_spent, iv_of, next_session}
use Rattle.session.specs.Calls.{SessionAnswer, session_after}
use Rattle.session.specs.declared.Session.{Session}
use Rattle.record.specs.Record.{end_at, mode_in, count_in, name_size_lem, end_in, layout_ok, front_in, name_in, iv_in, record_front}
use Rattle.record.specs.Read.{header_tests, header_says, header_number, header_answer}
use Rattle.record.specs.Seal.{callers_max, record_of, sealed_size, seal_tests, seal_answer}
use Rattle.record.specs.Open.{record_tag_tests, open_tests, open_answer, verify_answer, opened_at, opening_says}
use Rattle.record.specs.Demand3.{Opens, Seals}
use Rattle.record.specs.Next.{sealed_says, seal_next_tests, seal_next_answer}

-- ---- the header, there and back

-- the fields read from a written header are those written, whatever comes after it
pub record ReadBack (u n : ℕ) (name r : List ℕ) : Type 0 where
  pub mode : mode_in r ≡ u
  pub count : count_in r ≡ n
  pub size : name_size_lem r ≡ length name
  pub name_is : name_in r ≡ name

abbrev pub HeaderThere : Type 0
HeaderThere = (u n : ℕ) (name rest : List ℕ) → length name ≤ name_max → n ≤ text_max → ReadBack u n name (record_front u name n ++ rest)

-- the first 24+k bytes of a record that keeps to the layout are the header written from its fields, and its name
abbrev pub HeaderBack : Type 0
HeaderBack = (r : List ℕ) → Bytes r → layout_ok r ≡ true → front_in r ≡ record_front (mode_in r) (name_in r) (count_in r)

-- "and the end at 52+k+n", in either mode
abbrev pub EndSum : Type 0
EndSum = (u k n : ℕ) → end_at (mode_of u) k n ≡ 52 + k + n

-- ---- sealing in range

-- an accepted table with a row of the name; a name, an IV and n bytes of plaintext that document 01 permits; and room for the record
pub record SealInRange (ok : Bool) (found : Option Row) (name iv a : List ℕ) (n room : ℕ) : Type 0 where
  pub accepted : ok ≡ true
  pub found-row : Row
  pub found_is : found ≡ some found-row
  pub name-given : 1 ≤ length name
  pub iv-size : length iv ≡ (mode_of found-row.row_use).iv_size
  pub permitted : (mode_of found-row.row_use).permits n ≡ true
  pub name_fits : length name ≤ name_max
  pub text_fits : n ≤ text_max
  pub data_fits : length a ≤ callers_max
  pub room_fits : sealed_size (some found-row) name n ≤ room

-- sealing then gives 0, and the record of the row's use and key over the front of the output; and 0 in no other case
abbrev pub SealsInRange : Type 0
SealsInRange =
    (t name iv a p out : List ℕ) (h : SealInRange (table_ok t) (data_row t name) name iv a (length p) (length out))
    → seal_answer t name iv a p out ≡ (0, over (record_of h.found-row.row_use h.found-row.row_key name iv a p) out)

abbrev pub SealsOnlyInRange : Type 0
SealsOnlyInRange =
    (t name iv a p out : List ℕ) → (seal_answer t name iv a p out).0 ≡ 0 → SealInRange (table_ok t) (data_row t name) name iv a (length p) (length out)

-- the row's use is a mode: a key-encrypting key's row has another type than records look for
abbrev pub DataRowMode : Type 0
DataRowMode = (t name : List ℕ) (row : Row) → table_ok t ≡ true → data_row t name ≡ some row → names_mode row.row_use ≡ true

-- ---- "Between two accepted tables with the same row for a name, or both with none, the other rows change no answer for that name"

abbrev pub SealOtherRows : Type 0
SealOtherRows =
    (t u name iv a p out : List ℕ) → table_ok t ≡ true → table_ok u ≡ true → data_row t name ≡ data_row u name
    → seal_answer t name iv a p out ≡ seal_answer u name iv a p out

abbrev pub OpenOtherRows : Type 0
OpenOtherRows =
    (t u r a out : List ℕ) (count : ℕ) → table_ok t ≡ true → table_ok u ≡ true → data_row t (name_in r) ≡ data_row u (name_in r)
    → open_answer t r a out count ≡ open_answer u r a out count

abbrev pub VerifyOtherRows : Type 0
VerifyOtherRows =
    (t u r a : List ℕ) → table_ok t ≡ true → table_ok u ≡ true → data_row t (name_in r) ≡ data_row u (name_in r) → verify_answer t r a ≡ verify_answer u r a

abbrev pub NextOtherRows : Type 0
NextOtherRows =
    (s : Session) (t u name a p out : List ℕ) → table_ok t ≡ true → table_ok u ≡ true → data_row t name ≡ data_row u name
    → seal_next_answer s t name a p out ≡ seal_next_answer s u name a p out

-- so the row of a key-encrypting key changes no answer for a record, were it of the record's own name

abbrev pub SealBesideKek : Type 0
SealBesideKek =
    (t u : List ℕ) (row : Row) (name iv a p out : List ℕ) → table_ok t ≡ true → table_ok u ≡ true → RowMore t u row → row.row_use ≡ kek_use
    → seal_answer u name iv a p out ≡ seal_answer t name iv a p out

abbrev pub OpenBesideKek : Type 0
OpenBesideKek =
    (t u : List ℕ) (row : Row) (r a out : List ℕ) (count : ℕ) → table_ok t ≡ true → table_ok u ≡ true → RowMore t u row → row.row_use ≡ kek_use
    → open_answer u r a out count ≡ open_answer t r a out count

abbrev pub VerifyBesideKek : Type 0
VerifyBesideKek =
    (t u : List ℕ) (row : Row) (r a : List ℕ) → table_ok t ≡ true → table_ok u ≡ true → RowMore t u row → row.row_use ≡ kek_use
    → verify_answer u r a ≡ verify_answer t r a

abbrev pub NextBesideKek : Type 0
NextBesideKek =
    (s : Session) (t u : List ℕ) (row : Row) (name a p out : List ℕ) → table_ok t ≡ true → table_ok u ≡ true → RowMore t u row → row.row_use ≡ kek_use
    → seal_next_answer s u name a p out ≡ seal_next_answer s t name a p out

-- ---- verification

-- it is the number that opening gives into any output with room for n bytes
abbrev pub VerifyAsOpening : Type 0
VerifyAsOpening = (t r a out : List ℕ) (count : ℕ) → count_in r ≤ length out → verify_answer t r a ≡ (open_answer t r a out count).0.0

-- so 0 exactly when opening with room gives some p, and exactly when some p was sealed so (specs/Demand3.antt)
pub record SomeSeals (t name iv a r : List ℕ) : Type 0 where
  pub plain : List ℕ
  pub seals : Seals t name iv a plain r

abbrev pub VerifyExactly : Type 0
VerifyExactly = (t r a : List ℕ) → Bytes t → Bytes r → (verify_answer t r a ≡ 0) ↔ SomeSeals t (name_in r) (iv_in r) a r

pub record SomeOpens (t r a out : List ℕ) (count : ℕ) : Type 0 where
  pub plain : List ℕ
  pub opens : Opens t r a out count plain

abbrev pub VerifyOpens : Type 0
VerifyOpens = (t r a out : List ℕ) (count : ℕ) → Bytes t → Bytes r → count_in r ≤ length out → (verify_answer t r a ≡ 0) ↔ SomeOpens t r a out count

-- it is never 5
abbrev pub VerifyNotFive : Type 0
VerifyNotFive = (t r a : List ℕ) → verify_answer t r a ≡ 5 → ⊥

-- what a caller that has checked the table is told is that number, and with 0 the place of the row of the record's name
abbrev pub OpenedVerifies : Type 0
OpenedVerifies = (t r a : List ℕ) → table_ok t ≡ true → (opened_at t r a).0 ≡ verify_answer t r a

abbrev pub OpenedByRow : Type 0
OpenedByRow = (t r a : List ℕ) (place : ℕ) → table_ok t ≡ true → opened_at t r a ≡ (0, place ∷ []) → data_row t (name_in r) ≡ some (row_at t place)

-- and 0 comes with a place
abbrev pub OpenedPlaced : Type 0
OpenedPlaced = (t r a : List ℕ) → (opened_at t r a).0 ≡ 0 → (opened_at t r a).1 ≡ [] → ⊥

-- ---- what an output held before never matters, only its length: two outputs of one length get one number, and after 0 the same bytes up to
-- the result's end and their own after it

pub record Alike (size : ℕ) (out out' : List ℕ) (x x' : ℕ × List ℕ) : Type 0 where
  pub one_number : x.0 ≡ x'.0
  pub result : x.0 ≡ 0 → take size x.1 ≡ take size x'.1
  pub rest : x.0 ≡ 0 → drop size x.1 ≡ drop size out
  pub rest' : x.0 ≡ 0 → drop size x'.1 ≡ drop size out'

abbrev pub SealEarlier : Type 0
SealEarlier =
    (t name iv a p out out' : List ℕ) → Bytes t → Bytes iv → length out ≡ length out'
    → Alike (sealed_size (data_row t name) name (length p)) out out' (seal_answer t name iv a p out) (seal_answer t name iv a p out')

abbrev pub OpenEarlier : Type 0
OpenEarlier =
    (t r a out out' : List ℕ) (count count' : ℕ) → Bytes t → Bytes r → length out ≡ length out'
    → Alike (count_in r) out out' (open_answer t r a out count).0 (open_answer t r a out' count').0

-- with a session, which is then left the same too
abbrev pub NextEarlier : Type 0
NextEarlier =
    (s : Session) (t name a p out out' : List ℕ) → Bytes t → Bytes s.prefix → length out ≡ length out'
    → let x = seal_next_answer s t name a p out in
    let x' = seal_next_answer s t name a p out' in
    Alike (sealed_size (data_row t name) name (length p)) out out' (x.0, x.1) (x'.0, x'.1) × (x.2 ≡ x'.2)

-- ---- sealing with a session

-- a session that is not spent answers as sealing with its next IV does, and one that is spent gives 10 where that would give 0
abbrev pub NextLive : Type 0
NextLive =
    (s : Session) (t name a p out : List ℕ) → is_spent s ≡ false
    → let x = seal_answer t name (iv_of s) a p out in
    seal_next_answer s t name a p out ≡ (x.0, x.1, session_after x.0 s)

abbrev pub NextSpent : Type 0
NextSpent =
    (s : Session) (t name a p out : List ℕ) → is_spent s ≡ true → (seal_answer t name (iv_of s) a p out).0 ≡ 0
    → seal_next_answer s t name a p out ≡ (10, out, s)

-- what it writes with 0 is what sealing with that IV writes
abbrev pub NextSeals : Type 0
NextSeals =
    (s : Session) (t name a p out : List ℕ) → (seal_next_answer s t name a p out).0 ≡ 0
    → seal_answer t name (iv_of s) a p out ≡ (0, (seal_next_answer s t name a p out).1)

-- the session advances exactly when the answer is 0
abbrev pub NextAdvances : Type 0
NextAdvances =
    (s : Session) (t name a p out : List ℕ)
    → let x = seal_next_answer s t name a p out in
    (x.0 ≡ 0 → x.2 ≡ next_session s) × (x.0 ≡ 0 ↔ (x.2 ≡ s → ⊥))

-- "After any but 0, each lent buffer and session is unchanged"
abbrev pub NextRefused : Type 0
NextRefused =
    (s : Session) (t name a p out : List ℕ)
    → let x = seal_next_answer s t name a p out in
    (x.0 ≡ 0 → ⊥) → x ≡ (x.0, out, s)

-- calls one after another: what is lent to each beside the session
pub record Lent : Type 0 where
  pub table : List ℕ
  pub name : List ℕ
  pub aad : List ℕ
  pub plain : List ℕ
  pub out : List ℕ

abbrev pub seal_next : Session → Lent → SessionAnswer
seal_next s l = seal_next_answer s l.table l.name l.aad l.plain l.out

-- the session before call number i, from 0; that call; and the record that it wrote where it gave 0
abbrev pub seal_before : (ℕ → Lent) → Session → ℕ → Session
seal_before lent s zero = s
seal_before lent s (suc i) = (seal_next (seal_before lent s i) (lent i)).2

abbrev pub seal_call : (ℕ → Lent) → Session → ℕ → SessionAnswer
seal_call lent s i = seal_next (seal_before lent s i) (lent i)

abbrev pub written : (ℕ → Lent) → Session → ℕ → List ℕ
written lent s i = take (sealed_size (data_row (lent i).table (lent i).name) (lent i).name (length (lent i).plain)) (seal_call lent s i).1

-- "So one session's IVs all differ": the records of one session have different IVs, whatever was lent and whatever was refused between them
abbrev pub RecordsDiffer : Type 0
RecordsDiffer =
    (s : Session) (lent : ℕ → Lent) (i j : ℕ) → s.next < 2 ^ 64 → (seal_call lent s i).0 ≡ 0 → (seal_call lent s j).0 ≡ 0
    → iv_in (written lent s i) ≡ iv_in (written lent s j) → i ≡ j

-- ---- for each input one answer, and one state of what is lent

abbrev pub HeaderUnique : Type 0
HeaderUnique = (r : List ℕ) → UniqueBy header_says (header_answer r)

abbrev pub EndUnique : Type 0
EndUnique = (r : List ℕ) → Unique (end_in r)

abbrev pub RecordCheckUnique : Type 0
RecordCheckUnique = (r : List ℕ) → Unique (header_number r)

abbrev pub SealUnique : Type 0
SealUnique = (t name iv a p out : List ℕ) → Unique (seal_answer t name iv a p out)

abbrev pub RecordOpenUnique : Type 0
RecordOpenUnique = (t r a out : List ℕ) (count : ℕ) → Unique (open_answer t r a out count)

abbrev pub RecordVerifyUnique : Type 0
RecordVerifyUnique = (t r a : List ℕ) → Unique (verify_answer t r a)

abbrev pub OpenedByUnique : Type 0
OpenedByUnique = (t r a : List ℕ) → UniqueBy opening_says (opened_at t r a)

abbrev pub SealByUnique : Type 0
SealByUnique = (s : Session) (t name a p out : List ℕ) → UniqueBy (sealed_says s) (seal_next_answer s t name a p out)

abbrev pub SealNextUnique : Type 0
SealNextUnique = (s : Session) (t name a p out : List ℕ) → Unique (seal_next_answer s t name a p out)

-- ---- "The lowest that applies is given": the numbers of each list of tests rise

abbrev pub HeaderTestsRise : Type 0
HeaderTestsRise = (r : List ℕ) → rises (header_tests r) ≡ true

abbrev pub SealTestsRise : Type 0
SealTestsRise = (ok : Bool) (row : Option Row) (name iv a : List ℕ) (n room : ℕ) → rises (seal_tests ok row name iv a n room) ≡ true

abbrev pub RecordTagTestsRise : Type 0
RecordTagTestsRise = (key r a : List ℕ) → rises (record_tag_tests key r a) ≡ true

abbrev pub OpenTestsRise : Type 0
OpenTestsRise = (ok : Bool) (row : Option Row) (r a : List ℕ) (room : ℕ) → rises (open_tests ok row r a room) ≡ true

abbrev pub SealNextTestsRise : Type 0
SealNextTestsRise =
    (s : Session) (ok : Bool) (row : Option Row) (name a : List ℕ) (n room : ℕ) → rises (seal_next_tests s ok row name a n room) ≡ true
