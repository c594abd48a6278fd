-- Demand 3 (specs/Demand3.antt) and the laws of specs/Laws.antt.
-- Assumes nothing.
use mathlib.Core.Path.{◌≡◌, refl, sym, ap, ◌∙◌}
use mathlib.Core.List.{List, [], ◌∷◌}
use Prim.Native.Nat.{ℕ, ◌+◌}
use native.Mathlib.Omega.{arith}
use lib.ListN.{length, get_or}
use Rattle.octets.specs.Bytes.{Bytes}
use Rattle.octets.proofs.Lent.{over_injective}
use Rattle.octets.proofs.Unique.{unique}
use Rattle.keytable.specs.Row.{Row}
use Rattle.keytable.specs.Table.{table_ok, data_row}
use Rattle.keytable.proofs.Laws.{kek-row_more}
use Rattle.modes.proofs.Named.{each_mode}
use Rattle.record.specs.Record.{end_at, end_in, name_in, iv_in}
use Rattle.record.specs.Read.{header_number}
use Rattle.record.specs.Seal.{seal_answer}
use Rattle.record.specs.Open.{plaintext_by, open_number, open_answer}
use Rattle.record.specs.Demand3.{OpensExactly, OnePlaintext, OneOpening, ElseRefuses, SealedOpens}
use Rattle.record.specs.Laws.{HeaderThere, HeaderBack, EndSum, SealOtherRows, OpenOtherRows, SealBesideKek, OpenBesideKek}
use Rattle.record.specs.Laws.{HeaderUnique, EndUnique, RecordCheckUnique, SealUnique, RecordOpenUnique}
use Rattle.record.specs.Laws.{HeaderTestsRise, SealTestsRise, RecordTagTestsRise, OpenTestsRise}
use Rattle.record.specs.declared.header.Header.{Header}
use Rattle.refusals.proofs.Laws.{says_same}
use Rattle.record.proofs.Written.{read_back, front_back}
use Rattle.record.proofs.Laid.{Laid}
use Rattle.record.proofs.Sealed.{text_by, tag_by, SealedAs, as_keyed, seals_as, as_seals, as_laid}
use Rattle.record.proofs.OpenNumbers.{row-refused}
use Rattle.record.proofs.Opened.{open-number, some-opened, opens_size, opens_as, as-opens}
use Rattle.record.proofs.Exactly.{plaintext_back, opened-sealed, sealed-opened}

-- ---- demand 3

pub opens_exactly : OpensExactly
opens_exactly t r a out count p table-bytes bytes room = (
  λ h. as_seals t (name_in r) (iv_in r) a p r table-bytes (opened-sealed t r a out p table-bytes bytes (opens_as t r a out count table-bytes bytes p h)),
  λ h. as-opens t r a out count table-bytes bytes p (sealed-opened t r a out p table-bytes bytes room (seals_as t (name_in r) (iv_in r) a p r table-bytes bytes h)),
)

-- the plaintext that sealing by a row made r of
undone : (t name iv a p r : List ℕ) → Bytes t → (s : SealedAs t name iv a p r) → plaintext_by s.able.found-row.row_key r ≡ p
undone t name iv a p r bytes s =
    plaintext_back s.able.found-row.row_use s.able.found-row.row_key name iv a p r (as_keyed t name iv a p r bytes s) s.able.permitted s.bytes
    (as_laid t name iv a p r bytes s)

pub one_plaintext : OnePlaintext
one_plaintext t name iv a p p' r table-bytes bytes h h' =
    sym (undone t name iv a p r table-bytes s) ∙ ap (λ (row : Row). plaintext_by row.row_key r) same_row ∙ undone t name iv a p' r table-bytes s'
  where
    s : SealedAs t name iv a p r
    s = seals_as t name iv a p r table-bytes bytes h

    s' : SealedAs t name iv a p' r
    s' = seals_as t name iv a p' r table-bytes bytes h'

    same_row : s.able.found-row ≡ s'.able.found-row
    same_row = cc (s.able.found_is, s'.able.found_is)

pub one_opening : OneOpening
one_opening t r a out count p p' h h' =
    let (size, fits) = opens_size t r a out count p h in
    let (size', fits') = opens_size t r a out count p' h' in
    over_injective p p' out (sym size ∙ size') fits' (ap (λ (x : (ℕ × List ℕ) × ℕ). x.0.1) (sym h.answers ∙ h'.answers))

pub else_refuses : ElseRefuses
else_refuses t r a out count table-bytes bytes none =
    record { refusal = number; not-zero = not-zero; answers = row-refused (table_ok t) (data_row t (name_in r)) r a out count refl not-zero }
  where
    number : ℕ
    number = open_number (table_ok t) (data_row t (name_in r)) r a (length out)

    -- where the number is 0, some p is opened
    not-zero : number ≡ 0 → ⊥
    not-zero e =
        let (p, opened) = some-opened t r a out count (open-number t r a out count ∙ e) in
        none p (as_seals t (name_in r) (iv_in r) a p r table-bytes (opened-sealed t r a out p table-bytes bytes opened))

pub sealed-opens : SealedOpens
sealed-opens t name iv a p r out count table-bytes bytes h room =
    (opens_exactly t r a out count p table-bytes bytes room).1 (rw (read.fields.name_is, read.iv_is) h)
  where
    s : SealedAs t name iv a p r
    s = seals_as t name iv a p r table-bytes bytes h

    u : ℕ
    u = s.able.found-row.row_use

    key : List ℕ
    key = s.able.found-row.row_key

    read : Laid u name (length p) iv (text_by u key iv p) (tag_by u key name iv a p) r
    read = as_laid t name iv a p r table-bytes s

-- ---- the header, there and back

pub header_there : HeaderThere
header_there u n name rest short few = read_back u n name rest short few

pub header_back : HeaderBack
header_back r bytes layout = front_back r bytes layout

pub end_sum : EndSum
end_sum u k n = each_mode (λ m. end_at m k n ≡ 52 + k + n) (omega arith) (omega arith) u

-- ---- other rows

pub seal_other-rows : SealOtherRows
seal_other-rows t u name iv a p out ok-t ok-u e = rw (ok-t, ok-u, e)

pub open_other-rows : OpenOtherRows
open_other-rows t u r a out count ok-t ok-u e = rw (ok-t, ok-u, e)

pub seal_beside_kek : SealBesideKek
seal_beside_kek t u row name iv a p out ok-t ok-u more kek =
    seal_other-rows u t name iv a p out ok-u ok-t (kek-row_more t u row name ok-u more kek)

pub open_beside_kek : OpenBesideKek
open_beside_kek t u row r a out count ok-t ok-u more kek =
    open_other-rows u t r a out count ok-u ok-t (kek-row_more t u row (name_in r) ok-u more kek)

-- ---- one answer

pub header_unique : HeaderUnique
header_unique r x y p q = says_same (λ (h : Header). h.mode ∷ h.k ∷ h.n ∷ []) same x y (p ∙ sym q)
  where
    same : (a b : Header) → ◌≡◌ {A = List ℕ} (a.mode ∷ a.k ∷ a.n ∷ []) (b.mode ∷ b.k ∷ b.n ∷ []) → a ≡ b
    same a b e = ap (λ (l : List ℕ). record { mode = get_or l 0 0; k = get_or l 1 0; n = get_or l 2 0 }) e

pub end_unique : EndUnique
end_unique r = unique (end_in r)

pub record_check_unique : RecordCheckUnique
record_check_unique r = unique (header_number r)

pub seal_unique : SealUnique
seal_unique t name iv a p out = unique (seal_answer t name iv a p out)

pub record_open_unique : RecordOpenUnique
record_open_unique t r a out count = unique (open_answer t r a out count)

-- ---- the numbers rise

pub header_tests_rise : HeaderTestsRise
header_tests_rise r = refl

pub seal_tests_rise : SealTestsRise
seal_tests_rise ok row name iv a n room = refl

pub record_tag_tests_rise : RecordTagTestsRise
record_tag_tests_rise key r a = refl

pub open_tests_rise : OpenTestsRise
open_tests_rise ok row r a room = refl
