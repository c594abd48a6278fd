-- The records of a dump and its tail: what can be read at a place, turn by turn, and the sum of the lengths.
-- Assumes nothing.
use Rattle.std.specs.List.{slice_range}
use mathlib.Core.Path.{◌≡◌, refl, sym, ap, ap₂, ◌∙◌}
use mathlib.Core.Bool.{Bool, true, false}
use mathlib.Core.List.{List, [], ◌∷◌, ◌++◌, flatten}
use Prim.Native.Nat.{ℕ, ◌+◌, ◌-◌, ◌*◌, ◌≤◌, ◌<◌}
use native.Mathlib.Omega.{arith}
use borrow.Author.Tests.{leb-true, eqb-true, lt-leb, le-leb, eq-eqb, ne_eqb, not-false}
use lib.Dec.{eqb, leb}
use lib.ListN.{length, get_or, take, drop, length-append, get_or-append}
use lib.Seq.{take-append_seam, length-take-le}
use Rattle.octets.specs.Split.{Split, split_by}
use Rattle.octets.specs.Tests.{all}
use Rattle.octets.proofs.Lent.{none_applies}
use Rattle.octets.proofs.Tests.{and_left, and_right, all_at}
use Rattle.octets.proofs.Split as o
use Rattle.record.specs.Record.{name_at, mode_in, count_in, name_size_lem, end_in, layout_ok}
use Rattle.record.specs.Read.{header_tests, header_number}
use Rattle.record.proofs.Laws.{end_sum}
use Rattle.record.proofs.Parts.{layout-kept}
use Rattle.report_text.specs.Dump.{readable, record_size_lem, records_in, tail_of}
use Rattle.report_text.specs.Report.{record_bytes}
use Rattle.report_text.specs.Laws.{RecordsThenTail, IsRecord, RecordByLayout, Reads, Stands, DumpExactly, TailUnreadable, ShortUnreadable, PastUnreadable, LengthsAddUp}

-- ---- a record's own end

pub end_is : (r : List ℕ) → end_in r ≡ 52 + name_size_lem r + count_in r
end_is r = end_sum (mode_in r) (name_size_lem r) (count_in r)

-- a record that document 01 does not refuse is as long as its layout says
pub is_record : (r : List ℕ) → header_number r ≡ 0 → IsRecord r
unfolding header_number
is_record r e = record { accepted = e; layout-long = long; long = long ∙ end_is r }
  where
    long : length r ≡ end_in r
    long = (layout-kept r (not-false (layout_ok r) (none_applies (header_tests r) 0 refl e))).end-at

-- ---- what can be read at the start of d

module _ (d : List ℕ) where
  pub readable-whole : readable d ≡ true → (end_in d ≤ length d) × (header_number (take (end_in d) d) ≡ 0)
  unfolding readable
  readable-whole e = (
    leb-true (end_in d) (length d) (and_left (leb (end_in d) (length d)) (eqb (header_number (take (end_in d) d)) 0) e),
    eqb-true (header_number (take (end_in d) d)) 0 (and_right (leb (end_in d) (length d)) (eqb (header_number (take (end_in d) d)) 0) e),
  )

  pub unreadable_past : length d < end_in d → readable d ≡ false
  unfolding readable
  unreadable_past h = rw (lt-leb (end_in d) (length d) h)

  pub unreadable-refused : end_in d ≤ length d → (header_number (take (end_in d) d) ≡ 0 → ⊥) → readable d ≡ false
  unfolding readable
  unreadable-refused h none = rw (le-leb (end_in d) (length d) h, ne_eqb (header_number (take (end_in d) d)) 0 none)

  pub readable_accepted : end_in d ≤ length d → header_number (take (end_in d) d) ≡ 0 → readable d ≡ true
  unfolding readable
  readable_accepted h e = rw (le-leb (end_in d) (length d) h, e)

  pub size_read : readable d ≡ true → record_size_lem d ≡ end_in d
  unfolding record_size_lem
  size_read e = rw e

  pub size-stop : readable d ≡ false → record_size_lem d ≡ 0
  unfolding record_size_lem
  size-stop e = rw e

  -- by whether it can be read
  by_reading : {A : Type 0} → (readable d ≡ true → A) → (readable d ≡ false → A) → A
  by_reading {A} read stop = go (readable d) refl
    where
      go : (b : Bool) → readable d ≡ b → A
      go true e = read e
      go false e = stop e

  pub size-zero : record_size_lem d ≡ 0 → readable d ≡ false
  size-zero e = by_reading (λ reads. absurd (let size = size_read reads in let sum = end_is d in omega (arith, size, sum, e))) (λ stops. stops)

  pub size-some : (record_size_lem d ≡ 0 → ⊥) → (readable d ≡ true) × (record_size_lem d ≡ end_in d)
  size-some f = by_reading (λ reads. (reads, size_read reads)) (λ stops. absurd (f (size-stop stops)))

-- the same by what the code finds: its header's end, and the number of the bytes up to there
module _ (d : List ℕ) {end : ℕ} (ends : end ≡ end_in d) where
  pub past_here : length d < end → readable d ≡ false
  past_here h = unreadable_past d (omega (arith, h, ends))

  module _ (reaches : end ≤ length d) {r : List ℕ} {n : ℕ} (cut : r ≡ slice_range d 0 end) (number : n ≡ header_number r) where
    cut_here : r ≡ take (end_in d) d
    cut_here = let up : end - 0 ≡ end_in d = omega (arith, ends) in cut ∙ ap (λ (k : ℕ). take k d) up

    number_here : n ≡ header_number (take (end_in d) d)
    number_here = number ∙ ap header_number cut_here

    pub refused_here : (n ≡ 0 → ⊥) → readable d ≡ false
    refused_here Some-number = unreadable-refused d (omega (arith, reaches, ends)) (λ z. Some-number (number_here ∙ z))

    pub accepted_here : n ≡ 0 → (readable d ≡ true) × (r ≡ take (end_in d) d)
    accepted_here none = (readable_accepted d (omega (arith, reaches, ends)) (sym number_here ∙ none), cut_here)

pub size_within : (d : List ℕ) → record_size_lem d ≤ length d
size_within d = by_reading d (λ reads. omega (arith, size_read d reads, (readable-whole d reads).0)) (λ stops. omega (arith, size-stop d stops))

first_accepted : (d : List ℕ) → (record_size_lem d ≡ 0 → ⊥) → eqb (header_number (take (record_size_lem d) d)) 0 ≡ true
first_accepted d f =
    let (reads, size) = size-some d f in
    eq-eqb (header_number (take (record_size_lem d) d)) 0 (ap (λ (n : ℕ). header_number (take n d)) size ∙ (readable-whole d reads).1)

-- ---- record by record

pub records_end : (d : List ℕ) → readable d ≡ false → records_in d ≡ []
records_end d stops = ap (λ (p : Split). p.0) (o.split-stop record_size_lem size_within d (size-stop d stops))

pub records_turn : (d : List ℕ) {r : List ℕ} → (readable d ≡ true) × (r ≡ take (end_in d) d) → records_in d ≡ r ∷ records_in (drop (length r) d)
records_turn d {r} (reads, is) =
    ap (λ (p : Split). p.0) (o.split_turn record_size_lem size_within d some)
    ∙ ap₂ (λ (x : List ℕ) (k : ℕ). x ∷ records_in (drop k d)) (ap (λ (k : ℕ). take k d) (size_read d reads) ∙ sym is) (size_read d reads ∙ sym long)
  where
    long : length r ≡ end_in d
    long = ap length is ∙ length-take-le (end_in d) d (readable-whole d reads).0

    some : record_size_lem d ≡ 0 → ⊥
    some z = omega (arith, z, size_read d reads, end_is d)

-- ---- the laws of parts that tell their own size, of records

pub records_then_tail : RecordsThenTail
records_then_tail = o.split_joined record_size_lem size_within

pub record-by_layout : RecordByLayout
record-by_layout d i h =
    is_record (get_or (records_in d) i [])
    (eqb-true (header_number (get_or (records_in d) i [])) 0
    (all_at (λ (r : List ℕ). eqb (header_number r) 0) (records_in d) i [] (o.split-whole record_size_lem size_within (λ (r : List ℕ). eqb (header_number r) 0) first_accepted d) h))

pub tail_unreadable : TailUnreadable
tail_unreadable d = size-zero (tail_of d) (o.split-left record_size_lem size_within d)

pub past_unreadable : PastUnreadable
past_unreadable = unreadable_past

pub short_unreadable : ShortUnreadable
short_unreadable d h = unreadable_past d (let sum = end_is d in omega (arith, h, sum))

-- what follows a record does not change its own end
end_kept : (r t : List ℕ) → name_at ≤ length r → end_in (r ++ t) ≡ end_in r
end_kept r t h =
    rw (
      get_or-append r t 0 2 (omega arith),
      get_or-append r t 0 4 (omega arith),
      get_or-append r t 0 5 (omega arith),
      get_or-append r t 0 6 (omega arith),
      get_or-append r t 0 7 (omega arith),
      get_or-append r t 0 10 (omega arith),
      get_or-append r t 0 11 (omega arith),
    )

record_told : (r t : List ℕ) → eqb (header_number r) 0 ≡ true → (record_size_lem (r ++ t) ≡ length r) × (length r ≡ 0 → ⊥)
record_told r t e = (
  size_read (r ++ t) (readable_accepted (r ++ t) (omega (arith, end_here, length-append r t)) (ap header_number first ∙ is.accepted)) ∙ end_here,
  λ z. omega (arith, z, is.long),
)
  where
    is : IsRecord r
    is = is_record r (eqb-true (header_number r) 0 e)

    end_here : end_in (r ++ t) ≡ length r
    end_here = end_kept r t (omega (arith, is.long)) ∙ sym is.layout-long

    first : take (end_in (r ++ t)) (r ++ t) ≡ r
    first = ap (λ (n : ℕ). take n (r ++ t)) end_here ∙ take-append_seam r t

pub dump_exactly : DumpExactly
dump_exactly d rs tail = (to, from)
  where
    accepts : List ℕ → Bool
    accepts r = eqb (header_number r) 0

    to : Reads d rs tail → Stands d rs tail
    to h = record {
      accepted = rw (← h.records_are) (o.split-whole record_size_lem size_within accepts first_accepted d);
      unreadable = rw (← h.tail_is) (tail_unreadable d);
      end_to_end = rw (← h.records_are, ← h.tail_is) (records_then_tail d);
    }

    from : Stands d rs tail → Reads d rs tail
    from h =
        let cut : split_by record_size_lem d ≡ (rs, tail) =
        ap (split_by record_size_lem) (sym h.end_to_end)
        ∙ o.split_parts record_size_lem size_within accepts record_told rs tail h.accepted (size-stop tail h.unreadable)
        in
        record { records_are = ap (λ (p : Split). p.0) cut; tail_is = ap (λ (p : Split). p.1) cut }

length-flatten : (rs : List (List ℕ)) → length (flatten rs) ≡ record_bytes rs
unfolding flatten record_bytes
length-flatten [] = refl
length-flatten (r ∷ rs) = length-append r (flatten rs) ∙ ap (λ (n : ℕ). length r + n) (length-flatten rs)

pub lengths_add_up : LengthsAddUp
lengths_add_up d =
    ap (λ (n : ℕ). n + length (tail_of d)) (sym (length-flatten (records_in d)))
    ∙ sym (length-append (flatten (records_in d)) (tail_of d))
    ∙ ap length (records_then_tail d)

-- each record is 52 bytes at least, so there are fewer than bytes
few : (rs : List (List ℕ)) → all (λ (r : List ℕ). eqb (header_number r) 0) rs ≡ true → 52 * length rs ≤ record_bytes rs
unfolding all record_bytes
few [] e = omega arith
few (r ∷ rs) e =
    let accepted = and_left (eqb (header_number r) 0) (all (λ (x : List ℕ). eqb (header_number x) 0) rs) e in
    let long = (is_record r (eqb-true (header_number r) 0 accepted)).long in
    let more = few rs (and_right (eqb (header_number r) 0) (all (λ (x : List ℕ). eqb (header_number x) 0) rs) e) in
    omega (arith, long, more)

pub records_few : (d : List ℕ) → 52 * length (records_in d) ≤ length d
records_few d = omega (arith, few (records_in d) (o.split-whole record_size_lem size_within (λ (r : List ℕ). eqb (header_number r) 0) first_accepted d), lengths_add_up d)
