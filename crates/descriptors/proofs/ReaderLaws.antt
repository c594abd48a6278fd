-- The laws of specs/ReaderLaws.antt: what is proved of the cursor, over the reader's own calls.
-- Assumes nothing.
use mathlib.Core.Path.{◌≡◌, refl, sym, ap, ap₂, ◌∙◌}
use mathlib.Core.Bool.{Bool, true, false, false≢true}
use mathlib.Core.List.{List, []}
use Prim.Native.Nat.{ℕ, zero, suc, ◌-◌}
use native.Mathlib.Omega.{arith}
use lib.ListN.{length}
use denote.Ref.{Bor}
use Rattle.octets.specs.Tests.{part_of}
use Rattle.octets.specs.Places.{placed, part_in}
use Rattle.octets.proofs.Unique.{unique}
use Rattle.std.specs.Prelude.{Option, Some, None, Result, Ok, Err}
use Rattle.refusals.specs.declared.Refusal.{Refusal}
use Rattle.refusals.proofs.Laws.{refusal_unique, not_zero}
use Rattle.octets.specs.Split.{Split}
use Rattle.descriptors.specs.Tested.{list_ok, unreserved, count_of}
use Rattle.descriptors.specs.Steps.{cursor_at_start, BegunAnswer, AdvanceAnswer, advance_of, part_shown, cursor_after}
use Rattle.descriptors.specs.Readers.{standing, OpenedAnswer, opened_says, ShownAnswer, shown_says, seen, shown_of, next_of}
use Rattle.descriptors.specs.ReaderLaws.{ReaderRun, opening_of, step_of, ReaderCounts, ReaderShows, ReaderThenNothing, ReaderStrictExactly, ReaderStrictSame}
use Rattle.descriptors.specs.ReaderLaws.{ReaderRefusedStays, ReaderOpenUnique, ReaderNextUnique, PartAtUnique}
use Rattle.descriptors.specs.declared.cursor.Cursor.{Cursor}
use Rattle.descriptors.specs.declared.reader.Reader.{Reader}
use Rattle.descriptors.specs.declared.reader.Opened.{Opened}
use Rattle.descriptors.proofs.ReaderSteps.{none_shown}
use Rattle.descriptors.proofs.Split.{parse-split}
use Rattle.descriptors.proofs.Answers.{number_ok, begun-counted}
use Rattle.descriptors.proofs.Laws.{shows_in_order, then-nothing, refused_quiet, refused_stays}
use Rattle.descriptors.proofs.StrictLaws.{strict_lax, strict_free, lax_strict, strict-shows-same}

-- a reader's answer, and the reader after it
abbrev Next : Type 0
Next = ShownAnswer × Reader

-- one step more is one step after
after_last : (i : ℕ) (s : List ℕ) (c : Cursor) → cursor_after (suc i) s c ≡ (advance_of s (cursor_after i s c)).next
after_last zero s c = refl
after_last (suc i) s c = after_last i s (advance_of s c).next

module _ (l : Bor (List ℕ)) (label strict : Bool) (run : ReaderRun l label strict) where
  abbrev on : Cursor → Reader
  on c = standing l c

  -- the reader held after i steps stands on the list that was lent, where the cursor stands after i steps
  held_at : (i : ℕ) → run.held i ≡ on (cursor_after i l.now (cursor_at_start label strict))
  held_at zero = run.first ∙ ap (λ (o : OpenedAnswer). o.reader) run.opens
  held_at (suc i) =
      sym (ap (λ (n : Next). n.1) (run.steps i))
      ∙ ap (λ (d : Reader). (next_of d).1) (held_at i)
      ∙ ap on (sym (after_last i l.now (cursor_at_start label strict)))

  shown_at : (i : ℕ) → step_of l label strict run i ≡ shown_of (on (cursor_after i l.now (cursor_at_start label strict)))
  shown_at i = sym (ap (λ (n : Next). n.0) (run.steps i)) ∙ ap shown_of (held_at i)

  bytes-at : (i : ℕ) → (step_of l label strict run i).part.bytes ≡ part_shown l.now (advance_of l.now (cursor_after i l.now (cursor_at_start label strict)))
  bytes-at i = ap (λ (a : ShownAnswer). a.part.bytes) (shown_at i)

  accepted : (opening_of l label strict run).number ≡ 0 → list_ok label strict l.now ≡ true
  accepted e = number_ok label strict l.now (sym (ap (λ (o : OpenedAnswer). o.number) run.opens) ∙ e)

  -- an accepted list is opened with 0 and its count
  opens_ok : list_ok label strict l.now ≡ true → opening_of l label strict run ≡ record { number = 0; count = count_of label l.now; reader = on (cursor_at_start label strict) }
  opens_ok ok =
      run.opens
      ∙ ap (λ (b : BegunAnswer). record { number = b.number; count = b.count; reader = on b.place }) (sym (begun-counted label strict l.now (count_of label l.now) ok refl))

  module _ (ds : List (List ℕ)) where
    pub reader_counts : ReaderCounts l label strict run ds
    reader_counts e p =
        ap (λ (o : OpenedAnswer). o.count) (opens_ok (accepted e))
        ∙ ap (λ (q : Split). length (unreserved label q.0)) (parse-split l.now ds p)

    pub reader-shows : ReaderShows l label strict run ds
    reader-shows i e p h =
        let (number, shows, part) = shows_in_order label strict l.now ds i (accepted e) p h in
        let a = advance_of l.now (cursor_after i l.now (cursor_at_start label strict)) in (
          shown_at i ∙ ap₂ (λ (n : ℕ) (b : Bool). record { number = n; shows = b; part = part_in (placed l) a.from (a.end - a.from) }) number shows,
          bytes-at i ∙ part,
        )

    pub reader_then-nothing : ReaderThenNothing l label strict run ds
    reader_then-nothing i e p h =
        let still = then-nothing label strict l.now ds i (accepted e) p h in (
          none_shown (run.held i) (run.shown i) (ap (λ (a : ShownAnswer). a.number) (shown_at i) ∙ ap (λ (a : AdvanceAnswer). a.number) still)
              (ap (λ (a : ShownAnswer). a.shows) (shown_at i) ∙ ap (λ (a : AdvanceAnswer). a.shows) still),
          bytes-at i ∙ ap (part_shown l.now) still ∙ nothing l.now (cursor_after i l.now (cursor_at_start label strict)).at,
          held_at (suc i) ∙ ap on (after_last i l.now (cursor_at_start label strict) ∙ ap (λ (a : AdvanceAnswer). a.next) still) ∙ sym (held_at i),
        )
      where
        nothing : (s : List ℕ) (at : ℕ) → part_of s at (at - at) ≡ []
        nothing s at = let none : at - at ≡ 0 = omega arith in ap (part_of s at) none

module _ (l : Bor (List ℕ)) (label : Bool) (strictly : ReaderRun l label true) (old-way : ReaderRun l label false) where
  pub reader_strict_exactly : ReaderStrictExactly l label strictly old-way
  reader_strict_exactly = (
    λ e.
        let ok = accepted l label true strictly e in
        (ap (λ (o : OpenedAnswer). o.number) (opens_ok l label false old-way (strict_lax label l.now ok)), strict_free label l.now ok),
    λ h. ap (λ (o : OpenedAnswer). o.number) (opens_ok l label true strictly (lax_strict label l.now (accepted l label false old-way h.0) h.1)),
  )

  pub reader_strict-same : ReaderStrictSame l label strictly old-way
  reader_strict-same e =
      let ok = accepted l label true strictly e in (
        ap (λ (o : OpenedAnswer). o.count) (opens_ok l label true strictly ok) ∙ sym (ap (λ (o : OpenedAnswer). o.count) (opens_ok l label false old-way (strict_lax label l.now ok))),
        λ i.
            shown_at l label true strictly i
            ∙ ap (λ (a : ℕ × Bool × ℕ × ℕ). record { number = a.0; shows = a.1; part = part_in (placed l) a.2 (a.3 - a.2) }) (strict-shows-same label l.now i ok)
            ∙ sym (shown_at l label false old-way i),
      )

pub reader-refused_stays : ReaderRefusedStays
reader-refused_stays d f =
    let (shows, bytes) = refused_quiet d.list.now d.place f in (shows, bytes, ap (standing d.list) (refused_stays d.list.now d.place f))

opened_same : (l : Bor (List ℕ)) (label strict : Bool) (x y : Result Opened Refusal) → opened_says l label strict x ≡ opened_says l label strict y → x ≡ y
opened_same l label strict (Ok b) (Ok d) e = ap (λ (a : OpenedAnswer). Ok (record { count = a.count; reader = a.reader })) e
opened_same l label strict (Ok b) (Err f) e = absurd (not_zero f (ap (λ (a : OpenedAnswer). a.number) e))
opened_same l label strict (Err d) (Ok b) e = absurd (not_zero d (sym (ap (λ (a : OpenedAnswer). a.number) e)))
opened_same l label strict (Err d) (Err f) e = ap Err (refusal_unique d f (ap (λ (a : OpenedAnswer). a.number) e))

pub reader_open_unique : ReaderOpenUnique
reader_open_unique l label strict x y p q = opened_same l label strict x y (p ∙ sym q)

shown_same : (d : Reader) (x y : Result (Option (Bor (List ℕ))) Refusal) → shown_says d x ≡ shown_says d y → seen x ≡ seen y
shown_same d (Ok (Some p)) (Ok (Some q)) e = ap (λ (a : ShownAnswer). Ok (Some a.part)) e
shown_same d (Ok (Some p)) (Ok None) e = absurd (false≢true (sym (ap (λ (a : ShownAnswer). a.shows) e)))
shown_same d (Ok None) (Ok (Some q)) e = absurd (false≢true (ap (λ (a : ShownAnswer). a.shows) e))
shown_same d (Ok None) (Ok None) e = refl
shown_same d (Ok (Some p)) (Err f) e = absurd (not_zero f (ap (λ (a : ShownAnswer). a.number) e))
shown_same d (Ok None) (Err f) e = absurd (not_zero f (ap (λ (a : ShownAnswer). a.number) e))
shown_same d (Err g) (Ok (Some q)) e = absurd (not_zero g (sym (ap (λ (a : ShownAnswer). a.number) e)))
shown_same d (Err g) (Ok None) e = absurd (not_zero g (sym (ap (λ (a : ShownAnswer). a.number) e)))
shown_same d (Err g) (Err f) e = ap Err (refusal_unique g f (ap (λ (a : ShownAnswer). a.number) e))

pub reader_next_unique : ReaderNextUnique
reader_next_unique d x y r s p q =
    let both : ◌≡◌ {A = Next} (shown_says d x, r) (shown_says d y, s) = sym p ∙ q in
    (shown_same d x y (ap (λ (n : Next). n.0) both), ap (λ (n : Next). n.1) both)

pub part_at_unique : PartAtUnique
part_at_unique s from end = unique (part_in s from (end - from))
