-- Where the parts of a page are: the answer of an accepted page, and what the places tell of an accepted page.
-- Assumes nothing.
use mathlib.Core.Path.{◌≡◌, refl, sym, ap, ◌∙◌}
use mathlib.Core.List.{List, ◌∷◌}
use Prim.Native.Nat.{ℕ, ◌+◌, ◌-◌, ◌≤◌}
use native.Mathlib.Omega.{arith}
use lib.ListN.{length, drop}
use Rattle.octets.specs.Tests.{part_of}
use Rattle.octets.proofs.Tests.{part_short, drop_part, part_part}
use Rattle.octets.proofs.Unique.{unique}
use Rattle.keypage.specs.Layout.{key_part_at}
use Rattle.keypage.specs.Page.{format_in, key_length_of, key_part_of, list_at}
use Rattle.keypage.specs.KeyPart.{identifier_size_of, identifier_at, wrapped_at}
use Rattle.keypage.specs.Read.{page_read_number}
use Rattle.keypage.specs.Places.{not_wrapped, wrapped_places, places_of, places_answer}
use Rattle.keypage.specs.Laws.{PartLaid, plain, reference, wrapped, PlacesTell, WrappedTold, WrappedTell, OthersTellNone, PlacesUnique}
use Rattle.keypage.proofs.KeyPart.{of-wrapped, not-wrapped, part_laid}
use Rattle.keypage.proofs.Page.{read_part}

-- ---- the answer of an accepted page

places_stored : (p at : List ℕ) → page_read_number p ≡ 0 → places_answer p at ≡ (0, places_of p)
unfolding places_answer
places_stored p at done = rw done

-- ---- what the places tell

module _ (p before at : List ℕ) (e : places_answer p before ≡ (0, at)) where
  accepted : page_read_number p ≡ 0
  unfolding places_answer
  accepted = ap (λ (x : ℕ × List ℕ). x.0) e

  stored : at ≡ places_of p
  stored = ap (λ (x : ℕ × List ℕ). x.1) (sym e ∙ places_stored p before accepted)

pub places_tell : PlacesTell
unfolding places_of
places_tell p before at e =
    let size : key_length_of p ≡ list_at p - key_part_at = omega arith in
    rw (stored p before at e) (record { key_part = ap (part_of p key_part_at) size; list = refl })

pub wrapped_tell : WrappedTell
unfolding places_of
wrapped_tell p before at e is = rw (stored p before at e, of-wrapped (format_in p) not_wrapped not_wrapped (wrapped_places (key_part_of p)) not_wrapped is) told
  where
    s : List ℕ
    s = key_part_of p

    -- the identifier ends within the KEY part
    within : wrapped_at s ≤ length s
    within = go (part_laid (format_in p) s (read_part p (accepted p before at e)))
      where
        go : PartLaid (format_in p) s → wrapped_at s ≤ length s
        go (plain f size) = absurd (omega (arith, f, is))
        go (reference f least most) = absurd (omega (arith, f, is))
        go (wrapped f low high there most fits) = fits

    inside : wrapped_at s ≤ key_length_of p
    inside = omega (arith, within, part_short p key_part_at (key_length_of p))

    told : WrappedTold p (list_at p ∷ wrapped_places s)
    told =
        let size : identifier_size_of s ≡ key_part_at + wrapped_at s - (key_part_at + identifier_at) = omega arith in
        let rest : key_length_of p - wrapped_at s ≡ list_at p - (key_part_at + wrapped_at s) = omega arith in
        record {
          type = refl;
          identifier = part_part p key_part_at (key_length_of p) identifier_at (identifier_size_of s) inside ∙ ap (part_of p (key_part_at + identifier_at)) size;
          wrapped_key = drop_part p key_part_at (key_length_of p) (wrapped_at s) ∙ ap (part_of p (key_part_at + wrapped_at s)) rest;
        }

pub others_tell-none : OthersTellNone
unfolding places_of
others_tell-none p before at e other =
    ap (drop 1) (stored p before at e) ∙ not-wrapped (format_in p) (wrapped_places (key_part_of p)) not_wrapped other

pub places_unique : PlacesUnique
places_unique p at = unique (places_answer p at)
