-- Where the parts of a page are (document 02, No. 3: "Writing from what was read of an accepted page"): the reader's numbers, and places counted in the page.
-- Assumes nothing.
use Rattle.std.specs.Prelude.{ℕ, ◌+◌, List, [], ◌∷◌}
use Rattle.octets.specs.Lent.{kept}
use Rattle.keypage.specs.Layout.{key_part_at}
use Rattle.keypage.specs.Page.{format_in, key_part_of, list_at}
use Rattle.keypage.specs.KeyPart.{by_format, kek_type, identifier_at, wrapped_at}
use Rattle.keypage.specs.Read.{page_read_number}

-- of a KEY part of format 04h its KEK type, where the identifier begins, and where it ends and the wrapped key begins
abbrev pub wrapped_places : List ℕ → List ℕ
wrapped_places s = kek_type s ∷ (key_part_at + identifier_at) ∷ (key_part_at + wrapped_at s) ∷ []

-- of any other
abbrev pub not_wrapped : List ℕ
not_wrapped = 0 ∷ 0 ∷ 0 ∷ []

abbrev pub part_places : ℕ → List ℕ → List ℕ
part_places f s = by_format f not_wrapped not_wrapped (wrapped_places s) not_wrapped

-- where the list begins, and these
unfoldable pub places_of : List ℕ → List ℕ
places_of p = list_at p ∷ part_places (format_in p) (key_part_of p)

-- the places are lent, and changed by 0 alone
unfoldable pub places_answer : List ℕ → List ℕ → ℕ × List ℕ
places_answer p at = (page_read_number p, kept (page_read_number p) (places_of p) at)
